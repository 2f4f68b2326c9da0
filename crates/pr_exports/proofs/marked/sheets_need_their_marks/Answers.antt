use Rattle.pr_exports.proofs.SheetTexts.{sheets_png, sheets_svg}
use Rattle.pr_exports.proofs.marked.sheets_need_their_marks.Goals as goal

pub returns-clause-svg : goal.returns-clause-svg
returns-clause-svg c = sheets_svg

pub returns-clause-png : goal.returns-clause-png
returns-clause-png c = sheets_png
