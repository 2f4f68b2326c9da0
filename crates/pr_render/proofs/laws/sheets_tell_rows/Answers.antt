use Rattle.pr_render.proofs.Documents.{sheets-tell}
use Rattle.pr_render.proofs.laws.sheets_tell_rows.Goals as goal

pub returns : goal.returns
returns c = sheets-tell
