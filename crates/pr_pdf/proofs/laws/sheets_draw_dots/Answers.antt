use Rattle.pr_pdf.proofs.DiscByDisc.{sheets_draw}
use Rattle.pr_pdf.proofs.laws.sheets_draw_dots.Goals as goal

pub returns : goal.returns
returns c = sheets_draw
