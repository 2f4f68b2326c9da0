use Rattle.pr_pdf.proofs.DotByDot.{papers_drawn}
use Rattle.pr_pdf.proofs.laws.sheets_draw_papers.Goals as goal

pub returns : goal.returns
returns c = papers_drawn
