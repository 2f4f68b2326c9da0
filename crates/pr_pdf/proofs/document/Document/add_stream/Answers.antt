use Rattle.std.proofs.Common.{arith}
use Rattle.std.proofs.lemmas.Grind.{common_steps}
use Rattle.pr_pdf.specs.Pdf.{object_pdf}
use Rattle.pr_pdf.proofs.Objects.{one_more}
use Rattle.pr_pdf.proofs.document.Document.add_stream.Goals as goal

pub returns : goal.returns
unfolding object_pdf
returns c = one_more _ _ _ (grind (arith, common_steps)) (grind (arith, common_steps))
