use Rattle.std.proofs.Common.{◌≡◌, ◌++◌, drop}
use Rattle.std.specs.Prelude.{flat_map}
use Rattle.pr_pdf.specs.Pdf.{place_pdf}
use Rattle.pr_pdf.proofs.document.push_places.Given as goal

-- the text so far and that of what is left make the whole
abbrev pub invariant-loop-place : goal.invariant-loop-place
invariant-loop-place l = l.text.items ++ flat_map place_pdf (drop l.place-index l.places) ≡ l.fn.text.items ++ flat_map place_pdf l.places
