use Rattle.std.proofs.Common.{◌≡◌, length, false, Option, List, ℕ}
use Rattle.std.specs.Io.KnownBytes.{Appends}
use Rattle.pr_input.specs.PartlyWritten.{AppendsFront}
use Rattle.pr_input.proofs.read_write.write_piece.Given as goal

-- what completes the rest completes the text, and a front of the rest makes one of the text
abbrev pub invariant-loop-rest : goal.invariant-loop-rest
invariant-loop-rest g l = record {
  whole : (new : Option (List ℕ)) → Appends (g.W.Write.contents l.output.inner) new l.rest → Appends (g.W.Write.contents l.fn.output.inner) new l.fn.piece;
  front : (new : Option (List ℕ)) → AppendsFront (g.W.Write.contents l.output.inner) new l.rest → AppendsFront (g.W.Write.contents l.fn.output.inner) new l.fn.piece;
  fresh : l.output.failed ≡ false;
}

abbrev pub decreases-loop-rest : goal.decreases-loop-rest
decreases-loop-rest g l = length l.rest
