use Rattle.std.proofs.Common.{◌≡◌, drop}
use Rattle.pr_capture.specs.Recording.{is_named}
use Rattle.pr_capture.proofs.signals.is_named.Given as goal

-- the letters left decide
abbrev pub invariant-loop-letter : goal.invariant-loop-letter
invariant-loop-letter l = is_named (drop l.letter-index l.name) l.left ≡ is_named l.name l.field
