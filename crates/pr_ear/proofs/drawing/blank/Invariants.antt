use Rattle.std.proofs.Common.{◌≡◌, ◌++◌, drop}
use Rattle.std.specs.Prelude.{replicate}
use Rattle.pr_ear.proofs.drawing.blank.Given as goal

-- the places so far are light
abbrev pub invariant-loop-place : goal.invariant-loop-place
invariant-loop-place l = l.out ≡ replicate l.place 255 ++ drop l.place l.initial.out
