use Rattle.std.proofs.Common.{◌≡◌, ◌-◌, ◌≤◌, drop, length}
use Rattle.pr_programs.specs.Typed.{place_from, place_of}
use Rattle.pr_programs.proofs.typed.place_of.Given as goal

-- the place is that of what is left in the bytes that are left
abbrev pub invariant-loop-place : goal.invariant-loop-place
invariant-loop-place l = record {
  leads : place_of l.text l.made ≡ place_from l.place 0 l.part l.left (drop l.place l.text);
  within : l.place ≤ length l.text;
}

abbrev pub decreases-loop-place : goal.decreases-loop-place
decreases-loop-place l = length l.text - l.place
