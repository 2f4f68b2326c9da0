use Rattle.std.proofs.Common.{◌≡◌, ◌-◌, ◌≤◌, drop, length}
use Rattle.pr_programs.specs.Typed.{typed, typed_from, with_front}
use Rattle.pr_programs.proofs.typed.typed_text.Given as goal

-- the program's text so far and that of the bytes that are left are the whole
abbrev pub invariant-loop-place : goal.invariant-loop-place
invariant-loop-place l = record {
  leads : typed l.text ≡ with_front l.made.items (typed_from l.place 0 l.part (drop l.place l.text));
  within : l.place ≤ length l.text;
}

abbrev pub decreases-loop-place : goal.decreases-loop-place
decreases-loop-place l = length l.text - l.place
