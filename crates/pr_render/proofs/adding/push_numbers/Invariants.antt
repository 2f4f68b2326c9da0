use Rattle.std.proofs.Common.{◌≡◌, ◌+◌, ◌++◌, drop}
use Rattle.pr_render.specs.Words.{numbers_text}
use Rattle.pr_render.proofs.adding.push_numbers.Given as goal

-- the text so far and that of what is left make the whole
abbrev pub invariant-loop-n : goal.invariant-loop-n
invariant-loop-n l = record {
  text : l.text.items ++ numbers_text l.line l.count (drop l.n-index l.numbers) ≡ l.fn.text.items ++ numbers_text l.line 1 l.numbers;
  count : l.count ≡ l.n-index + 1;
}
