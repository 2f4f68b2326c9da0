use Rattle.std.proofs.Common.{◌≡◌, ◌++◌, drop}
use Rattle.std.specs.Prelude.{flat_map, codes, decimal}
use Rattle.pr_jobs.proofs.page_text.Texts.push_numbers.Given as goal

-- the text so far and that of what is left make the whole
abbrev pub invariant-loop-n : goal.invariant-loop-n
invariant-loop-n l = l.text ++ flat_map (λ n. codes " " ++ decimal n) (drop l.n-index l.numbers) ≡ l.fn.text ++ l.name ++ flat_map (λ n. codes " " ++ decimal n) l.numbers
