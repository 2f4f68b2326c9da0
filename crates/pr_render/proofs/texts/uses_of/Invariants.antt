use Rattle.std.proofs.Common.{◌≡◌, ℕ, ◌<◌, List, ◌++◌, get_or, decimal}
use Rattle.std.specs.Prelude.{vec_len}
use Rattle.pr_render.specs.Parts.{use_begin}
use Rattle.pr_render.proofs.texts.uses_of.Given as goal

abbrev pub invariant-loop-n : goal.invariant-loop-n
invariant-loop-n l = record {
  count : vec_len l.texts ≡ l.n;
  right : (k : ℕ) (d : List ℕ) → k < l.n → get_or l.texts.items k d ≡ use_begin ++ l.kind ++ decimal k;
}
