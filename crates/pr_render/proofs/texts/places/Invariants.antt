use Rattle.std.proofs.Common.{◌≡◌, ℕ, ◌*◌, ◌<◌, List, ◌++◌, get_or, decimal}
use Rattle.std.specs.Prelude.{vec_len}
use Rattle.pr_render.specs.Parts.{use_end, use_place}
use Rattle.pr_render.proofs.texts.places.Given as goal

abbrev pub invariant-loop-x : goal.invariant-loop-x
invariant-loop-x l = record {
  count : vec_len l.texts ≡ l.x;
  right : (k : ℕ) (d : List ℕ) → k < l.x → get_or l.texts.items k d ≡ use_place ++ decimal (21 * k) ++ use_end;
}
