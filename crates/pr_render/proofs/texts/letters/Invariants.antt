use Rattle.std.proofs.Common.{◌≡◌, ℕ, ◌<◌, List, get_or}
use Rattle.std.specs.Prelude.{vec_len}
use Rattle.pr_render.specs.Characters.{character}
use Rattle.pr_render.specs.Svg.{character_text}
use Rattle.pr_render.proofs.texts.letters.Given as goal

abbrev pub invariant-loop-n : goal.invariant-loop-n
invariant-loop-n l = record {
  count : vec_len l.texts ≡ l.n;
  right : (k : ℕ) (d : List ℕ) → k < l.n → get_or l.texts.items k d ≡ character_text (character l.lower k);
}
