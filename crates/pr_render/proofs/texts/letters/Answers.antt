use Rattle.std.proofs.Common.{arith, length, ap, length-append}
use Rattle.pr_render.specs.Svg.{character_text}
use Rattle.pr_render.proofs.Joined.{letter-short}
use Rattle.pr_render.proofs.texts.letters.Goals as goal

pub new-requires : goal.new-requires
new-requires c =
    omega (
      arith,
      letter-short c.character.result (omega arith),
      c.as_slice.ensures.len,
      ap length c.in_ok-push_character.ensures,
      length-append c.clear.new.self.items (character_text c.character.result),
      c.clear.ensures.len,
    )
