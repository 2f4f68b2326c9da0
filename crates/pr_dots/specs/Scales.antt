-- Trusted: how many pixels a bitmap has for the place of a dot, which is 1/60 inch wide and 1/63 inch high: across and down.
use Rattle.std.specs.Prelude.{ℕ}
use Rattle.pr_dots.specs.declared.scale.Scale.{Scale}
use Rattle.pr_dots.specs.declared.scale.Scale.TheVariants.{One, Two, Three, Four, Five, Six, Seven, Eight}

abbrev pub pixels_of : Scale → ℕ
pixels_of One = 1
pixels_of Two = 2
pixels_of Three = 3
pixels_of Four = 4
pixels_of Five = 5
pixels_of Six = 6
pixels_of Seven = 7
pixels_of Eight = 8
