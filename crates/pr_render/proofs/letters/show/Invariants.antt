use Rattle.std.proofs.Common.{◌≡◌, drop}
use Rattle.pr_render.specs.Svg.{shows}
use Rattle.pr_render.specs.Tables.{characters_of}
use Rattle.pr_render.proofs.letters.show.Given as goal

-- what is left shows a character exactly if the whole does
abbrev pub invariant-loop-placed : goal.invariant-loop-placed
invariant-loop-placed l = shows (characters_of (drop l.placed-index l.marks)) ≡ shows (characters_of l.marks)
