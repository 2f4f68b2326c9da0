use Rattle.std.proofs.Common.{◌<◌, ◌≢◌, [], length, arith, below_more, get_or-set_other, get_or-set_same}
use Rattle.std.proofs.lemmas.Grind.{common_steps}
use Rattle.pr_characters.specs.Rows.{columns_at, pictures_at}
use Rattle.pr_characters.proofs.Elements.{are_given}
use Rattle.pr_characters.proofs.pictures.pictures_at.Goals as goal

pub loop-place-preserved : goal.loop-place-preserved
loop-place-preserved c = record {
  whole = grind (arith, common_steps, c.loop-place.invariant.whole);
  given =
      let within : c.loop-place.place < length c.loop-place.pictures = omega (arith, c.loop-place.invariant.whole) in
      below_more _ _
      (λ k h. let ne : k ≢ c.loop-place.place = omega arith in rw get_or-set_other (c.loop-place.invariant.given k h))
      (rw get_or-set_same c.columns_at.ensures);
}

pub returns : goal.returns
unfolding pictures_at
returns c =
    are_given (columns_at c.args.rows.now) c.args.first 128 [] c.loop-place.pictures c.loop-place.invariant.whole
    (λ k h. c.loop-place.invariant.given k (omega arith))
