use Rattle.std.proofs.Common.{◌≡◌, Some, ap, arith, length-drop, refl, subst, sym, ◌∙◌}
use Rattle.std.proofs.lemmas.List.{take_rest}
use Rattle.pr_capture.specs.declared.csv.CsvReader.{CsvReader}
use Rattle.pr_capture.specs.declared.last_row.LastRow.{LastRow}
use Rattle.pr_capture.proofs.CsvRepeats.{SkipsFront, all-skipped, skip-more, skip-none}
use Rattle.pr_capture.proofs.csv.CsvReader.take_rows.Goals as goal

pub loop-self-init : goal.loop-self-init
loop-self-init c = record { taken = skip-none _ _ _; number = omega arith; within = omega arith; stays = refl }

pub loop-self-preserved : goal.loop-self-preserved
loop-self-preserved c =
    let n = c.in-Some.len in
    let rest = c.loop-self.rest.now in
    let inv = c.loop-self.invariant in
    let same : c.in-Some.sample.levels ≡ c.args.levels =
    (let e : Some c.in-Some.sample.levels ≡ Some c.args.levels = sym c.in-Some.ensures.levels ∙ (ap (λ (l : LastRow). l.levels) inv.stays ∙ c.requires.levels) in cc) in
    rw take_rest (record {
      taken = skip-more _ rest _ _ _ _ _ n c.in-Some.sample inv.taken same c.in-Some.ensures.read c.in-Some.ensures.some c.in-Some.ensures.within;
      number = omega (arith, length-drop n rest, c.in-Some.ensures.number, c.in-Some.ensures.some, c.in-Some.ensures.within, inv.number);
      within = omega (arith, length-drop n rest, inv.within);
      stays = c.take_repeat.ensures.last ∙ inv.stays;
    })

pub returns-in-None : goal.returns-in-None
returns-in-None c =
    let inv = c.loop-self.invariant in
    let old = c.args.self.now in
    let new = c.take_repeat.new.self in
    let block = c.args.block.now in
    let rest = c.loop-self.rest.now in
    let same : new ≡ c.loop-self.self = c.take_repeat.ensures.same c.in-None.is in
    let number : new.number ≡ c.loop-self.self.number = ap (λ (r : CsvReader). r.number) same in
    let taken : SkipsFront block rest c.args.levels c.loop-self.last old new =
    subst (λ (r : CsvReader). SkipsFront block rest c.args.levels c.loop-self.last old r) (sym same) inv.taken in
    rw c.with_len.ensures (all-skipped block rest c.args.levels c.loop-self.last old new _ taken refl (omega (arith, number, inv.number)))

pub returns : goal.returns
returns c =
    let inv = c.loop-self.invariant in
    rw c.with_len-2.ensures (all-skipped c.args.block.now c.loop-self.rest.now c.args.levels c.loop-self.last c.args.self.now c.loop-self.self _ inv.taken refl inv.number)
