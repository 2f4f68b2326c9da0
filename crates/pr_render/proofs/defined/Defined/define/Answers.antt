use Rattle.std.proofs.Common.{rules, ◌≡◌, ◌<◌, false, length, arith}
use Rattle.std.specs.Prelude.{slice_index_or}
use Rattle.pr_render.proofs.Defining.{defined_next}
use Rattle.pr_render.proofs.defined.Defined.define.Goals as goal

pub returns : goal.returns
returns c =
    let at : c.args.self.now ≡ c.self.inside.marks.items = search rules in
    let within : c.number_of-number.result < length c.self.inside.marks.items =
    grind (arith, c.self.invariant, c.number_of-number.ensures.within) in
    let none : slice_index_or c.self.inside.marks.items c.number_of-number.result false ≡ false =
    grind (arith, c.index.ensures, c.if-index.false) in
    λ rest. defined_next c.args.shapes.now c.self.inside.marks.items c.args.self.now c.args.mark c.number_of-number.result rest c.args.text.now.items
    c.push_definition.new.text.items at c.number_of-number.ensures.number within none c.in_ok-push_definition.ensures
