use Rattle.std.proofs.Common.{List, ap, sym, ◌∙◌}
use Rattle.pr_interpreter.specs.Memory.{array_of}
use Rattle.pr_interpreter.specs.Working.{element_of, seen}
use Rattle.pr_interpreter.specs.declared.memory.Array.{Array}
use Rattle.pr_interpreter.proofs.EvaluationLemmas.{in_array_some}
use Rattle.pr_interpreter.proofs.evaluation.Work.in_array.Goals as goal

pub returns-in_ok-give-in-Some : goal.returns-in_ok-give-in-Some
returns-in_ok-give-in-Some c =
    let found =
    c.in_ok-found.ensures
    ∙ ap (λ (arrays : List Array). element_of (array_of c.args.name arrays) c.args.indices.now) c.as_slice.ensures in
    in_array_some c.args.room c.args.place c.args.name c.args.indices.now (seen c.args.self.now) (seen c.give.new.self)
    (array_of c.args.name c.args.self.now.arrays.list) c.in-Some.given (sym c.in-Some.is ∙ found)
    c.in_ok-give-in-Some.ensures
