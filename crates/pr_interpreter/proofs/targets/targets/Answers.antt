use Rattle.std.proofs.Common.{◌≡◌, ◌∙◌, List, [], ◌∷◌, ◌++◌, ap}
use Rattle.std.proofs.lemmas.List.{take_rest}
use Rattle.pr_interpreter.specs.declared.lexemes.Lexeme.{Lexeme}
use Rattle.pr_interpreter.specs.declared.statements.Target.{Target}
use Rattle.pr_interpreter.specs.Reading.{others_of}
use Rattle.pr_interpreter.specs.Statements.{further_target, target}
use Rattle.pr_interpreter.proofs.ThenLemmas.{second_faults}
use Rattle.pr_interpreter.proofs.targets.targets.Goals as goal

pub returns-in-Err-clause-err : goal.returns-in-Err-clause-err
returns-in-Err-clause-err c =
    let one : c.put.new.found.items ≡ c.in_ok-first.first ∷ [] =
    c.in_ok-put.ensures.ok ∙ ap (λ (ts : List Target). ts ++ c.in_ok-first.first ∷ []) c.new-found.ensures.items in
    let rest = rw (take_rest c.args.lexemes.now c.in_ok-first.size) at c.in-Err.ensures.err in
    second_faults (target c.args.end c.args.lexemes.now) c.args.lexemes.now
    (λ (a : Target) (ts : List Lexeme). others_of further_target (a ∷ []) c.args.end ts) c.in_ok-first.first c.in_ok-first.size
    c.in-Err.fault c.in_ok-first.ensures.ok (rw one at rest)
