use Rattle.std.proofs.Common.{List, ℕ, subst, sym}
use Rattle.pr_basic.specs.declared.statement.Statement.{Statement}
use Rattle.pr_basic.specs.Grammar.{IsScript}
use Rattle.pr_jobs.specs.Bus.{AnswersBusAs}
use Rattle.pr_jobs.proofs.BusLemmas.{of_known, bus_answered}
use Rattle.pr_jobs.proofs.bus.write_bus_trace.Goals as goal

pub returns-clause-bus : goal.returns-clause-bus
returns-clause-bus g c =
    let start = c.args.start in
    let old = g.W.Write.contents c.args.output.now.inner in
    let new = g.W.Write.contents c.write_run.new.output.inner in
    let laws = c.steps_make_the_run.ensures in
    let P : List ℕ → Type 0 = λ bytes. IsScript bytes c.in_ok-statements.statements.items in
    let Q : List Statement → Type 0 = λ statements. IsScript c.in_ok-script.script.items statements in
    let is = subst Q (sym c.deref-2.ensures.value) (subst P c.deref.ensures.value c.in_ok-statements.ensures.read) in
    of_known _ c.in_ok-script.script.items (λ script. AnswersBusAs start c.args.format script old new c.write_run.result) c.in_ok-script.ensures.ok
    (bus_answered laws.run laws.trace start c.args.format c.in_ok-script.script.items c.deref-2.result.now old new c.write_run.result c.in_ok-script.ensures.within is c.write_run.ensures.trace)
