use Rattle.std.proofs.Common.{arith, sym, length, ◌≡◌, ◌∙◌}
use Rattle.std.proofs.lemmas.List.{take_rest}
use Rattle.pr_wire.proofs.TextLaws.{read_none, read_more, read_all, read_bad, bad_none, empty_list}
use Rattle.pr_wire.proofs.text.read_trace.Goals as goal

pub returns-in_default-clause-err : goal.returns-in_default-clause-err
returns-in_default-clause-err c =
    let e : c.len.result ≡ length c.loop-rest.edges.items = grind (arith, c.len.ensures) in
    rw e (read_bad _ c.loop-rest.rest.now _ c.loop-rest.invariant (grind arith) (sym c.read_line.ensures.line ∙ c.in_default.is))

pub returns-in_default-clause-not_text : goal.returns-in_default-clause-not_text
returns-in_default-clause-not_text c = λ n edges.
    bad_none _ _ edges (read_bad _ c.loop-rest.rest.now _ c.loop-rest.invariant (grind arith) (sym c.read_line.ensures.line ∙ c.in_default.is))

pub loop-rest-init : goal.loop-rest-init
loop-rest-init c = rw c.new-edges.ensures.items (read_none _)

pub loop-rest-preserved : goal.loop-rest-preserved
loop-rest-preserved c =
    rw (take_rest, c.in_ok-push.ensures.items) (read_more _ c.loop-rest.rest.now _ c.in-Some.line c.loop-rest.invariant (sym c.read_line.ensures.line ∙ c.in-Some.is))

pub returns-clause-ok : goal.returns-clause-ok
returns-clause-ok c = read_all _ c.loop-rest.rest.now _ c.loop-rest.invariant (empty_list _ (grind arith))
