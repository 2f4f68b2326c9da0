use Rattle.std.proofs.Common.{◌∷◌, [], ◌++◌, ap, ◌∙◌}
use Rattle.pr_wire.specs.Levels.{start}
use Rattle.pr_bus.proofs.PortLemmas.{first-heard, first-ready, start-allowed}
use Rattle.pr_bus.proofs.log.Log.new.Goals as goal

pub listen-requires-clause-may : goal.listen-requires-clause-may
listen-requires-clause-may c =
    first-ready 4 c.args.present.four c.new-four.result c.deref.result.now
    (c.deref.ensures.value ∙ c.in_ok-push.ensures ∙ ap (λ l. l ++ start ∷ []) c.new-trace.ensures.items)
    (start-allowed c.timed_traces_spell.ensures c.fronts_are_allowed.ensures.lawful c.args.present) c.new-four.ensures

pub listen-requires-2-clause-may : goal.listen-requires-2-clause-may
listen-requires-2-clause-may c =
    first-ready 5 c.args.present.five c.new-five.result c.deref-2.result.now
    (c.deref-2.ensures.value ∙ c.in_ok-push.ensures ∙ ap (λ l. l ++ start ∷ []) c.new-trace.ensures.items)
    (start-allowed c.timed_traces_spell.ensures c.fronts_are_allowed.ensures.lawful c.args.present) c.new-five.ensures

pub returns-clause-four : goal.returns-clause-four
returns-clause-four c =
    first-heard 4 c.args.present.four c.new-four.result c.listen.new.self c.deref.result.now
    (c.deref.ensures.value ∙ c.in_ok-push.ensures ∙ ap (λ l. l ++ start ∷ []) c.new-trace.ensures.items)
    (start-allowed c.timed_traces_spell.ensures c.fronts_are_allowed.ensures.lawful c.args.present) c.new-four.ensures c.listen.ensures

pub returns-clause-five : goal.returns-clause-five
returns-clause-five c =
    first-heard 5 c.args.present.five c.new-five.result c.listen-2.new.self c.deref-2.result.now
    (c.deref-2.ensures.value ∙ c.in_ok-push.ensures ∙ ap (λ l. l ++ start ∷ []) c.new-trace.ensures.items)
    (start-allowed c.timed_traces_spell.ensures c.fronts_are_allowed.ensures.lawful c.args.present) c.new-five.ensures c.listen-2.ensures
