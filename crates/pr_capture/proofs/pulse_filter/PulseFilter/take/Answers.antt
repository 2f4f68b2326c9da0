use Rattle.std.proofs.Common.{◌≡◌, ◌≤◌, ◌++◌, ◌∷◌, [], ap, arith, length, ◌∙◌}
use Rattle.pr_capture.specs.declared.pulse_filter.PulseFilter.{PulseFilter}
use Rattle.pr_capture.proofs.Sifting.{sifts_decided}
use Rattle.pr_capture.proofs.pulse_filter.PulseFilter.take.Goals as goal

pub push-requires-2 : goal.push-requires-2
push-requires-2 c = omega (arith, c.as_slice.ensures.few, ap length c.as_slice.ensures.value, ap length c.in-Some.ensures.first, ap length c.decide-known.ensures.held)

pub returns : goal.returns
returns c =
    let new : PulseFilter = record { limit = c.decide-known.new.self.limit; told = c.decide-known.new.self.told; held = c.push-2.new.self } in
    let full : 15 ≤ length c.pop_front.new.self = omega (arith, c.if-as_slice-le-AHEAD.false, ap length c.as_slice.ensures.value, ap length c.in-Some.ensures.first) in
    let behind : c.push-2.new.self ≡ c.pop_front.new.self ++ c.args.edge ∷ [] = c.in_ok-push-2.ensures ∙ ap (λ v. v ++ c.args.edge ∷ []) c.decide-known.ensures.held in
    sifts_decided c.args.self.now new c.args.edge c.in-Some.front c.pop_front.new.self c.decide-known.result c.in-Some.ensures.first full c.decide-known.ensures.known c.decide-known.ensures.limit c.decide-known.ensures.told behind
