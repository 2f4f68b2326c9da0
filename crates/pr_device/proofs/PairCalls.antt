-- Each device of the pair can be called at its wakes, while the timed trace is made.
use Rattle.std.proofs.Common.{◌≡◌, Bool, true, false, List, [], ◌∷◌, map, sym, ap, subst, ◌∙◌, refl, arith}
use Rattle.std.specs.Prelude.{reverse}
use Rattle.pr_serial.specs.Bus.{DelayNumbers}
use Rattle.pr_wire.specs.declared.Edge.{Edge}
use Rattle.pr_bus.specs.Timed.{Lines, Free, Pulled, Due, trace_from}
use Rattle.pr_bus.specs.WiresState.{state_from}
use Rattle.pr_device.specs.declared.timing.Timing.{Timing}
use Rattle.pr_device.specs.Timing.{IsTiming}
use Rattle.pr_device.specs.Course.{Party, Each, Move, after_moves}
use Rattle.pr_device.specs.Shown.{CanBeCalled, GoForward}
use Rattle.pr_device.specs.Laws.{DevicesCanBeCalled}
use Rattle.pr_device.specs.Numbers.{devices_of, delays_for}
use Rattle.pr_device.specs.Paired.{IsInTime}
use Rattle.pr_device.specs.PairLaws.{PairsMakeTraces, TimedTracesGoForward, PairsCanBeCalled, moves_of, TraceIsMade}
use Rattle.pr_device.proofs.Walking.{onto}
use Rattle.pr_device.proofs.Talking.{reverse-onto}

-- the edges of moves, the latest first
after-edges : (h : List Edge) (ms : List Move) → after_moves h ms ≡ onto (map (λ (m : Move). m.edge) ms) h
after-edges h [] = refl
after-edges h (m ∷ ms) = after-edges (m.edge ∷ h) ms

in-time : (l : Lines) → IsInTime l 0
in-time Free = tt
in-time Pulled = tt
in-time (Due d) = omega arith

-- those of the pair that are present
each-present : (a b : Bool) (four five : Timing) → IsTiming four → IsTiming five
    → Each (λ (p : Party). IsTiming p.timing) (devices_of (record { four = a; five = b }) four five)
each-present true true four five t u = (t, (u, tt))
each-present true false four five t u = (t, tt)
each-present false true four five t u = (u, tt)
each-present false false four five t u = tt

pub pairs-called : PairsMakeTraces → DevicesCanBeCalled → TimedTracesGoForward → PairsCanBeCalled
pairs-called make call forward present computer four five items i o t u =
    let delays : DelayNumbers = delays_for computer four five items in
    let ms : List Move = moves_of present delays items in
    let devices : List Party = devices_of present four five in
    let made : TraceIsMade present delays devices items 0 =
    make present computer four five items 0 i o t u (in-time (state_from present delays items).lines) in
    let e : after_moves [] ms ≡ reverse (trace_from present delays items) =
    after-edges [] ms ∙ (ap (λ l. onto l []) made.edges ∙ sym (reverse-onto (trace_from present delays items))) in
    subst (λ g. Each (λ (p : Party). CanBeCalled p g) devices) e
    (call devices ms 0 (each-present present.four present.five four five t u)
    (subst (GoForward 0) (sym made.edges) (forward present delays items i)) made.made)
