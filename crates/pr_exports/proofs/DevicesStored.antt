-- A device comes back from its numbers, and what one moment leaves in them.
use Rattle.std.proofs.Common.{◌≡◌, ℕ, ◌==◌, Bool, true, false, List, ◌∷◌, Option, Some, None, refl, sym, ap, subst, ◌∙◌}
use Rattle.pr_wire.specs.declared.Edge.{Edge}
use Rattle.pr_device.specs.Data.{pulls, standing, wake}
use Rattle.pr_device.specs.Seen.{HasSeen, busy_until, device_of, event_at, is_pulling, timing_of}
use Rattle.pr_device.specs.Shown.{time_after}
use Rattle.pr_device.specs.Sound.{IsSound}
use Rattle.pr_device.specs.declared.place.Place.{Place}
use Rattle.pr_device.specs.declared.place.Place.TheVariants.{Between, Sent, Opening, Bits}
use Rattle.pr_device.specs.declared.state.State.{State}
use Rattle.pr_device.specs.declared.state.Step.{Step}
use Rattle.pr_exports.specs.Numbers.{flag}
use Rattle.pr_exports.specs.DeviceKept.{DevicesComeBack, WasShown, state_by, stored, stored_plain, with_change, with_place}
use Rattle.pr_exports.specs.Devices.{IsShown}
use Rattle.pr_exports.specs.declared.device_numbers.WireDevice.{WireDevice}

-- a flag comes back
pub flag-back : (b : Bool) → (flag b == 1) ≡ b
flag-back true = refl
flag-back false = refl

-- what a device keeps, but for where the lines are and ATN's last change, comes back whatever these are
with-back : (s : State) (p : Place) (o : Option ℕ) (listens called pulls atn clock : Bool)
    → listens ≡ s.listener.listens → called ≡ s.listener.called → pulls ≡ s.pulls → atn ≡ s.atn → clock ≡ s.clock
    → record s {
      listener = record s.listener { listens = listens; called = called };
      pulls = pulls;
      atn = atn;
      clock = clock;
      place = p;
      since = o;
    } ≡ record s { place = p; since = o }
with-back s p o listens called pulls atn clock a b c d e = rw (a, b, c, d, e) refl

-- the same by its numbers
flags-back : (s : State) (p : Place) (o : Option ℕ)
    → record s {
      listener = record s.listener { listens = flag s.listener.listens == 1; called = flag s.listener.called == 1 };
      pulls = flag s.pulls == 1;
      atn = flag s.atn == 1;
      clock = flag s.clock == 1;
      place = p;
      since = o;
    } ≡ record s { place = p; since = o }
flags-back s p o =
    with-back s p o (flag s.listener.listens == 1) (flag s.listener.called == 1) (flag s.pulls == 1) (flag s.atn == 1)
    (flag s.clock == 1) (flag-back s.listener.listens) (flag-back s.listener.called) (flag-back s.pulls)
    (flag-back s.atn) (flag-back s.clock)

-- all of it
place-back : (last : ℕ) (s : State) (p : Place) (o : Option ℕ)
    → state_by (with_change (with_place (stored_plain last s) p) o) ≡ record s { place = p; since = o }
place-back last s Between None = flags-back s Between None
place-back last s Between (Some t) = flags-back s Between (Some t)
place-back last s (Sent pull) None = flags-back s (Sent pull) None
place-back last s (Sent pull) (Some t) = flags-back s (Sent pull) (Some t)
place-back last s (Opening look None eoi) None = rw (flag-back eoi) (flags-back s (Opening look None eoi) None)
place-back last s (Opening look None eoi) (Some t) = rw (flag-back eoi) (flags-back s (Opening look None eoi) (Some t))
place-back last s (Opening look (Some free) eoi) None =
    rw (flag-back eoi) (flags-back s (Opening look (Some free) eoi) None)
place-back last s (Opening look (Some free) eoi) (Some t) =
    rw (flag-back eoi) (flags-back s (Opening look (Some free) eoi) (Some t))
place-back last s (Bits eoi count byte) None = rw (flag-back eoi) (flags-back s (Bits eoi count byte) None)
place-back last s (Bits eoi count byte) (Some t) = rw (flag-back eoi) (flags-back s (Bits eoi count byte) (Some t))

pub come-back : DevicesComeBack
come-back = λ last s. place-back last s s.place s.since

-- the version and the last moment stay, whatever ATN's last change was and wherever the lines are
change-keeps : (w : WireDevice) (o : Option ℕ)
    → ((with_change w o).version ≡ w.version) × ((with_change w o).last ≡ w.last)
change-keeps w None = (refl, refl)
change-keeps w (Some t) = (refl, refl)

place-keeps : (w : WireDevice) (p : Place)
    → ((with_place w p).version ≡ w.version) × ((with_place w p).last ≡ w.last)
place-keeps w Between = (refl, refl)
place-keeps w (Sent pull) = (refl, refl)
place-keeps w (Opening look None eoi) = (refl, refl)
place-keeps w (Opening look (Some free) eoi) = (refl, refl)
place-keeps w (Bits eoi count byte) = (refl, refl)

version-stored : (last : ℕ) (s : State) → (stored last s).version ≡ 1
version-stored last s =
    (change-keeps (with_place (stored_plain last s) s.place) s.since).0 ∙ (place-keeps (stored_plain last s) s.place).0

last-stored : (last : ℕ) (s : State) → (stored last s).last ≡ last
last-stored last s =
    (change-keeps (with_place (stored_plain last s) s.place) s.since).1 ∙ (place-keeps (stored_plain last s) s.place).1

-- the numbers of a device that was shown these moments
pub shown-stored : (history : List Edge) (last : ℕ) (s : State) → IsSound s → HasSeen history s
    → last ≡ time_after history → WasShown history (stored last s)
shown-stored history last s sound seen l =
    let back : s ≡ state_by (stored last s) = sym (come-back last s) in
    record {
      kept = record { version = version-stored last s; sound = subst IsSound back sound };
      seen = subst (λ x. HasSeen history x) back seen;
      last = last-stored last s ∙ l;
    }

-- one moment more
pub shown-next : (history : List Edge) (e : Edge) (old new : WireDevice) (s next : State) (step : Step)
    → s ≡ state_by old → new ≡ stored e.time next → IsSound next → HasSeen (e ∷ history) next
    → step.event ≡ event_at (timing_of s).wait (device_of s) history e
    → step.pulls_data ≡ pulls (timing_of s) (busy_until s) (is_pulling s)
    (standing (timing_of s).wait (device_of s) (e ∷ history)) e.time
    → step.wake ≡ wake (timing_of s) (busy_until s) step.pulls_data
    (standing (timing_of s).wait (device_of s) (e ∷ history)) e.time
    → is_pulling next ≡ step.pulls_data → device_of next ≡ device_of s → timing_of next ≡ timing_of s
    → busy_until next ≡ busy_until s
    → IsShown history e old new step
shown-next history e old new s next step is kept sound seen event does wakes pulling device timing busy =
    let back : state_by new ≡ next = ap state_by kept ∙ come-back e.time next in
    record {
      event = subst (λ x. step.event ≡ event_at (timing_of x).wait (device_of x) history e) is event;
      does = subst (λ x. step.pulls_data ≡ pulls (timing_of x) (busy_until x) (is_pulling x)
          (standing (timing_of x).wait (device_of x) (e ∷ history)) e.time) is does;
      wakes = subst (λ x. step.wake ≡ wake (timing_of x) (busy_until x) step.pulls_data
          (standing (timing_of x).wait (device_of x) (e ∷ history)) e.time) is wakes;
      shown = subst (λ w. WasShown (e ∷ history) w) (sym kept) (shown-stored (e ∷ history) e.time next sound seen refl);
      pulling = ap is_pulling back ∙ pulling;
      device = ap device_of back ∙ (device ∙ ap device_of is);
      timing = ap timing_of back ∙ (timing ∙ ap timing_of is);
      busy = ap busy_until back ∙ (busy ∙ ap busy_until is);
    }
