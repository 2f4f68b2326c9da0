-- Trusted: what a device does to DATA, and when it wants to be called again.
use Rattle.std.specs.Prelude.{ℕ, ◌+◌, ◌==◌, nat_lt, max, Bool, true, false, not, ◌&&◌, ◌||◌, if◌then◌else◌, List}
use Rattle.std.specs.Prelude.{Option, Some, None}
use Rattle.pr_wire.specs.declared.Edge.{Edge}
use Rattle.pr_receiver.specs.Heard.{is_listening}
use Rattle.pr_device.specs.declared.timing.Timing.{Timing}
use Rattle.pr_device.specs.declared.place.Place.{Place}
use Rattle.pr_device.specs.declared.place.Place.TheVariants.{Between, Sent, Opening, Bits}
use Rattle.pr_device.specs.Following.{atn_of, clock_of, since_of, place_after, said}

-- how things stand for a device: the levels of ATN and CLOCK, the moment of ATN's last change, whether the device
-- listens, and where the lines are
pub record Standing : Type 0 where
  pub atn : Bool
  pub clock : Bool
  pub since : Option ℕ
  pub listens : Bool
  pub place : Place

-- how they stand after a history
abbrev pub standing : ℕ → ℕ → List Edge → Standing
standing wait device history = record {
  atn = atn_of history;
  clock = clock_of history;
  since = since_of history;
  listens = is_listening device (said wait history);
  place = place_after wait history;
}

-- nobody speaks to the device: ATN is released, and it does not listen
abbrev pub is_away : Standing → Bool
is_away s = s.atn && not s.listens

-- a device that is away releases DATA after ATN's release
abbrev pub leaves : Timing → Bool → Option ℕ → ℕ → Bool
leaves t before None now = false
leaves t before (Some released) now = before && nat_lt now (released + t.leave)

-- ATN is pulled, and no byte has begun: the device pulls DATA in answer
abbrev pub calls : Timing → Bool → Option ℕ → ℕ → Bool
calls t before None now = before
calls t before (Some pulled) now = before || not (nat_lt now (pulled + t.attention))

-- a device to which somebody speaks pulls DATA while CLOCK is pulled between two bytes, from the acknowledgement on;
-- holds it after CLOCK's release, and for as long as it prints; and answers end-or-identify
abbrev pub pulls_at : Timing → ℕ → Bool → Standing → Place → ℕ → Bool
pulls_at t until before s Between now = if s.atn then not s.clock else calls t before s.since now
pulls_at t until before s (Sent pull) now = before || not (nat_lt now (pull + t.accept))
pulls_at t until before s (Opening look None eoi) now =
    (before || now == look) && nat_lt now (max (look + t.hold) until)
pulls_at t until before s (Opening look (Some free) eoi) now =
    s.atn && (not (nat_lt now (free + t.wait)) && nat_lt now (free + t.wait + t.answer))
pulls_at t until before s (Bits eoi count byte) now = false

-- whether a device pulls DATA from a moment on; `before` is whether it pulled DATA until then, and `until` how long it
-- prints
abbrev pub pulls : Timing → ℕ → Bool → Standing → ℕ → Bool
pulls t until before s now =
    if is_away s then leaves t before s.since now else pulls_at t until before s s.place now

-- a moment, only if a test holds
abbrev pub where_true : Bool → ℕ → Option ℕ
where_true true moment = Some moment
where_true false moment = None

-- the moment a delay after another one, if there is that
abbrev pub after : Option ℕ → ℕ → Option ℕ
after None delay = None
after (Some moment) delay = Some (moment + delay)

-- the same, only if a test holds
abbrev pub after_where : Bool → Option ℕ → ℕ → Option ℕ
after_where true moment delay = after moment delay
after_where false moment delay = None

-- the next moment at which a device to which somebody speaks pulls or releases DATA, if the lines stay
abbrev pub wake_at : Timing → ℕ → Bool → Standing → Place → ℕ → Option ℕ
wake_at t until held s Between now = after_where (not s.atn && not held) s.since t.attention
wake_at t until held s (Sent pull) now = where_true (not held) (pull + t.accept)
wake_at t until held s (Opening look None eoi) now = where_true held (max (look + t.hold) until)
wake_at t until held s (Opening look (Some free) eoi) now =
    if nat_lt now (free + t.wait) then where_true s.atn (free + t.wait)
    else where_true (s.atn && nat_lt now (free + t.wait + t.answer)) (free + t.wait + t.answer)
wake_at t until held s (Bits eoi count byte) now = None

-- the next moment at which a device pulls or releases DATA, if the lines stay; `held` is whether it pulls DATA now
abbrev pub wake : Timing → ℕ → Bool → Standing → ℕ → Option ℕ
wake t until held s now =
    if is_away s then after_where held s.since t.leave else wake_at t until held s s.place now
