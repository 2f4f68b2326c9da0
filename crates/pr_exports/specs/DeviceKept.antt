-- Linking words: how a device is held in numbers, and which moments it was shown. No reader needs to believe them: what
-- the calls do with `WasShown` is in `Devices`.
use Rattle.std.specs.Prelude.{◌≡◌, ℕ, ◌==◌, if◌then◌else◌, List, Option, Some, None}
use Rattle.pr_wire.specs.declared.Edge.{Edge}
use Rattle.pr_device.specs.declared.place.Place.{Place}
use Rattle.pr_device.specs.declared.place.Place.TheVariants.{Between, Sent, Opening, Bits}
use Rattle.pr_device.specs.declared.state.State.{State}
use Rattle.pr_device.specs.declared.timing.Timing.{Timing}
use Rattle.pr_device.specs.Seen.{HasSeen}
use Rattle.pr_device.specs.Shown.{time_after}
use Rattle.pr_device.specs.Sound.{IsSound}
use Rattle.pr_exports.specs.Numbers.{flag}
use Rattle.pr_exports.specs.declared.device_numbers.WireDevice.{WireDevice}
use Rattle.pr_exports.specs.declared.device_numbers.WireTiming.{WireTiming}

-- what numbers mean that a device keeps
abbrev pub place_by : WireDevice → Place
place_by w =
    if w.place == 1 then Sent w.clock_moment
    else (if w.place == 2 then Opening w.clock_moment None (w.eoi == 1)
    else (if w.place == 3 then Opening w.clock_moment (Some w.free) (w.eoi == 1)
    else (if w.place == 4 then Bits (w.eoi == 1) w.count w.byte else Between)))

abbrev pub change_by : WireDevice → Option ℕ
change_by w = if w.changed == 1 then Some w.since else None

abbrev pub state_by : WireDevice → State
state_by w = record {
  timing = record {
    attention = w.timing.attention;
    hold = w.timing.hold;
    wait = w.timing.wait;
    answer = w.timing.answer;
    accept = w.timing.accept;
    leave = w.timing.leave;
  };
  listener = record { device = w.device; listens = w.listens == 1; called = w.called == 1 };
  until = w.until;
  pulls = w.pulls == 1;
  atn = w.atn == 1;
  clock = w.clock == 1;
  since = change_by w;
  place = place_by w;
}

-- the numbers of what a device keeps
abbrev pub with_place : WireDevice → Place → WireDevice
with_place w Between = w
with_place w (Sent pull) = record w { place = 1; clock_moment = pull }
with_place w (Opening look None eoi) = record w { place = 2; clock_moment = look; eoi = flag eoi }
with_place w (Opening look (Some free) eoi) =
    record w { place = 3; clock_moment = look; free = free; eoi = flag eoi }
with_place w (Bits eoi count byte) = record w { place = 4; eoi = flag eoi; count = count; byte = byte }

abbrev pub with_change : WireDevice → Option ℕ → WireDevice
with_change w None = w
with_change w (Some since) = record w { changed = 1; since = since }

abbrev pub numbers_of_delays : Timing → WireTiming
numbers_of_delays t = record {
  attention = t.attention;
  hold = t.hold;
  wait = t.wait;
  answer = t.answer;
  accept = t.accept;
  leave = t.leave;
}

-- those of its listener and of the lines, where no byte has begun and ATN has not changed
abbrev pub stored_plain : ℕ → State → WireDevice
stored_plain last s = record {
  last = last;
  since = 0;
  clock_moment = 0;
  free = 0;
  until = s.until;
  timing = numbers_of_delays s.timing;
  version = 1;
  device = s.listener.device;
  listens = flag s.listener.listens;
  called = flag s.listener.called;
  pulls = flag s.pulls;
  atn = flag s.atn;
  clock = flag s.clock;
  changed = 0;
  place = 0;
  eoi = 0;
  count = 0;
  byte = 0;
}

abbrev pub stored : ℕ → State → WireDevice
stored last s = with_change (with_place (stored_plain last s) s.place) s.since

-- a law: the device that is restored is the one that was stored
abbrev pub DevicesComeBack : Type 0
DevicesComeBack = (last : ℕ) (s : State) → state_by (stored last s) ≡ s

-- the numbers are those of a device, and of this version
pub record IsKept (w : WireDevice) : Type 0 where
  pub version : w.version ≡ 1
  pub sound : IsSound (state_by w)

-- the device that the numbers mean was shown these moments, the latest first, and no others
pub record WasShown (history : List Edge) (w : WireDevice) : Type 0 where
  pub kept : IsKept w
  pub seen : HasSeen history (state_by w)
  pub last : w.last ≡ time_after history
