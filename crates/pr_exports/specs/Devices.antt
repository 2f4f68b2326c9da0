-- Trusted: what the calls of a device on the bus do. `WasShown` holds of a device just begun with no moment; each call
-- says for which moments it holds next, the latest first; and the answers are right for all moments for which it holds.
use Rattle.std.specs.Prelude.{◌≡◌, ◌⊎◌, ℕ, ◌-◌, ◌^◌, ◌<◌, ◌≤◌, ◌==◌, false, not, if◌then◌else◌, List, [], ◌∷◌, Option, Some, None, Result, Ok, Err}
use Rattle.std.specs.Option.{unwrap_or}
use Rattle.pr_wire.specs.declared.Edge.{Edge}
use Rattle.pr_device.specs.Data.{pulls, standing, wake}
use Rattle.pr_device.specs.Seen.{busy_until, device_of, event_at, is_pulling, timing_of}
use Rattle.pr_device.specs.Shown.{time_after}
use Rattle.pr_device.specs.Timing.{IsTiming, typical}
use Rattle.pr_device.specs.declared.event.Event.{Event}
use Rattle.pr_device.specs.declared.event.Event.TheVariants.{Listen, Second, Open, Close, Byte, Unlisten}
use Rattle.pr_device.specs.declared.state.Step.{Step}
use Rattle.pr_device.specs.declared.timing.Timing.{Timing}
use Rattle.pr_exports.specs.Answers.{plain, refusal}
use Rattle.pr_exports.specs.DeviceKept.{IsKept, WasShown, state_by}
use Rattle.pr_exports.specs.Numbers.{flag}
use Rattle.pr_exports.specs.declared.answer.Answer.{Answer}
use Rattle.pr_exports.specs.declared.device_numbers.WireDevice.{WireDevice}
use Rattle.pr_exports.specs.declared.device_numbers.WireStep.{WireStep}
use Rattle.pr_exports.specs.declared.device_numbers.WireTiming.{WireTiming}
use Rattle.pr_exports.specs.declared.devices.NotBegun.{NotBegun}
use Rattle.pr_exports.specs.declared.devices.NotBegun.TheVariants as begun
use Rattle.pr_exports.specs.declared.devices.NotShown.{NotShown}
use Rattle.pr_exports.specs.declared.devices.NotShown.TheVariants.{NoDevice, GoesBack}

-- What numbers mean.

-- the delays that are asked for: 0 is the typical one
abbrev pub or_usual : ℕ → ℕ → ℕ
or_usual number usual = if number == 0 then usual else number

abbrev pub delays_by : WireTiming → Timing
delays_by t = record {
  attention = or_usual t.attention typical.attention;
  hold = or_usual t.hold typical.hold;
  wait = or_usual t.wait typical.wait;
  answer = or_usual t.answer typical.answer;
  accept = or_usual t.accept typical.accept;
  leave = or_usual t.leave typical.leave;
}

-- the lines at a moment: 0 is a line that is pulled, and every other number one that is released
abbrev pub moment_of : (now atn clock line : ℕ) → Edge
moment_of now atn clock line =
    record { time = now; levels = record { atn = not (atn == 0); clock = not (clock == 0); line = not (line == 0) } }

-- a device has a number of 4 to 30
abbrev pub IsAddress : ℕ → Type 0
IsAddress address = (4 ≤ address) × (address ≤ 30)

-- What is answered, as numbers.

-- what is heard: its kind, its byte or secondary address, and whether it has end-or-identify
abbrev pub event_numbers : Option Event → ℕ × ℕ × ℕ
event_numbers None = (0, 0, 0)
event_numbers (Some (Byte byte eoi)) = (1, byte, flag eoi)
event_numbers (Some (Second number)) = (2, number, 0)
event_numbers (Some Listen) = (3, 0, 0)
event_numbers (Some Unlisten) = (4, 0, 0)
event_numbers (Some (Open number)) = (5, number, 0)
event_numbers (Some (Close number)) = (6, number, 0)

-- what a device does and hears; without a wake the greatest number
abbrev pub step_numbers : Step → WireStep
step_numbers step = record {
  wake = unwrap_or step.wake (2 ^ 64 - 1);
  pulls_data = flag step.pulls_data;
  kind = (event_numbers step.event).0;
  byte = (event_numbers step.event).1;
  eoi = (event_numbers step.event).2;
}

abbrev pub told_numbers : Result Step NotShown → WireStep
told_numbers (Ok step) = step_numbers step
told_numbers (Err why) = record { wake = 2 ^ 64 - 1; pulls_data = 0; kind = 0; byte = 0; eoi = 0 }

abbrev pub told_answer : Result Step NotShown → Answer
told_answer (Ok step) = plain 0 0
told_answer (Err NoDevice) = refusal 21 0
told_answer (Err GoesBack) = refusal 17 0

abbrev pub begin_answer : Result (Unit {0}) NotBegun → Answer
begin_answer (Ok u) = plain 0 0
begin_answer (Err begun.NoDevice) = refusal 21 0
begin_answer (Err begun.NoTiming) = refusal 26 0

-- What the calls do.

-- a device was begun: it was shown no moment, pulls nothing and prints nothing
pub record HasBegun (address : ℕ) (t : Timing) (w : WireDevice) : Type 0 where
  pub shown : WasShown [] w
  pub device : device_of (state_by w) ≡ address
  pub timing : timing_of (state_by w) ≡ t
  pub still : is_pulling (state_by w) ≡ false
  pub busy : busy_until (state_by w) ≡ 0

-- it was begun, or there is no such device or no such delay and all is as it was
abbrev pub TellsBegun : ℕ → Timing → (old new : WireDevice) → Result (Unit {0}) NotBegun → Type 0
TellsBegun address t old new (Ok u) = IsAddress address × IsTiming t × HasBegun address t new
TellsBegun address t old new (Err begun.NoDevice) = (IsAddress address → ⊥) × (new ≡ old)
TellsBegun address t old new (Err begun.NoTiming) = IsAddress address × (IsTiming t → ⊥) × (new ≡ old)

-- a device was shown one moment more: what it hears, what it does to DATA, when it wants to be called again; and what
-- stays as it was
pub record IsShown (history : List Edge) (e : Edge) (old new : WireDevice) (step : Step) : Type 0 where
  pub event : step.event ≡ event_at (timing_of (state_by old)).wait (device_of (state_by old)) history e
  pub does : step.pulls_data ≡
      pulls (timing_of (state_by old)) (busy_until (state_by old)) (is_pulling (state_by old))
      (standing (timing_of (state_by old)).wait (device_of (state_by old)) (e ∷ history)) e.time
  pub wakes : step.wake ≡
      wake (timing_of (state_by old)) (busy_until (state_by old)) step.pulls_data
      (standing (timing_of (state_by old)).wait (device_of (state_by old)) (e ∷ history)) e.time
  pub shown : WasShown (e ∷ history) new
  pub pulling : is_pulling (state_by new) ≡ step.pulls_data
  pub device : device_of (state_by new) ≡ device_of (state_by old)
  pub timing : timing_of (state_by new) ≡ timing_of (state_by old)
  pub busy : busy_until (state_by new) ≡ busy_until (state_by old)

-- it was, unless the moment is earlier than the last one or too late for any clock; then all is as it was
abbrev pub TellsStep : List Edge → Edge → (old new : WireDevice) → Result Step NotShown → Type 0
TellsStep history e old new (Ok step) =
    (time_after history ≤ e.time) × (e.time < 2 ^ 63) × IsShown history e old new step
TellsStep history e old new (Err GoesBack) =
    ((e.time < time_after history) ⊎ (2 ^ 63 ≤ e.time)) × (new ≡ old)
TellsStep history e old new (Err NoDevice) = ⊥

-- whatever the numbers are: those of no device, or of another version, are refused, and stay as they were
abbrev pub IsAnyStep : (old new : WireDevice) → Result Step NotShown → Type 0
IsAnyStep old new (Ok step) = IsKept old × IsKept new
IsAnyStep old new (Err GoesBack) = IsKept old × (new ≡ old)
IsAnyStep old new (Err NoDevice) = (IsKept old → ⊥) × (new ≡ old)
