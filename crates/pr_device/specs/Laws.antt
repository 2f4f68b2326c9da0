-- Laws: what a device hears of talkers and traces. The functions of src/laws.rt prove them, and callers take them from
-- there.
use Rattle.std.specs.Prelude.{◌≡◌, ℕ, ◌+◌, ◌<◌, ◌≤◌, Bool, true, false, List, Some, None, not, map, reverse, []}
use Rattle.pr_wire.specs.declared.Edge.{Edge}
use Rattle.pr_wire.specs.declared.Frame.{Frame}
use Rattle.pr_wire.specs.Pieces.{Spells}
use Rattle.pr_receiver.specs.Given.{inputs_with}
use Rattle.pr_device.specs.declared.place.Place.{Place}
use Rattle.pr_device.specs.declared.place.Place.TheVariants.{Between, Sent, Opening, Bits}
use Rattle.pr_device.specs.declared.timing.Timing.{Timing}
use Rattle.pr_device.specs.Data.{Standing, is_away, pulls, wake}
use Rattle.pr_device.specs.Events.{events_of, inputs_of_events}
use Rattle.pr_device.specs.Following.{said}
use Rattle.pr_device.specs.Seen.{events_with}
use Rattle.pr_device.specs.Course.{Party, Each, Move, AreMade, after_moves, pulling}
use Rattle.pr_device.specs.Shown.{GoForward, CanBeCalled, Moment, AreInTime, IsBefore, changes_shown, moments_shown}
use Rattle.pr_device.specs.Shown.{does_after, wake_after, time_after}
use Rattle.pr_device.specs.Pairs.{SharesTheLine}
use Rattle.pr_device.specs.Timing.{IsTiming}
use Rattle.pr_device.specs.Talkers.{Turn, AreTurns, moments_of, frames_sent}

-- whatever the history, a device hears what the bytes say that are said in it
abbrev pub HistoriesAreHeard : Type 0
HistoriesAreHeard =
    (wait device : ℕ) (history : List Edge) → events_with wait device history ≡ events_of device (said wait history)

-- of a talker's moves a device hears just the bytes that the talker sends
abbrev pub TalkersAreHeard : Type 0
TalkersAreHeard =
    (wait device : ℕ) (atn : Bool) (turns : List Turn) → AreTurns atn turns
    → events_with wait device (reverse (moments_of turns)) ≡ events_of device (frames_sent wait atn turns)

-- a lawful trace says just the frames that it spells
abbrev pub TracesSayWhatTheySpell : Type 0
TracesSayWhatTheySpell =
    (wait : ℕ) (edges : List Edge) (frames : List Frame) → Spells edges frames
    → said wait (reverse edges) ≡ frames

-- of a lawful trace a device hears what gives a printer the inputs that a receiver gives
abbrev pub TracesAreHeard : Type 0
TracesAreHeard =
    (wait device : ℕ) (edges : List Edge) (frames : List Frame) → Spells edges frames
    → (events_with wait device (reverse edges) ≡ events_of device frames)
    × (inputs_of_events (events_with wait device (reverse edges)) ≡ inputs_with device edges)

-- when a device pulls DATA at the latest, when it does not, and when it answers end-or-identify
pub record KeepsToDelays (t : Timing) (until : ℕ) (before : Bool) (s : Standing) (now : ℕ) : Type 0 where
  -- 1000 microseconds after ATN's pull it has pulled DATA
  pub called : (since : ℕ) → s.atn ≡ false → s.place ≡ Between → s.since ≡ Some since → since + 1000 ≤ now
      → pulls t until before s now ≡ true
  -- and 80 after a byte it has acknowledged
  pub accepted : (pull : ℕ) → is_away s ≡ false → s.place ≡ Sent pull → pull + 80 ≤ now
      → pulls t until before s now ≡ true
  -- before a byte it has released DATA when its delay is over and it does not print
  pub released : (look : ℕ) (eoi : Bool) → is_away s ≡ false → s.place ≡ Opening look None eoi → look + t.hold ≤ now
      → until ≤ now → pulls t until before s now ≡ false
  -- after DATA's release it answers in a data byte alone, no sooner than 200 microseconds later, and for less than 450
  pub answers : (look free : ℕ) (eoi : Bool) → is_away s ≡ false → s.place ≡ Opening look (Some free) eoi
      → pulls t until before s now ≡ true → (s.atn ≡ true) × (free + 200 ≤ now) × (now < free + 450)
  -- it does not touch the bits
  pub bits : (eoi : Bool) (count byte : ℕ) → is_away s ≡ false → s.place ≡ Bits eoi count byte
      → pulls t until before s now ≡ false
  -- and has released DATA 60 microseconds after ATN's release, if it does not listen
  pub leaves : (since : ℕ) → is_away s ≡ true → s.since ≡ Some since → since + 60 ≤ now
      → pulls t until before s now ≡ false

-- whatever the delays, a device keeps to them
abbrev pub DelaysAreKept : Type 0
DelaysAreKept =
    (t : Timing) (until : ℕ) (before : Bool) (s : Standing) (now : ℕ) → IsTiming t → KeepsToDelays t until before s now

-- two devices make DATA's moments in a timed trace: the least and the greatest of their delays
abbrev pub PairsShareTheLine : Type 0
PairsShareTheLine = (t u : Timing) (s : Standing) (now : ℕ) → IsTiming t → IsTiming u → SharesTheLine t u s now

-- a place's moment does not come after the present one
abbrev pub IsPast : Place → ℕ → Type 0
IsPast (Opening look free eoi) now = look ≤ now
IsPast _ now = Unit {0}

-- as long as things stand as they do, the device does to DATA what it does now, until its wake, and then the other
-- thing
pub record StaysUntilTheWake (t : Timing) (until : ℕ) (before : Bool) (s : Standing) (now : ℕ) : Type 0 where
  pub stays : (later : ℕ) → now ≤ later → IsBefore later (wake t until (pulls t until before s now) s now)
      → pulls t until (pulls t until before s now) s later ≡ pulls t until before s now
  pub turns : (next : ℕ) → wake t until (pulls t until before s now) s now ≡ Some next
      → pulls t until (pulls t until before s now) s next ≡ not (pulls t until before s now)

-- whatever the delays, each wake is the moment of the device's next act
abbrev pub WakesAreActs : Type 0
WakesAreActs =
    (t : Timing) (until : ℕ) (before : Bool) (s : Standing) (now : ℕ) → IsTiming t → IsPast s.place now
    → StaysUntilTheWake t until before s now

-- a device that is called at its wakes does until the next one what `pulling` says of the changes alone
abbrev pub WakesSuffice : Type 0
WakesSuffice =
    (p : Party) (ms : List Moment) → IsTiming p.timing → AreInTime p ms
    → (now : ℕ) → time_after (moments_shown ms) ≤ now → IsBefore now (wake_after p (moments_shown ms))
    → pulling p (changes_shown ms) now ≡ does_after p (moments_shown ms)

-- where a talker and devices make edges, each device can be called at its wakes between them, so that it does what
-- `pulling` says
abbrev pub DevicesCanBeCalled : Type 0
DevicesCanBeCalled =
    (parties : List Party) (ms : List Move) (end : ℕ) → Each (λ (p : Party). IsTiming p.timing) parties
    → GoForward 0 (map (λ (m : Move). m.edge) ms) → AreMade parties [] ms end
    → Each (λ (p : Party). CanBeCalled p (after_moves [] ms)) parties

-- the moments of a lawful trace do not go back
abbrev pub LawfulTracesGoForward : Type 0
LawfulTracesGoForward = (edges : List Edge) (frames : List Frame) → Spells edges frames → GoForward 0 edges
