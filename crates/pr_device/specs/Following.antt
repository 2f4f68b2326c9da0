-- Trusted: how a listener follows the lines. CLOCK's release may begin a byte: then all listeners release DATA. CLOCK's
-- next pull begins its bits, and each release after that brings a bit, which is DATA's level at that moment; CLOCK's
-- pull after the eighth ends the byte. Where DATA stays pulled until CLOCK's pull, no byte has begun (a talker and a
-- listener have changed places). Where ATN changes, what had begun is over. `TalkersAreHeard` says what this comes to.
--
-- A history is the list of the moments that a device was shown, the latest first. All lines are released before them.
use Rattle.std.specs.Prelude.{ℕ, ◌+◌, ◌/◌, ◌==◌, nat_lt, Bool, true, false, not, ◌&&◌, ◌||◌, if◌then◌else◌, List, []}
use Rattle.std.specs.Prelude.{◌∷◌, ◌++◌, Option, Some, None}
use Rattle.std.specs.Option.{option_to_list}
use Rattle.pr_wire.specs.declared.Edge.{Edge}
use Rattle.pr_wire.specs.declared.Frame.{Frame}
use Rattle.pr_wire.specs.Table.{same}
use Rattle.pr_device.specs.declared.place.Place.{Place}
use Rattle.pr_device.specs.declared.place.Place.TheVariants.{Between, Sent, Opening, Bits}

-- the levels of ATN and CLOCK after a history
abbrev pub atn_of : List Edge → Bool
atn_of [] = true
atn_of (e ∷ history) = e.levels.atn

abbrev pub clock_of : List Edge → Bool
clock_of [] = true
clock_of (e ∷ history) = e.levels.clock

-- the moment of ATN's last change
abbrev pub since_of : List Edge → Option ℕ
since_of [] = None
since_of (e ∷ history) = if same e.levels.atn (atn_of history) then since_of history else Some e.time

-- a byte with one more bit, which comes in at the top and moves the others down: the lowest bit comes first
abbrev pub shifted : ℕ → Bool → ℕ
shifted byte bit = byte / 2 + (if bit then 128 else 0)

-- before a byte: the first moment at which DATA is released
abbrev pub freed : Option ℕ → Edge → Option ℕ
freed None e = if e.levels.line then Some e.time else None
freed (Some free) e = Some free

-- before a byte: end-or-identify is answered, since DATA was released, and is pulled again or the wait is over
abbrev pub is_answered : ℕ → Option ℕ → Edge → Bool
is_answered wait None e = false
is_answered wait (Some free) e = not e.levels.line || not (nat_lt e.time (free + wait))

-- CLOCK is released, or pulled, at a moment, after its level before
abbrev pub rises : Bool → Edge → Bool
rises clock e = not clock && e.levels.clock

abbrev pub falls : Bool → Edge → Bool
falls clock e = clock && not e.levels.clock

-- CLOCK's pull begins the bits, if DATA was released
abbrev pub begun : Option ℕ → Bool → Place
begun None eoi = Between
begun (Some free) eoi = Bits eoi 0 0

-- where a moment leads at which ATN stays, after CLOCK's level before; only a data byte has end-or-identify
abbrev pub leads : ℕ → Place → Bool → Edge → Place
leads wait Between clock e = if rises clock e then Opening e.time None false else Between
leads wait (Sent pull) clock e = if rises clock e then Opening e.time None false else Sent pull
leads wait (Opening look free eoi) clock e =
    if e.levels.clock then Opening look (freed free e) (eoi || (e.levels.atn && is_answered wait free e))
    else begun free eoi
leads wait (Bits eoi count byte) clock e =
    if rises clock e && nat_lt count 8 then Bits eoi (count + 1) (shifted byte e.levels.line)
    else (if falls clock e && count == 8 then Sent e.time else Bits eoi count byte)

-- the byte that a moment ends at which ATN stays
abbrev pub ends : Place → Bool → Edge → Option Frame
ends (Bits eoi count byte) clock e =
    if falls clock e && count == 8
    then Some (record { attention = not e.levels.atn; byte = byte; eoi = eoi })
    else None
ends _ clock e = None

-- where a history leads; `wait` is how long the device waits for the sign of end-or-identify
abbrev pub place_after : ℕ → List Edge → Place
place_after wait [] = Between
place_after wait (e ∷ history) =
    if same e.levels.atn (atn_of history) then leads wait (place_after wait history) (clock_of history) e else Between

-- the byte that a moment ends, after the history before it
abbrev pub frame_at : ℕ → List Edge → Edge → Option Frame
frame_at wait history e =
    if same e.levels.atn (atn_of history) then ends (place_after wait history) (clock_of history) e else None

-- the bytes that are said in a history, in the order in which they came
abbrev pub said : ℕ → List Edge → List Frame
said wait [] = []
said wait (e ∷ history) = said wait history ++ option_to_list (frame_at wait history e)
