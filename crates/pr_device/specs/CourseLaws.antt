-- Laws: what a talker and devices on one line make. The functions of src/laws.rt prove them, and callers take them
-- from there.
use Rattle.std.specs.Prelude.{◌≡◌, ℕ, ◌+◌, ◌≤◌, Bool, true, false, not, if◌then◌else◌, List, [], ◌∷◌, map, Option, Some}
use Rattle.std.specs.Prelude.{None}
use Rattle.pr_wire.specs.declared.Edge.{Edge}
use Rattle.pr_wire.specs.Pieces.{FrameTimes, SecondFrame, last_ack}
use Rattle.pr_bus.specs.Timed.{frame_times, greatest, least}
use Rattle.pr_device.specs.Following.{atn_of}
use Rattle.pr_device.specs.Timing.{IsTiming}
use Rattle.pr_device.specs.Course.{Party, Each, Move, AreMade, after_moves, sent_moves, attention_moves, second_for}
use Rattle.pr_device.specs.Course.{one_pulls, heeding, hearer, ExpectsByte, HasLeft}

-- the moments of a frame that the talker of the timed trace sends, from CLOCK's release on, to the devices that heed it
abbrev pub frame_for : Bool → List Edge → List Party → (look byte : ℕ) → List ℕ → FrameTimes
frame_for eoi history parties look byte numbers =
    frame_times look eoi byte numbers (map (hearer eoi) (heeding history parties))

-- the moves of that frame
abbrev pub moves_for : (atn eoi : Bool) → List Edge → List Party → (look byte : ℕ) → List ℕ → List Move
moves_for atn eoi history parties look byte numbers =
    sent_moves atn look (frame_for eoi history parties look byte numbers)

-- a frame whose moments are the sums of the timed trace is made by the talker and the devices, any number of them, of
-- which those hear it to which somebody speaks; and 100 microseconds after it they expect the next one
pub record FrameIsMade (atn eoi : Bool) (history : List Edge) (parties : List Party) (look byte : ℕ)
    (numbers : List ℕ) : Type 0 where
  pub made : (end : ℕ) → AreMade parties history (moves_for atn eoi history parties look byte numbers) end
  pub after : (now : ℕ) → (frame_for eoi history parties look byte numbers).ack + 100 ≤ now
      → Each (ExpectsByte atn (after_moves history (moves_for atn eoi history parties look byte numbers)) now) parties

-- only data bytes have end-or-identify, and somebody must hear the frame
abbrev pub FramesAreMade : Type 0
FramesAreMade =
    (atn eoi : Bool) (history : List Edge) (parties : List Party) (look byte : ℕ) (numbers : List ℕ) (p : Party)
    (others : List Party)
    → (eoi ≡ true → atn ≡ true) → heeding history parties ≡ p ∷ others → Each (λ (q : Party). IsTiming q.timing) parties
    → Each (ExpectsByte atn history look) parties → FrameIsMade atn eoi history parties look byte numbers

-- an attention: when ATN is pulled, and whether a device holds DATA then; when CLOCK is released for the first command,
-- the commands, with the talker's numbers for each, and when ATN is released
pub record Call : Type 0 where
  pub atn : ℕ
  pub held : Bool
  pub look : ℕ
  pub byte : ℕ
  pub second : Option ℕ
  pub numbers : List ℕ
  pub more : List ℕ
  pub release : ℕ

-- the moments of its commands: all devices hear them
abbrev pub first_frame : Call → List Party → FrameTimes
first_frame c parties = frame_times c.look false c.byte c.numbers (map (hearer false) parties)

abbrev pub next_frame : Call → List Party → Option SecondFrame
next_frame c parties = second_for (first_frame c parties).ack c.second c.more parties

-- when the first device answers ATN, and when the last one leaves DATA
abbrev pub answer_of : Call → List Party → Option ℕ
answer_of c parties = if c.held then None else Some (c.atn + least (map (λ (p : Party). p.timing.attention) parties))

abbrev pub due_of : Call → List Party → ℕ
due_of c parties = c.release + greatest (map (λ (p : Party). p.timing.leave) parties)

-- its moves, with this end
abbrev pub call_moves : Call → List Party → Option ℕ → Option ℕ → List Move
call_moves c parties line clock =
    attention_moves (not c.held) c.atn (answer_of c parties) c.look (first_frame c parties) (next_frame c parties)
    (record { atn = c.release; line = line; clock = clock })

-- the edges at ATN's release
abbrev pub released_at : Call → List Edge → List Party → List Edge
released_at c history parties = after_moves history (call_moves c parties None None)

-- an attention whose moments are the sums of the timed trace is made by the talker and the devices
pub record CallIsMade (c : Call) (history : List Edge) (parties : List Party) : Type 0 where
  -- where a device listens then, DATA stays pulled
  pub kept : (p : Party) (others : List Party) (end : ℕ) → heeding (released_at c history parties) parties ≡ p ∷ others
      → AreMade parties history (call_moves c parties None None) end
  -- where none does, it stays so until the last device leaves it
  pub due : (end : ℕ) → heeding (released_at c history parties) parties ≡ [] → end ≤ due_of c parties
      → AreMade parties history (call_moves c parties None None) end
  -- and after UNLISTEN CLOCK is released then
  pub closed : (clock end : ℕ) → heeding (released_at c history parties) parties ≡ [] → due_of c parties ≤ clock
      → AreMade parties history (call_moves c parties (Some (due_of c parties)) (Some clock)) end
  -- what each device does after ATN's release
  pub left : Each (HasLeft (released_at c history parties) c.release) parties

-- any devices, at least one
abbrev pub CallsAreMade : Type 0
CallsAreMade =
    (c : Call) (history : List Edge) (p : Party) (others : List Party)
    → Each (λ (q : Party). IsTiming q.timing) (p ∷ others)
    → atn_of history ≡ true → one_pulls (p ∷ others) history c.atn ≡ c.held → c.atn + 1000 ≤ c.look
    → last_ack (first_frame c (p ∷ others)).ack (next_frame c (p ∷ others)) + 100 ≤ c.release
    → CallIsMade c history (p ∷ others)
