-- Trusted: the trace of items, with the printers present and three lists of delay numbers: the
-- moment of each act, as sums, least and greatest of delays.
use Rattle.std.specs.Prelude.{ℕ, zero, suc, ◌+◌, ◌/◌, ◌%◌, min, max, Bool, true, false, cond, eqb, List, [], ◌∷◌, ◌++◌, map, drop, Option, Some, None}
use Rattle.pr_base.specs.Bytes as command
use Rattle.pr_serial.specs.declared.Present.{Present}
use Rattle.pr_serial.specs.declared.Item.{Item}
use Rattle.pr_serial.specs.declared.Item.TheVariants.{Attention, Sent}
use Rattle.pr_serial.specs.Answers.{is_listener}
use Rattle.pr_serial.specs.Bus.{DelayNumbers}
use Rattle.pr_wire.specs.declared.Edge.{Edge}
use Rattle.pr_wire.specs.declared.delay.Kind.TheVariants.{Bb, Aw, Ne, Ry, S, V, R, Cr, At, H, Ye, Ei, F, Dr}
use Rattle.pr_wire.specs.Levels.{edge_at, start}
use Rattle.pr_wire.specs.Delays.{delay_at}
use Rattle.pr_wire.specs.Pieces.{BitTimes, FrameTimes, SecondFrame, Between, Piece, last_ack, last_pull, piece_edges}
use Rattle.pr_wire.specs.Pieces.Between.{Resting, Held, Loose}
use Rattle.pr_wire.specs.Pieces.Piece.{Unanswered, Attention as Attended, DataByte, Dropped}

-- a present printer: its device, and its numbers not yet taken
pub record TimedPrinter : Type 0 where
  pub device : ℕ
  pub numbers : List ℕ

-- CLOCK and DATA between two items: both released; both pulled; CLOCK pulled, with DATA's release due at a moment
pub data Lines : Type 0 where
  Free : Lines
  Pulled : Lines
  Due : ℕ → Lines

-- how long a listener of a frame waits before it releases DATA (`hold`), before its EOI answer
-- (`wait`), for how long it answers (`answer`), and how long it waits before it acknowledges
-- (`accept`)
pub record ListenerTiming : Type 0 where
  pub hold : ℕ
  pub wait : ℕ
  pub answer : ℕ
  pub accept : ℕ

-- the bus between two items: the items before, the end of the last one, the lines, the computer's
-- numbers not yet taken, and the printers
pub record TimedBus : Type 0 where
  pub before : List Item
  pub now : ℕ
  pub lines : Lines
  pub computer : List ℕ
  pub printers : List TimedPrinter

-- the greatest of a list of moments, 0 if there is none
abbrev pub greatest : List ℕ → ℕ
greatest [] = 0
greatest (t ∷ ts) = max t (greatest ts)

-- the least of a list of moments, 0 if there is none
abbrev pub least : List ℕ → ℕ
least [] = 0
least (t ∷ []) = t
least (t ∷ (u ∷ ts)) = min t (least (u ∷ ts))

-- the bits of a number, the lowest first
abbrev pub bits_of : ℕ → ℕ → List Bool
bits_of zero b = []
bits_of (suc n) b = eqb (b % 2) 1 ∷ bits_of n (b / 2)

-- the moments of bits after a pull of CLOCK, with the computer's numbers
abbrev pub bit_times : ℕ → List ℕ → List Bool → List BitTimes
bit_times c numbers [] = []
bit_times c numbers (b ∷ bs) =
    let up = c + delay_at S numbers 0 in
    let down = up + delay_at V numbers 1 in
    record { level = b; up = up; down = down } ∷ bit_times down (drop 2 numbers) bs

-- the moments of a frame after the look, with the computer's numbers and the hearers' delays
abbrev pub frame_times : ℕ → Bool → ℕ → List ℕ → List ListenerTiming → FrameTimes
frame_times look eoi byte numbers hearers =
    let free = look + greatest (map (λ (h : ListenerTiming). h.hold) hearers) in
    let pulled = free + least (map (λ (h : ListenerTiming). h.wait) hearers) in
    let released = free + greatest (map (λ (h : ListenerTiming). h.wait + h.answer) hearers) in
    let pull = cond eoi (released + delay_at Ry numbers 0) (free + delay_at Ne numbers 0) in
    let bits = bit_times pull (drop 1 numbers) (bits_of 8 byte) in
    record {
      free = free;
      pulse = cond eoi (Some (record { pulled = pulled; released = released })) None;
      pull = pull;
      bits = bits;
      ack = last_pull pull bits + least (map (λ (h : ListenerTiming). h.accept) hearers);
    }

-- the delays of a command's hearers: each present printer, with its numbers from index i on
abbrev pub command_hearers : ℕ → List TimedPrinter → List ListenerTiming
command_hearers i printers =
    map (λ (p : TimedPrinter). record {
      hold = delay_at H p.numbers i;
      wait = 0;
      answer = 0;
      accept = delay_at F p.numbers (i + 1);
    }) printers

-- the printers that listen
abbrev pub listening : List Item → List TimedPrinter → List TimedPrinter
listening before [] = []
listening before (p ∷ ps) = cond (is_listener p.device before) (p ∷ []) [] ++ listening before ps

-- the delays of a data byte's hearers, the printers that listen
abbrev pub data_hearers : Bool → List TimedPrinter → List ListenerTiming
data_hearers eoi printers =
    map (λ (p : TimedPrinter). record {
      hold = delay_at H p.numbers 0;
      wait = delay_at Ye p.numbers 1;
      answer = cond eoi (delay_at Ei p.numbers 2) 0;
      accept = delay_at F p.numbers (cond eoi 3 2);
    }) printers

-- a printer after it has taken n of its numbers
abbrev pub taking : ℕ → TimedPrinter → TimedPrinter
taking n p = record p { numbers = drop n p.numbers }

-- the lines before a piece, in the words of lawful traces
abbrev pub between : Lines → Between
between Free = Resting 0
between Pulled = Held 0
between (Due d) = Loose 0

-- what an item does: its piece, if it makes an edge, and the bus after it
pub record Done : Type 0 where
  pub piece : Option Piece
  pub wires : TimedBus

-- the bus after an item that nobody hears: both lines are released, and the computer has taken n numbers
abbrev pub after_unheard : TimedBus → Item → ℕ → ℕ → TimedBus
after_unheard w x look n =
    record w { before = w.before ++ x ∷ []; now = look; lines = Free; computer = drop n w.computer }

-- an attention that nobody answers
abbrev pub unanswered : TimedBus → Item → Done
unanswered w x =
    let a = w.now + delay_at Bb w.computer 0 in
    let look = a + delay_at Aw w.computer 1 in
    record { piece = Some (Unanswered a look); wires = after_unheard w x look 2 }

-- the moment when the first printer pulls DATA in answer to ATN; none if DATA is pulled already
abbrev pub answer_at : Lines → ℕ → List TimedPrinter → Option ℕ
answer_at Pulled a printers = None
answer_at _ a printers =
    Some (a + least (map (λ (p : TimedPrinter). delay_at At p.numbers 0) printers))

-- the second command of an attention, after the first acknowledgement
abbrev pub second_frame : ℕ → Option ℕ → List ℕ → List TimedPrinter → Option SecondFrame
second_frame k None numbers printers = None
second_frame k (Some byte) numbers printers =
    let look = k + delay_at Aw numbers 0 in
    let sent = frame_times look false byte (drop 1 numbers) (command_hearers 3 printers) in
    Some (record { look = look; sent = sent })

-- the count of numbers that the commands of an attention take: of the computer, after its first
-- two, and of a printer, after its first
abbrev pub commands_take : Option ℕ → ℕ
commands_take None = 17
commands_take (Some byte) = 35

abbrev pub printer_takes : Option ℕ → ℕ
printer_takes None = 3
printer_takes (Some byte) = 5

-- an attention that is answered
abbrev pub answered : TimedBus → ℕ → Option ℕ → Done
answered w byte second =
    let a = w.now + delay_at Bb w.computer 0 in
    let look = a + delay_at Aw w.computer 1 in
    let first = frame_times look false byte (drop 2 w.computer) (command_hearers 1 w.printers) in
    let more = second_frame first.ack second (drop 19 w.computer) w.printers in
    let rest = drop (2 + commands_take second) w.computer in
    let r = last_ack first.ack more + delay_at R rest 0 in
    let before = w.before ++ Attention byte second ∷ [] in
    let listeners = listening before w.printers in
    let takes = printer_takes second in
    let heard = map (taking takes) w.printers in
    let freed = map (λ (p : TimedPrinter). cond (is_listener p.device before) p (taking 1 p)) heard in
    let due = r + greatest (map (λ (p : TimedPrinter). delay_at Dr p.numbers takes) w.printers) in
    let closed = r + delay_at Cr rest 1 in
    let unlisten = eqb (elim second [ None ↦ byte | Some b ↦ b ]) command.unlisten in
    record {
      piece = Some (Attended a (answer_at w.lines a w.printers) look first more
          (record {
            atn = r;
            line = cond unlisten (Some due) None;
            clock = cond unlisten (Some closed) None;
          }));
      wires = record {
        before = before;
        now = cond unlisten closed r;
        lines = cond unlisten Free (elim listeners [ [] ↦ Due due | p ∷ ps ↦ Pulled ]);
        computer = drop (cond unlisten 2 1) rest;
        printers = freed;
      };
    }

-- a byte that at least one present printer hears
abbrev pub heard_byte : TimedBus → ℕ → Bool → List TimedPrinter → Done
heard_byte w byte eoi hearers =
    let look = w.now + delay_at Bb w.computer 0 in
    let sent = frame_times look eoi byte (drop 1 w.computer) (data_hearers eoi hearers) in
    record {
      piece = Some (DataByte look sent);
      wires = record {
        before = w.before ++ Sent byte eoi ∷ [];
        now = sent.ack;
        lines = Pulled;
        computer = drop 18 w.computer;
        printers = map (λ (p : TimedPrinter).
            cond (is_listener p.device w.before) (taking (cond eoi 4 3) p) p) w.printers;
      };
    }

-- the piece of a byte that nobody hears: CLOCK is released, if it was pulled
abbrev pub dropped_piece : Lines → ℕ → Option Piece
dropped_piece Free look = None
dropped_piece _ look = Some (Dropped look)

-- a byte that nobody hears
abbrev pub dropped_byte : TimedBus → Item → Done
dropped_byte w x =
    let look = w.now + delay_at Bb w.computer 0 in
    record { piece = dropped_piece w.lines look; wires = after_unheard w x look 1 }

-- an item
abbrev pub done : TimedBus → Item → Done
done w (Attention byte second) =
    elim w.printers [ [] ↦ unanswered w (Attention byte second) | p ∷ ps ↦ answered w byte second ]
done w (Sent byte eoi) =
    elim (listening w.before w.printers)
    [ [] ↦ dropped_byte w (Sent byte eoi) | p ∷ ps ↦ heard_byte w byte eoi (p ∷ ps) ]

-- the release of DATA that is still due
abbrev pub due_edges : Lines → List Edge
due_edges Free = []
due_edges Pulled = []
due_edges (Due d) = edge_at d true false true ∷ []

abbrev pub edges_done : Lines → Option Piece → List Edge
edges_done l None = []
edges_done l (Some p) = piece_edges (between l) p

-- the edges of an item: the release due before it, and its own
abbrev pub item_edges : TimedBus → Item → List Edge
item_edges w x = due_edges w.lines ++ edges_done w.lines (done w x).piece

-- the edges of items
abbrev pub timed_edges : TimedBus → List Item → List Edge
timed_edges w [] = []
timed_edges w (x ∷ xs) = item_edges w x ++ timed_edges (done w x).wires xs

-- the printers that are present, with their numbers
abbrev pub present_printers : Present → List ℕ → List ℕ → List TimedPrinter
present_printers present four five =
    cond present.four (record { device = 4; numbers = four } ∷ []) []
    ++ cond present.five (record { device = 5; numbers = five } ∷ []) []

-- the bus before the first item
abbrev pub wires : Present → List ℕ → List ℕ → List ℕ → TimedBus
wires present computer four five =
    let printers = present_printers present four five in
    record { before = []; now = 0; lines = Free; computer = computer; printers = printers }

-- the trace of items
abbrev pub timed_trace : Present → List ℕ → List ℕ → List ℕ → List Item → List Edge
timed_trace present computer four five items =
    start ∷ timed_edges (wires present computer four five) items

-- the same, with the delay numbers of a bus
abbrev pub trace_from : Present → DelayNumbers → List Item → List Edge
trace_from present delays items = timed_trace present delays.computer delays.four delays.five items
