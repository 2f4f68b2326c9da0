-- The moments of lawful traces do not go back.
use Rattle.std.proofs.Common.{ℕ, ◌+◌, ◌≤◌, ◌==◌, Bool, true, false, List, [], ◌∷◌, ◌++◌, Option, Some, None}
use Rattle.std.proofs.Common.{if◌then◌else◌, sym, subst, arith}
use Rattle.pr_wire.specs.declared.Edge.{Edge}
use Rattle.pr_wire.specs.Levels.{edge_at}
use Rattle.pr_wire.specs.Pieces.{EoiAnswer, BitTimes, FrameTimes, SecondFrame, Ending, Between, Piece, AreClocked}
use Rattle.pr_wire.specs.Pieces.{IsOpened, IsFrame, IsSecond, AreReleased, IsEnded, IsCalled, IsAnswered, IsPiece}
use Rattle.pr_wire.specs.Pieces.{AreLawful, last_pull, last_ack, after_lines, after_ending, after_piece, bit_edges}
use Rattle.pr_wire.specs.Pieces.{pulse_edges, frame_edges, call_edge, answer_edges, second_edges, line_edges}
use Rattle.pr_wire.specs.Pieces.{clock_edges, ending_edges, piece_edges, edges_of}
use Rattle.pr_wire.specs.Pieces.Between.{Resting, Held, Loose}
use Rattle.pr_wire.specs.Pieces.Piece.{Unanswered, Attention, DataByte, Dropped}
use Rattle.pr_bus.specs.Answers.{answered_frames}
use Rattle.pr_bus.specs.Laws.{TimedTracesSpell}
use Rattle.pr_bus.specs.Timed.{trace_from}
use Rattle.pr_device.specs.Shown.{GoForward}
use Rattle.pr_device.specs.Laws.{LawfulTracesGoForward}
use Rattle.pr_device.specs.PairLaws.{TimedTracesGoForward}

-- the moments of edges do not go back between two moments
abbrev Goes : ℕ → List Edge → ℕ → Type 0
Goes from [] to = from ≤ to
Goes from (e ∷ es) to = (from ≤ e.time) × Goes e.time es to

goes-sooner : (from after to : ℕ) (es : List Edge) → from ≤ after → Goes after es to → Goes from es to
goes-sooner from after to [] h k = omega arith
goes-sooner from after to (e ∷ es) h (k, w) = (omega arith, w)

goes-append : (from mid to : ℕ) (xs ys : List Edge) → Goes from xs mid → Goes mid ys to → Goes from (xs ++ ys) to
goes-append from mid to [] ys h k = goes-sooner from mid to ys h k
goes-append from mid to (e ∷ es) ys (h, w) k = (h, goes-append e.time mid to es ys w k)

-- and after the second of them
goes-on : (from mid : ℕ) (xs ys : List Edge) → Goes from xs mid → GoForward mid ys → GoForward from (xs ++ ys)
goes-on from mid [] [] h k = tt
goes-on from mid [] (e ∷ ys) h (k, w) = (omega arith, w)
goes-on from mid (e ∷ es) ys (h, w) k = (h, goes-on e.time mid es ys w k)

-- a frame
bits-go : (x : Bool) (from c : ℕ) (bits : List BitTimes) → from ≤ c → AreClocked c bits
    → Goes from (bit_edges x c bits) (last_pull c bits)
bits-go x from c [] h w = (h, omega arith)
bits-go x from c (b ∷ bs) h (u, d, w) = (h, (omega arith, bits-go x b.up b.down bs (omega arith) w))

pulse-goes : (x : Bool) (free pull : ℕ) (pulse : Option EoiAnswer) → IsOpened x free pulse pull
    → Goes free (pulse_edges pulse) pull
pulse-goes x free pull None i = omega arith
pulse-goes x free pull (Some p) (e, a, b, c) = (omega arith, (omega arith, omega arith))

frame-goes : (x : Bool) (look : ℕ) (f : FrameTimes) → IsFrame x look f → Goes look (frame_edges x f) f.ack
frame-goes x look f i =
    let last : ℕ = last_pull f.pull f.bits in (
      omega arith,
      goes-append f.free last f.ack (pulse_edges f.pulse ++ bit_edges x f.pull f.bits)
          (edge_at f.ack x false false ∷ [])
          (goes-append f.free f.pull last (pulse_edges f.pulse) (bit_edges x f.pull f.bits)
          (pulse-goes x f.free f.pull f.pulse i.opened) (bits-go x f.pull f.pull f.bits (omega arith) i.clocked))
          (omega arith, omega arith),
    )

-- the moment that all edges before a piece are by
abbrev by_then : Between → ℕ
by_then (Resting i) = i
by_then (Held k) = k
by_then (Loose r) = r + 60

called-goes : (b : Between) (a to : ℕ) (es : List Edge) → IsCalled b a → Goes a es to
    → Goes (by_then b) (call_edge b a ∷ es) to
called-goes (Resting i) a to es h k = (omega arith, k)
called-goes (Held k) a to es h w = (omega arith, w)
called-goes (Loose r) a to es h k = (omega arith, k)

some-answer : (a d look : ℕ) → a ≤ d → d ≤ look → Goes a (answer_edges (Some d) look) look
some-answer a d look h k = by (d == look)
  where
    by : (b : Bool) → Goes a ((if b then [] else edge_at d false false false ∷ []) ++ edge_at look false true false
        ∷ []) look
    by true = (omega arith, omega arith)
    by false = (h, (k, omega arith))

answer-goes : (b : Between) (a : ℕ) (answer : Option ℕ) (look : ℕ) → IsAnswered b a answer look
    → Goes a (answer_edges answer look) look
answer-goes (Held k) a None look h = (omega arith, omega arith)
answer-goes (Held k) a (Some d) look h = absurd h
answer-goes (Resting i) a None look h = absurd h
answer-goes (Resting i) a (Some d) look (h, k) = some-answer a d look (omega arith) (omega arith)
answer-goes (Loose r) a None look h = absurd h
answer-goes (Loose r) a (Some d) look (h, k) = some-answer a d look (omega arith) (omega arith)

second-goes : (k : ℕ) (m : Option SecondFrame) → IsSecond k m → Goes k (second_edges m) (last_ack k m)
second-goes k None h = omega arith
second-goes k (Some m) (h, i) = (omega arith, frame-goes false m.look m.sent i)

lines-go : (u : Bool) (r : ℕ) (line clock : Option ℕ) → AreReleased u r line clock
    → Goes r (line_edges line ++ clock_edges clock) (by_then (after_lines r line clock))
lines-go true r None None h = absurd h
lines-go true r None (Some c) h = absurd h
lines-go true r (Some d) None h = absurd h
lines-go true r (Some d) (Some c) (h, k) = (omega arith, (omega arith, omega arith))
lines-go false r None None h = omega arith
lines-go false r None (Some c) h = absurd h
lines-go false r (Some d) None h = (omega arith, omega arith)
lines-go false r (Some d) (Some c) h = absurd h

ending-goes : (byte k : ℕ) (e : Ending) → IsEnded byte k e → Goes k (ending_edges e) (by_then (after_ending e))
ending-goes byte k e i = (omega arith, lines-go _ e.atn e.line e.clock i.lines)

-- a piece
piece-goes : (b : Between) (p : Piece) → IsPiece b p → Goes (by_then b) (piece_edges b p) (by_then (after_piece p))
piece-goes b (Unanswered a release) (r, c, w) =
    called-goes b a release (edge_at release true true true ∷ []) c (omega arith, omega arith)
piece-goes b (Attention a answer look first second end) (c, w, f, s, i) =
    let to : ℕ = by_then (after_ending end) in
    let last : ℕ = last_ack first.ack second in
    let front : List Edge = answer_edges answer look ++ frame_edges false first in
    called-goes b a to ((front ++ second_edges second) ++ ending_edges end) c
    (goes-append a last to (front ++ second_edges second) (ending_edges end)
    (goes-append a first.ack last front (second_edges second)
    (goes-append a look first.ack (answer_edges answer look) (frame_edges false first)
    (answer-goes b a answer look w) (frame-goes false look first f))
    (second-goes first.ack second s)) (ending-goes _ last end i))
piece-goes (Held k) (DataByte look sent) (l, f) = (omega arith, frame-goes true look sent f)
piece-goes (Resting i) (DataByte look sent) (l, f) = absurd l
piece-goes (Loose r) (DataByte look sent) (l, f) = absurd l
piece-goes (Loose r) (Dropped look) d = (omega arith, omega arith)
piece-goes (Resting i) (Dropped look) d = absurd d
piece-goes (Held k) (Dropped look) d = absurd d

pieces-go : (b : Between) (ps : List Piece) → AreLawful b ps → GoForward (by_then b) (edges_of b ps)
pieces-go b [] w = tt
pieces-go b (p ∷ ps) (i, w) =
    goes-on (by_then b) (by_then (after_piece p)) (piece_edges b p) (edges_of (after_piece p) ps)
    (piece-goes b p i) (pieces-go (after_piece p) ps w)

-- a lawful trace, as the law says it
pub lawful-forward : LawfulTracesGoForward
lawful-forward edges frames (pieces, cut, f) =
    subst (GoForward 0) (sym cut.edges_are) (omega arith, pieces-go (Resting 0) pieces cut.lawful)

-- and the timed trace
pub timed-forward : TimedTracesSpell → TimedTracesGoForward
timed-forward spells present delays items i =
    lawful-forward (trace_from present delays items) (answered_frames present items)
    (spells present delays.computer delays.four delays.five items i)
