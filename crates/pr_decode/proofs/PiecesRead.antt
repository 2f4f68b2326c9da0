-- The pieces of a lawful trace, read.
use Rattle.std.proofs.Common.{◌≡◌, ℕ, ◌==◌, Bool, true, false, not, ◌&&◌, List, [], ◌∷◌, ◌++◌, Option, Some, None, if◌then◌else◌, refl, sym, ap, ◌∙◌, append-nil}
use Rattle.pr_wire.specs.declared.Edge.{Edge}
use Rattle.pr_wire.specs.declared.Frame as wire
use Rattle.pr_wire.specs.Levels.{edge_at, start}
use Rattle.pr_wire.specs.Pieces.{AreLawful, Between, Ending, EoiAnswer, FrameTimes, IsFrame, IsPiece, IsSecond, Piece, SecondFrame, after_ending, after_piece, answer_edges, call_edge, edges_of, ending_edges, frame_edges, frame_sent, frames_of, has_pulse, byte_sent, piece_edges, piece_frames, second_edges, second_frames}
use Rattle.pr_wire.specs.Pieces.Between.{Held, Loose, Resting}
use Rattle.pr_wire.specs.Pieces.Piece.{Attention, DataByte, Dropped, Unanswered}
use Rattle.pr_wire.specs.Table.{same}
use Rattle.pr_decode.specs.declared.reading.Reading.{Reading}
use Rattle.pr_decode.specs.declared.reading.Reading.TheVariants as read
use Rattle.pr_decode.specs.Frames.{acknowledged_frames}
use Rattle.pr_decode.specs.Laws.{TracesAreAcknowledged, TracesSayTheirPieces, TracesSayWhatTheySpell}
use Rattle.pr_decode.specs.PieceReadings.{frame_read, frames_in, is_answered, piece_read, pieces_read, pulse_read, second_read}
use Rattle.pr_decode.specs.Readings.{readings, readings_of}
use Rattle.pr_decode.specs.ClockPhases.{ClockPhase, begun, calls, goes_on, longer}
use Rattle.pr_decode.specs.Taking.{to_come}
use Rattle.pr_decode.specs.Taking.Past.{Waiting}
use Rattle.pr_decode.proofs.Cutting.{calls-off}
use Rattle.pr_decode.proofs.FrameRead.{Walk, behind_frame, frame-walk, walk-both, walk-off, walk-on}
use Rattle.pr_decode.proofs.DecoderSteps.{off-called, skips-call}

-- a call
walk-call : (s : ClockPhase) (last e : Edge) → last.levels.atn ≡ true → e.levels.atn ≡ false → Walk s last (e ∷ []) [] (begun true e) e
walk-call s last e h k =
    let c : calls last e ≡ true = ap (λ v. v && not e.levels.atn) h ∙ ap not k in
    record { comes = λ more. ap (readings 0) (off-called s last e more true (calls-off s last e c) c) ∙ skips-call s e more }

-- no edge
walk-none : (s : ClockPhase) (last : Edge) → Walk s last [] [] s last
walk-none s last = record { comes = λ more. refl }

-- the answer to a call, and the first frame
walk-first : (s : ClockPhase) (last : Edge) (answer : Option ℕ) (look : ℕ) (f : FrameTimes) → s.first.levels.clock ≡ false → last.levels.atn ≡ false
    → IsFrame false look f
    → Walk s last (answer_edges answer look ++ frame_edges false f) (frame_read false look f ∷ []) (behind_frame false f) (edge_at f.ack false false false)
walk-first s last None look f h k w = frame-walk false s last look f h k w
walk-first s last (Some d) look f h k w = by (d == look)
  where
    by : (v : Bool)
        → Walk s last (((if v then [] else edge_at d false false false ∷ []) ++ edge_at look false true false ∷ []) ++ frame_edges false f)
        (frame_read false look f ∷ []) (behind_frame false f) (edge_at f.ack false false false)
    by true = frame-walk false s last look f h k w
    by false =
        let e : Edge = edge_at d false false false in
        let on : goes_on s.first last e ≡ true = ap (λ v. same false v && not (last.levels.atn && true)) h ∙ ap (λ v. not (v && true)) k in
        walk-both s (longer s e) (behind_frame false f) last e (edge_at f.ack false false false) (e ∷ [])
        (edge_at look false true false ∷ frame_edges false f) [] (frame_read false look f ∷ [])
        (walk-on s last e on) (frame-walk false (longer s e) e look f h refl w)

-- what is between two pieces
abbrev Stands : Between → ClockPhase → Edge → Type 0
Stands (Resting i) s last = last.levels.atn ≡ true
Stands (Held k) s last = (s.first.levels.clock ≡ false) × (last.levels.atn ≡ true)
Stands (Loose r) s last = (s.first.levels.clock ≡ false) × (last.levels.atn ≡ true)

-- a walk leads to what follows it
record Leads (s : ClockPhase) (last : Edge) (es : List Edge) (said : List Reading) (b : Between) : Type 0 where
  to : ClockPhase
  at : Edge
  walk : Walk s last es said to at
  stands : Stands b to at

-- a second frame, if there is one
record Seconds (s : ClockPhase) (last : Edge) (es : List Edge) (said : List Reading) : Type 0 where
  to : ClockPhase
  at : Edge
  walk : Walk s last es said to at
  pulled : to.first.levels.clock ≡ false
  attention : at.levels.atn ≡ false

walk-second : (s : ClockPhase) (last : Edge) (k : ℕ) (second : Option SecondFrame) → s.first.levels.clock ≡ false → last.levels.atn ≡ false
    → IsSecond k second → Seconds s last (second_edges second) (second_read second)
walk-second s last k None h c w = record { to = s; at = last; walk = walk-none s last; pulled = h; attention = c }
walk-second s last k (Some m) h c (t, w) = record {
  to = behind_frame false m.sent;
  at = edge_at m.sent.ack false false false;
  walk = frame-walk false s last m.look m.sent h c w;
  pulled = refl;
  attention = refl;
}

-- the end of an attention
walk-end : (s : ClockPhase) (last : Edge) (e : Ending) → s.first.levels.clock ≡ false → last.levels.atn ≡ false
    → Leads s last (ending_edges e) [] (after_ending e)
walk-end s last e h c = by e.line e.clock
  where
    a : Edge
    a = edge_at e.atn true false false

    one : Walk s last (a ∷ []) [] (longer s a) a
    one = walk-on s last a (ap (λ v. same false v && not (last.levels.atn && false)) h ∙ ap (λ v. not (v && false)) c)

    two : (d : ℕ) → Walk s last (a ∷ edge_at d true false true ∷ []) [] (longer (longer s a) (edge_at d true false true)) (edge_at d true false true)
    two d =
        let f : Edge = edge_at d true false true in
        walk-both s (longer s a) (longer (longer s a) f) last a f (a ∷ []) (f ∷ []) [] [] one
        (walk-on (longer s a) a f (ap (λ v. same false v && true) h))

    off : (t : ClockPhase) (l : Edge) (es : List Edge) (k : ℕ) → t.first.levels.clock ≡ false → Walk s last es [] t l
        → Walk s last (es ++ edge_at k true true true ∷ []) [] (begun (calls l (edge_at k true true true)) (edge_at k true true true)) (edge_at k true true true)
    off t l es k m w =
        let f : Edge = edge_at k true true true in
        walk-both s t (begun (calls l f) f) last l f es (f ∷ []) [] [] w (walk-off t l f m (ap (λ v. same true v && not (calls l f)) m))

    by : (line clock : Option ℕ) → (let x : Ending = record { atn = e.atn; line = line; clock = clock } in Leads s last (ending_edges x) [] (after_ending x))
    by None None = record { to = longer s a; at = a; walk = one; stands = (h, refl) }
    by (Some d) None = record { to = longer (longer s a) (edge_at d true false true); at = edge_at d true false true; walk = two d; stands = (h, refl) }
    by None (Some k) = record {
      to = begun (calls a (edge_at k true true true)) (edge_at k true true true);
      at = edge_at k true true true;
      walk = off (longer s a) a (a ∷ []) k h one;
      stands = refl;
    }
    by (Some d) (Some k) = record {
      to = begun (calls (edge_at d true false true) (edge_at k true true true)) (edge_at k true true true);
      at = edge_at k true true true;
      walk = off (longer (longer s a) (edge_at d true false true)) (edge_at d true false true) (a ∷ edge_at d true false true ∷ []) k h (two d);
      stands = refl;
    }

-- a call, by what comes before it
called-edge : (b : Between) (a : ℕ) → (v : Bool) × (call_edge b a ≡ edge_at a false false v)
called-edge (Resting i) a = (true, refl)
called-edge (Held k) a = (false, refl)
called-edge (Loose r) a = (true, refl)

stands-released : (b : Between) (s : ClockPhase) (last : Edge) → Stands b s last → last.levels.atn ≡ true
stands-released (Resting i) s last h = h
stands-released (Held k) s last (h, m) = m
stands-released (Loose r) s last (h, m) = m

-- an attention
walk-attention : (b : Between) (s : ClockPhase) (last : Edge) (a : ℕ) (answer : Option ℕ) (look : ℕ) (first : FrameTimes) (second : Option SecondFrame)
    (end : Ending) → Stands b s last → IsFrame false look first → IsSecond first.ack second
    → Leads s last (piece_edges b (Attention a answer look first second end)) (piece_read (Attention a answer look first second end)) (after_ending end)
walk-attention b s last a answer look first second end h w z = by (called-edge b a).0 (called-edge b a).1
  where
    by : (v : Bool) → call_edge b a ≡ edge_at a false false v
        → Leads s last (piece_edges b (Attention a answer look first second end)) (piece_read (Attention a answer look first second end)) (after_ending end)
    by v q =
        let e : Edge = edge_at a false false v in
        let t : ClockPhase = begun true e in
        let f : ClockPhase = behind_frame false first in
        let k : Edge = edge_at first.ack false false false in
        let m = walk-second f k first.ack second refl refl z in
        let n = walk-end m.to m.at end m.pulled m.attention in
        let one : Walk s last (e ∷ (answer_edges answer look ++ frame_edges false first)) (frame_read false look first ∷ []) f k =
        walk-both s t f last e k (e ∷ []) (answer_edges answer look ++ frame_edges false first) [] (frame_read false look first ∷ [])
        (walk-call s last e (stands-released b s last h) refl) (walk-first t e answer look first refl refl w)
        in
        let two = walk-both s f m.to last k m.at (e ∷ (answer_edges answer look ++ frame_edges false first)) (second_edges second)
        (frame_read false look first ∷ []) (second_read second) one m.walk
        in
        rw q (record {
          to = n.to;
          at = n.at;
          walk = rw (← append-nil (second_read second))
              (walk-both s m.to n.to last m.at n.at (e ∷ (answer_edges answer look ++ frame_edges false first) ++ second_edges second) (ending_edges end)
              (frame_read false look first ∷ second_read second) [] two n.walk);
          stands = n.stands;
        })

-- a piece
walk-piece : (b : Between) (p : Piece) (s : ClockPhase) (last : Edge) → IsPiece b p → Stands b s last → Leads s last (piece_edges b p) (piece_read p) (after_piece p)
walk-piece b (Attention a answer look first second end) s last (c, d, w, z, e) h = walk-attention b s last a answer look first second end h w z
walk-piece b (Unanswered a release) s last (r, c, d) h = by (called-edge b a).0 (called-edge b a).1
  where
    by : (v : Bool) → call_edge b a ≡ edge_at a false false v → Leads s last (piece_edges b (Unanswered a release)) [] (Resting release)
    by v q =
        let e : Edge = edge_at a false false v in
        let f : Edge = edge_at release true true true in
        rw q (record {
          to = begun false f;
          at = f;
          walk = walk-both s (begun true e) (begun false f) last e f (e ∷ []) (f ∷ []) [] []
              (walk-call s last e (stands-released b s last h) refl) (walk-off (begun true e) e f refl refl);
          stands = refl;
        })
walk-piece (Held k) (DataByte look sent) s last (c, w) (h, m) = record {
  to = behind_frame true sent;
  at = edge_at sent.ack true false false;
  walk = frame-walk true s last look sent h m w;
  stands = (refl, refl);
}
walk-piece (Resting i) (DataByte look sent) s last (c, w) h = absurd c
walk-piece (Loose r) (DataByte look sent) s last (c, w) h = absurd c
walk-piece (Loose r) (Dropped look) s last c (h, m) =
    let f : Edge = edge_at look true true true in
    record {
      to = begun (calls last f) f;
      at = f;
      walk = walk-off s last f h (ap (λ v. same true v && not (calls last f)) h);
      stands = refl;
    }
walk-piece (Resting i) (Dropped look) s last c h = absurd c
walk-piece (Held k) (Dropped look) s last c h = absurd c

-- pieces
walk-pieces : (b : Between) (ps : List Piece) (s : ClockPhase) (last : Edge) → AreLawful b ps → Stands b s last
    → to_come Waiting s last (edges_of b ps) ≡ pieces_read ps
walk-pieces b [] s last h k = refl
walk-pieces b (p ∷ ps) s last (h, m) k =
    let w = walk-piece b p s last h k in
    w.walk.comes (edges_of (after_piece p) ps) ∙ ap (λ l. piece_read p ++ l) (walk-pieces (after_piece p) ps w.to w.at m w.stands)

-- a lawful trace
pub traces-say : TracesSayTheirPieces
traces-say edges pieces c = ap readings_of c.edges_are ∙ walk-pieces (Resting 0) pieces (begun false start) start c.lawful refl

-- the frames of its readings
frames-append : (rs qs : List Reading) → frames_in (rs ++ qs) ≡ frames_in rs ++ frames_in qs
frames-append [] qs = refl
frames-append (read.Frame t e ∷ rs) qs =
    ap (λ l. record { attention = t.opening.command; byte = t.byte; eoi = is_answered t.opening.pulse } ∷ l) (frames-append rs qs)
frames-append (read.IncompleteByte t e ∷ rs) qs = frames-append rs qs

answered-is : (p : Option EoiAnswer) → is_answered (pulse_read p) ≡ has_pulse p
answered-is None = refl
answered-is (Some p) = refl

frame-said : (x : Bool) (look : ℕ) (f : FrameTimes) → frames_in (frame_read x look f ∷ []) ≡ frame_sent x f ∷ []
frame-said x look f =
    let sent : wire.Frame = frame_sent x f in
    ap (λ v. record sent { eoi = v } ∷ []) (answered-is f.pulse)

second-said : (second : Option SecondFrame) → frames_in (second_read second) ≡ second_frames second
second-said None = refl
second-said (Some m) = frame-said false m.look m.sent

piece-said : (p : Piece) → frames_in (piece_read p) ≡ piece_frames p
piece-said (Unanswered a release) = refl
piece-said (Attention a answer look first second end) =
    frames-append (frame_read false look first ∷ []) (second_read second)
    ∙ (ap (λ l. l ++ frames_in (second_read second)) (frame-said false look first) ∙ ap (λ l. frame_sent false first ∷ l) (second-said second))
piece-said (DataByte look sent) = frame-said true look sent
piece-said (Dropped look) = refl

pieces-said : (ps : List Piece) → frames_in (pieces_read ps) ≡ frames_of ps
pieces-said [] = refl
pieces-said (p ∷ ps) =
    frames-append (piece_read p) (pieces_read ps)
    ∙ (ap (λ l. l ++ frames_in (pieces_read ps)) (piece-said p) ∙ ap (λ l. piece_frames p ++ l) (pieces-said ps))

-- they are those that it spells
pub traces-spell : TracesSayWhatTheySpell
traces-spell edges frames (pieces, c, h) = ap frames_in (traces-say edges pieces c) ∙ (pieces-said pieces ∙ sym h)

-- a frame of a piece is acknowledged
one-acknowledged : (x : Bool) (look : ℕ) (f : FrameTimes) (rs : List Reading) → acknowledged_frames rs ≡ frames_in rs
    → acknowledged_frames (frame_read x look f ∷ rs) ≡ frames_in (frame_read x look f ∷ rs)
one-acknowledged x look f rs h = ap (λ (fs : List wire.Frame). sent ∷ fs) h
  where
    sent : wire.Frame
    sent = record { attention = not x; byte = byte_sent f; eoi = is_answered (pulse_read f.pulse) }

-- all frames of pieces are
all-acknowledged : (ps : List Piece) → acknowledged_frames (pieces_read ps) ≡ frames_in (pieces_read ps)
all-acknowledged [] = refl
all-acknowledged (Unanswered a release ∷ ps) = all-acknowledged ps
all-acknowledged (Attention a answer look first None end ∷ ps) = one-acknowledged false look first (pieces_read ps) (all-acknowledged ps)
all-acknowledged (Attention a answer look first (Some m) end ∷ ps) =
    one-acknowledged false look first (frame_read false m.look m.sent ∷ pieces_read ps)
    (one-acknowledged false m.look m.sent (pieces_read ps) (all-acknowledged ps))
all-acknowledged (DataByte look sent ∷ ps) = one-acknowledged true look sent (pieces_read ps) (all-acknowledged ps)
all-acknowledged (Dropped look ∷ ps) = all-acknowledged ps

-- so they are those that it spells
pub traces-acknowledged : TracesAreAcknowledged
traces-acknowledged edges frames (pieces, c, h) =
    ap acknowledged_frames (traces-say edges pieces c) ∙ (all-acknowledged pieces ∙ (pieces-said pieces ∙ sym h))
