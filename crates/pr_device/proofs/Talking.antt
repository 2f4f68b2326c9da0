-- What the moves of a talker say, and what lawful traces say.
use Rattle.std.proofs.Common.{◌≡◌, ℕ, suc, ◌==◌, Bool, true, false, not, ◌&&◌, List, [], ◌∷◌, ◌++◌, length, map, Option}
use Rattle.std.proofs.Common.{Some, None, if◌then◌else◌, refl, sym, ap, subst, ◌∙◌, append_assoc, append-nil}
use Rattle.std.specs.Prelude.{reverse}
use Rattle.std.proofs.lemmas.List.{reverse-append}
use Rattle.pr_wire.specs.declared.Edge.{Edge}
use Rattle.pr_wire.specs.declared.Frame.{Frame}
use Rattle.pr_wire.specs.Levels.{byte_of, edge_at, start}
use Rattle.pr_wire.specs.Pieces as wire
use Rattle.pr_wire.specs.Pieces.{BitTimes, EoiAnswer, FrameTimes, SecondFrame, Ending, Piece, IsFrame, IsOpened}
use Rattle.pr_wire.specs.Pieces.{IsSecond, IsPiece, AreLawful, bit_edges, pulse_edges, frame_edges, answer_edges}
use Rattle.pr_wire.specs.Pieces.{second_edges, second_frames, ending_edges, after_ending, call_edge, piece_edges}
use Rattle.pr_wire.specs.Pieces.{piece_frames, after_piece, edges_of, frames_of, levels_of, has_pulse}
use Rattle.pr_wire.specs.Pieces.Between.{Resting, Held, Loose}
use Rattle.pr_wire.specs.Pieces.Piece.{Unanswered, Attention, DataByte, Dropped}
use Rattle.pr_device.specs.declared.place.Place.{Place}
use Rattle.pr_device.specs.declared.place.Place.TheVariants.{Between, Sent, Opening, Bits}
use Rattle.pr_device.specs.Following.{said}
use Rattle.pr_device.specs.Laws.{TracesSayWhatTheySpell}
use Rattle.pr_device.specs.Talkers.{Stay, BitMoves, ByteMoves, Turn, AreBits, IsByte, AreBytes, IsTurn, AreTurns}
use Rattle.pr_device.specs.Talkers.{all_bits, byte_moments, all_bytes, turn_moments, moments_of, is_answered_from}
use Rattle.pr_device.specs.Talkers.{frame_sent, turn_frames, frames_sent}
use Rattle.pr_device.specs.Talkers.Turn.{Silent, Talking}
use Rattle.pr_device.proofs.Walking.{onto, onto-append, Stands, IsAt, IsBetween, IsCalm, framed, not-not, goes-quietly}
use Rattle.pr_device.proofs.Walking.{turns, begins-all, walk-calm}
use Rattle.pr_device.proofs.Bits.{Rests, level_of, walk-look, walk-byte, walk-bytes}

-- where a history leads, in short
at-of : (wait : ℕ) (h : List Edge) (x c : Bool) (p : Place) (fs : List Frame) → Stands wait h x c p fs
    → IsAt wait h x fs
at-of wait h x c p fs s = record { atn_is = s.atn_is; said_is = s.said_is }

-- the end of a turn: CLOCK may be released
walk-end : (wait : ℕ) (h : List Edge) (x : Bool) (fs : List Frame) (es : List Edge) → Rests wait h x fs → Stay x true es
    → IsAt wait (onto es h) x fs
walk-end wait h x fs [] r w = at-of wait h x false r.place fs r.stands
walk-end wait h x fs (e ∷ es) r w =
    let o = walk-look wait h x r.place fs e es r.between r.stands w in
    at-of wait (onto (e ∷ es) h) x true _ fs o

-- from CLOCK's pull on
walk-talk : (wait : ℕ) (h : List Edge) (x : Bool) (fs : List Frame) (pulled : List Edge) (bytes : List ByteMoves)
    (end : List Edge)
    → Stands wait h x false Between fs → Stay x false pulled → AreBytes x bytes → Stay x true end
    → IsAt wait (onto (pulled ++ (all_bytes bytes ++ end)) h) x (fs ++ map (frame_sent wait x) bytes)
walk-talk wait h x fs pulled bytes end s w b k =
    let q = walk-calm wait h x false Between fs pulled tt s w in
    let r = walk-bytes wait (onto pulled h) x fs bytes (record { place = Between; between = tt; stands = q }) b in
    subst (λ g. IsAt wait g x (fs ++ map (frame_sent wait x) bytes))
    (sym (onto-append pulled (all_bytes bytes ++ end) h ∙ onto-append (all_bytes bytes) end (onto pulled h)))
    (walk-end wait (onto (all_bytes bytes) (onto pulled h)) x (fs ++ map (frame_sent wait x) bytes) end r k)

-- a turn begins after ATN's other level, or at the very first moment
pub record IsFresh (wait : ℕ) (h : List Edge) (x : Bool) (fs : List Frame) : Type 0 where
  pub first : (d : Bool) (e : Edge) → e.levels.atn ≡ x → e.levels.clock ≡ d → Stands wait (e ∷ h) x d Between fs

fresh-after : (wait : ℕ) (h : List Edge) (x : Bool) (fs : List Frame) → IsAt wait h x fs → IsFresh wait h (not x) fs
fresh-after wait h x fs s = record {
  first = λ d e a k. turns wait h (not x) d fs e (record { atn_is = s.atn_is ∙ sym (not-not x); said_is = s.said_is }) a
      k;
}

fresh-first : (wait : ℕ) (x : Bool) → IsFresh wait [] x []
fresh-first wait x = record { first = λ d e a k. begins-all wait x d e a k }

walk-turn : (wait : ℕ) (h : List Edge) (x : Bool) (fs : List Frame) (t : Turn) → IsFresh wait h x fs → IsTurn x t
    → IsAt wait (onto (turn_moments t) h) x (fs ++ turn_frames wait x t)
walk-turn wait h x fs (Silent e es) f (a, k, w) =
    subst (λ l. IsAt wait (onto es (e ∷ h)) x l) (sym (append-nil fs))
    (at-of wait (onto es (e ∷ h)) x true Between fs
    (walk-calm wait (e ∷ h) x true Between fs es tt (f.first true e a k) w))
walk-turn wait h x fs (Talking [] pull pulled bytes end) f (u, (a, k, w), b, m) =
    walk-talk wait (pull ∷ h) x fs pulled bytes end (f.first false pull a k) w b m
walk-turn wait h x fs (Talking (e ∷ es) pull pulled bytes end) f ((c, d, u), (a, k, w), b, m) =
    let s = walk-calm wait (e ∷ h) x true Between fs es tt (f.first true e c d) u in
    let q = goes-quietly wait (onto es (e ∷ h)) x true false Between Between fs pull s a k refl refl in
    subst (λ g. IsAt wait g x (fs ++ map (frame_sent wait x) bytes))
    (sym (onto-append es ((pull ∷ pulled) ++ (all_bytes bytes ++ end)) (e ∷ h)))
    (walk-talk wait (pull ∷ onto es (e ∷ h)) x fs pulled bytes end q w b m)

walk-turns : (wait : ℕ) (h : List Edge) (x : Bool) (fs : List Frame) (ts : List Turn) → IsFresh wait h x fs
    → said wait h ≡ fs → AreTurns x ts → said wait (onto (moments_of ts) h) ≡ fs ++ frames_sent wait x ts
walk-turns wait h x fs [] f s w = s ∙ sym (append-nil fs)
walk-turns wait h x fs (t ∷ ts) f s (k, w) =
    let a = walk-turn wait h x fs t f k in
    ap (said wait) (onto-append (turn_moments t) (moments_of ts) h)
    ∙ (walk-turns wait (onto (turn_moments t) h) (not x) (fs ++ turn_frames wait x t) ts
    (fresh-after wait (onto (turn_moments t) h) x (fs ++ turn_frames wait x t) a) a.said_is w
    ∙ append_assoc fs (turn_frames wait x t) (frames_sent wait (not x) ts))

-- a list in front of a history is its reverse there
onto-reverse : (es h : List Edge) → onto es h ≡ reverse es ++ h
onto-reverse [] h = refl
onto-reverse (e ∷ es) h =
    onto-reverse es (e ∷ h) ∙ (sym (append_assoc (reverse es) (e ∷ []) h)
    ∙ ap (λ l. l ++ h) (sym (reverse-append (e ∷ []) es)))

pub reverse-onto : (es : List Edge) → reverse es ≡ onto es []
reverse-onto es = sym (onto-reverse es [] ∙ append-nil (reverse es))

-- the moves of a talker say the bytes that it sends
pub talkers-say : (wait : ℕ) (x : Bool) (ts : List Turn) → AreTurns x ts
    → said wait (reverse (moments_of ts)) ≡ frames_sent wait x ts
talkers-say wait x ts w = ap (said wait) (reverse-onto (moments_of ts))
    ∙ walk-turns wait [] x [] ts (fresh-first wait x) refl w

-- the bits of a frame of a lawful trace, as moves
abbrev first_level : List BitTimes → Bool
first_level [] = true
first_level (b ∷ bs) = b.level

abbrev moves : Bool → List BitTimes → List BitMoves
moves x [] = []
moves x (b ∷ bs) =
    record { up = edge_at b.up x true b.level; high = []; down = edge_at b.down x false (first_level bs); low = [] }
    ∷ moves x bs

edges-of-moves : (x : Bool) (c : ℕ) (bs : List BitTimes)
    → bit_edges x c bs ≡ edge_at c x false (first_level bs) ∷ all_bits (moves x bs)
edges-of-moves x c [] = refl
edges-of-moves x c (b ∷ bs) =
    ap (λ l. edge_at c x false b.level ∷ edge_at b.up x true b.level ∷ l) (edges-of-moves x b.down bs)

are-moves : (x : Bool) (bs : List BitTimes) → AreBits x (moves x bs)
are-moves x [] = tt
are-moves x (b ∷ bs) = (((refl, refl, tt), (refl, refl, tt)), are-moves x bs)

number-of-moves : (x : Bool) (bs : List BitTimes) → length (moves x bs) ≡ length bs
number-of-moves x [] = refl
number-of-moves x (b ∷ bs) = ap suc (number-of-moves x bs)

levels-of-moves : (x : Bool) (bs : List BitTimes) → map level_of (moves x bs) ≡ levels_of bs
levels-of-moves x [] = refl
levels-of-moves x (b ∷ bs) = ap (λ l. b.level ∷ l) (levels-of-moves x bs)

-- a frame, as moves
abbrev byte_moves : Bool → ℕ → FrameTimes → ByteMoves
byte_moves x look f = record {
  look = edge_at look x true false;
  opening = edge_at f.free x true true ∷ pulse_edges f.pulse;
  pull = edge_at f.pull x false (first_level f.bits);
  low = [];
  bits = moves x f.bits;
}

pulse-stays : (x : Bool) (free : ℕ) (pulse : Option EoiAnswer) (pull : ℕ) → IsOpened x free pulse pull
    → Stay x true (pulse_edges pulse)
pulse-stays x free None pull w = tt
pulse-stays x free (Some p) pull (h, u, v, w) = (sym h, refl, (sym h, refl, tt))

pulse-answers : (wait : ℕ) (x : Bool) (free : ℕ) (pulse : Option EoiAnswer) (pull : ℕ) → IsOpened x free pulse pull
    → (x && is_answered_from wait free (pulse_edges pulse)) ≡ has_pulse pulse
pulse-answers wait true free None pull w = refl
pulse-answers wait false free None pull w = refl
pulse-answers wait x free (Some p) pull (h, u, v, w) = ap (λ v. v && true) h

is-byte : (x : Bool) (look : ℕ) (f : FrameTimes) → IsFrame x look f → IsByte x (byte_moves x look f)
is-byte x look f w = record {
  opened = (refl, refl, (refl, refl, pulse-stays x f.free f.pulse f.pull w.opened));
  released = refl;
  pulled = (refl, refl, tt);
  bits = are-moves x f.bits;
  eight = number-of-moves x f.bits ∙ w.eight;
}

-- it sends the byte that the frame spells
sends-frame : (wait : ℕ) (x : Bool) (look : ℕ) (f : FrameTimes) → IsFrame x look f
    → frame_sent wait x (byte_moves x look f) ≡ wire.frame_sent x f
sends-frame wait x look f w =
    ap (λ l. framed (not x) (byte_of l) (x && is_answered_from wait f.free (pulse_edges f.pulse)))
    (levels-of-moves x f.bits)
    ∙ ap (λ v. framed (not x) (byte_of (levels_of f.bits)) v) (pulse-answers wait x f.free f.pulse f.pull w.opened)

-- its edges are those moves, and the acknowledgement
edges-of-frame : (x : Bool) (look : ℕ) (f : FrameTimes)
    → (edge_at look x true false ∷ frame_edges x f) ≡ byte_moments (byte_moves x look f) ++ edge_at f.ack x false false
    ∷ []
edges-of-frame x look f =
    ap (λ l. edge_at look x true false ∷ edge_at f.free x true true
    ∷ ((pulse_edges f.pulse ++ l) ++ edge_at f.ack x false false ∷ [])) (edges-of-moves x f.pull f.bits)

-- a frame on the lines
walk-frame : (wait : ℕ) (h : List Edge) (x : Bool) (fs : List Frame) (look : ℕ) (f : FrameTimes) → Rests wait h x fs
    → IsFrame x look f
    → Rests wait (onto (edge_at look x true false ∷ frame_edges x f) h) x (fs ++ wire.frame_sent x f ∷ [])
walk-frame wait h x fs look f r w =
    let c = walk-byte wait h x r.place fs (byte_moves x look f) r.between r.stands (is-byte x look f w) in
    let a : Edge = edge_at f.ack x false false in
    let gs : List Frame = fs ++ frame_sent wait x (byte_moves x look f) ∷ [] in
    let q = walk-calm wait (onto (byte_moments (byte_moves x look f)) h) x false (Sent c.pull) gs (a ∷ []) tt c.stands
    (refl, refl, tt) in
    subst (λ g. Rests wait g x (fs ++ wire.frame_sent x f ∷ []))
    (sym (ap (λ l. onto l h) (edges-of-frame x look f) ∙ onto-append (byte_moments (byte_moves x look f)) (a ∷ []) h))
    (subst (λ g. Rests wait (onto (a ∷ []) (onto (byte_moments (byte_moves x look f)) h)) x (fs ++ g ∷ []))
    (sends-frame wait x look f w)
    (record { place = Sent c.pull; between = tt; stands = q }))

-- CLOCK stays pulled
walk-low : (wait : ℕ) (h : List Edge) (x : Bool) (fs : List Frame) (es : List Edge) → Rests wait h x fs
    → Stay x false es → Rests wait (onto es h) x fs
walk-low wait h x fs es r w = record {
  place = r.place;
  between = r.between;
  stands = walk-calm wait h x false r.place fs es (calm r.place r.between) r.stands w;
}
  where
    calm : (p : Place) → IsBetween p → IsCalm p
    calm Between i = tt
    calm (Sent z) i = tt
    calm (Opening l f eoi) i = absurd i
    calm (Bits eoi n v) i = tt

-- the answer to a call, and the first frame
walk-first : (wait : ℕ) (h : List Edge) (fs : List Frame) (answer : Option ℕ) (look : ℕ) (f : FrameTimes)
    → Rests wait h false fs → IsFrame false look f
    → Rests wait (onto (answer_edges answer look ++ frame_edges false f) h) false (fs ++ wire.frame_sent false f ∷ [])
walk-first wait h fs None look f r w = walk-frame wait h false fs look f r w
walk-first wait h fs (Some d) look f r w = by (d == look)
  where
    by : (v : Bool) → Rests wait
        (onto (((if v then [] else edge_at d false false false ∷ []) ++ edge_at look false true false ∷ [])
        ++ frame_edges false f) h) false (fs ++ wire.frame_sent false f ∷ [])
    by true = walk-frame wait h false fs look f r w
    by false = walk-frame wait (edge_at d false false false ∷ h) false fs look f
        (walk-low wait h false fs (edge_at d false false false ∷ []) r (refl, refl, tt)) w

-- a second frame, if there is one
walk-second : (wait : ℕ) (h : List Edge) (fs : List Frame) (k : ℕ) (second : Option SecondFrame) → Rests wait h false fs
    → IsSecond k second → Rests wait (onto (second_edges second) h) false (fs ++ second_frames second)
walk-second wait h fs k None r w = subst (λ l. Rests wait h false l) (sym (append-nil fs)) r
walk-second wait h fs k (Some m) r (t, w) = walk-frame wait h false fs m.look m.sent r w

-- how the lines are between two pieces
abbrev AreAt : ℕ → wire.Between → List Edge → List Frame → Type 0
AreAt wait (Resting i) h fs = IsAt wait h true fs
AreAt wait (Held k) h fs = Rests wait h true fs
AreAt wait (Loose r) h fs = Rests wait h true fs

at-least : (wait : ℕ) (b : wire.Between) (h : List Edge) (fs : List Frame) → AreAt wait b h fs → IsAt wait h true fs
at-least wait (Resting i) h fs s = s
at-least wait (Held k) h fs r = at-of wait h true false r.place fs r.stands
at-least wait (Loose k) h fs r = at-of wait h true false r.place fs r.stands

-- the end of an attention
walk-ending : (wait : ℕ) (h : List Edge) (fs : List Frame) (e : Ending) → IsAt wait h false fs
    → AreAt wait (after_ending e) (onto (ending_edges e) h) fs
walk-ending wait h fs e s = by e.line e.clock
  where
    a : Edge
    a = edge_at e.atn true false false

    one : Rests wait (a ∷ h) true fs
    one = record { place = Between; between = tt; stands = turns wait h true false fs a s refl refl }

    two : (d : ℕ) → Rests wait (edge_at d true false true ∷ (a ∷ h)) true fs
    two d = walk-low wait (a ∷ h) true fs (edge_at d true false true ∷ []) one (refl, refl, tt)

    by : (l c : Option ℕ)
        → AreAt wait (wire.after_lines e.atn l c) (onto (a ∷ (wire.line_edges l ++ wire.clock_edges c)) h) fs
    by None None = one
    by (Some d) None = two d
    by None (Some c) = walk-end wait (a ∷ h) true fs (edge_at c true true true ∷ []) one (refl, refl, tt)
    by (Some d) (Some c) =
        walk-end wait (edge_at d true false true ∷ (a ∷ h)) true fs (edge_at c true true true ∷ []) (two d)
        (refl, refl, tt)

-- a call
walk-call : (wait : ℕ) (b : wire.Between) (h : List Edge) (fs : List Frame) (a : ℕ) → AreAt wait b h fs
    → Rests wait (call_edge b a ∷ h) false fs
walk-call wait (Resting i) h fs a s =
    record {
      place = Between;
      between = tt;
      stands = turns wait h false false fs (edge_at a false false true) s refl refl;
    }
walk-call wait (Held k) h fs a r =
    record {
      place = Between;
      between = tt;
      stands = turns wait h false false fs (edge_at a false false false)
          (at-of wait h true false r.place fs r.stands) refl refl;
    }
walk-call wait (Loose k) h fs a r =
    record {
      place = Between;
      between = tt;
      stands = turns wait h false false fs (edge_at a false false true)
          (at-of wait h true false r.place fs r.stands) refl refl;
    }

-- a piece
walk-piece : (wait : ℕ) (b : wire.Between) (h : List Edge) (fs : List Frame) (p : Piece) → AreAt wait b h fs
    → IsPiece b p → AreAt wait (after_piece p) (onto (piece_edges b p) h) (fs ++ piece_frames p)
walk-piece wait b h fs (Unanswered a release) s w =
    let r = walk-call wait b h fs a s in
    let t = turns wait (call_edge b a ∷ h) true true fs (edge_at release true true true)
    (at-of wait (call_edge b a ∷ h) false false r.place fs r.stands) refl refl in
    subst (λ l. IsAt wait (edge_at release true true true ∷ (call_edge b a ∷ h)) true l) (sym (append-nil fs))
    (at-of wait _ true true Between fs t)
walk-piece wait b h fs (Attention a answer look first second end) s (c, n, f, m, e) =
    let r = walk-call wait b h fs a s in
    let gs : List Frame = fs ++ wire.frame_sent false first ∷ [] in
    let h1 : List Edge = onto (answer_edges answer look ++ frame_edges false first) (call_edge b a ∷ h) in
    let q = walk-first wait (call_edge b a ∷ h) fs answer look first r f in
    let t = walk-second wait h1 gs first.ack second q m in
    let h2 : List Edge = onto (second_edges second) h1 in
    let z = walk-ending wait h2 (gs ++ second_frames second) end
    (at-of wait h2 false false t.place (gs ++ second_frames second) t.stands) in
    subst (λ l. AreAt wait (after_ending end) (onto (piece_edges b (Attention a answer look first second end)) h) l)
    (append_assoc fs (wire.frame_sent false first ∷ []) (second_frames second))
    (subst (λ g. AreAt wait (after_ending end) g (gs ++ second_frames second))
    (sym (cut (answer_edges answer look) (frame_edges false first) (second_edges second) (ending_edges end)
    (call_edge b a ∷ h))) z)
  where
    cut : (u v x y g : List Edge) → onto (((u ++ v) ++ x) ++ y) g ≡ onto y (onto x (onto (u ++ v) g))
    cut u v x y g = onto-append ((u ++ v) ++ x) y g ∙ ap (λ l. onto y l) (onto-append (u ++ v) x g)
walk-piece wait (Held k) h fs (DataByte look sent) s (l, f) = walk-frame wait h true fs look sent s f
walk-piece wait (Resting i) h fs (DataByte look sent) s (l, f) = absurd l
walk-piece wait (Loose r) h fs (DataByte look sent) s (l, f) = absurd l
walk-piece wait (Loose r) h fs (Dropped look) s w =
    subst (λ l. IsAt wait (edge_at look true true true ∷ h) true l) (sym (append-nil fs))
    (walk-end wait h true fs (edge_at look true true true ∷ []) s (refl, refl, tt))
walk-piece wait (Resting i) h fs (Dropped look) s w = absurd w
walk-piece wait (Held k) h fs (Dropped look) s w = absurd w

walk-pieces : (wait : ℕ) (b : wire.Between) (h : List Edge) (fs : List Frame) (ps : List Piece) → AreAt wait b h fs
    → AreLawful b ps → said wait (onto (edges_of b ps) h) ≡ fs ++ frames_of ps
walk-pieces wait b h fs [] s w = (at-least wait b h fs s).said_is ∙ sym (append-nil fs)
walk-pieces wait b h fs (p ∷ ps) s (k, w) =
    ap (said wait) (onto-append (piece_edges b p) (edges_of (after_piece p) ps) h)
    ∙ (walk-pieces wait (after_piece p) (onto (piece_edges b p) h) (fs ++ piece_frames p) ps
    (walk-piece wait b h fs p s k) w
    ∙ append_assoc fs (piece_frames p) (frames_of ps))

-- a lawful trace says what it spells
pub traces-say : TracesSayWhatTheySpell
traces-say wait edges frames (pieces, cut, are) =
    ap (λ l. said wait (reverse l)) cut.edges_are
    ∙ (ap (said wait) (reverse-onto (start ∷ edges_of (Resting 0) pieces))
    ∙ (walk-pieces wait (Resting 0) (start ∷ []) [] pieces
    (at-of wait (start ∷ []) true true Between [] (begins-all wait true true start refl refl)) cut.lawful
    ∙ sym are))
