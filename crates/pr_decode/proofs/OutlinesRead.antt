-- What a recording says, by the outlines of its stretches.
use Rattle.std.proofs.Common.{◌≡◌, ℕ, suc, zero, ◌-◌, ◌==◌, Bool, true, false, not, ◌&&◌, ◌||◌, List, [], ◌∷◌, ◌++◌, length, map, Option, Some, None, if◌then◌else◌, refl, sym, ap, ◌∙◌, subst}
use Rattle.std.proofs.lemmas.Bool.{eqb-true}
use Rattle.std.proofs.lemmas.List.{length-map}
use Rattle.std.specs.Prelude.{nat_lt}
use Rattle.pr_wire.specs.declared.Edge.{Edge}
use Rattle.pr_wire.specs.Levels.{byte_of}
use Rattle.pr_wire.specs.Table.{same}
use Rattle.pr_decode.specs.declared.reading.FrameEnd.{FrameEnd}
use Rattle.pr_decode.specs.declared.reading.FrameEnd.TheVariants as frame
use Rattle.pr_decode.specs.declared.reading.IncompleteEnd.{IncompleteEnd}
use Rattle.pr_decode.specs.declared.reading.IncompleteEnd.TheVariants as glitch
use Rattle.pr_decode.specs.declared.reading.Opening.{Opening}
use Rattle.pr_decode.specs.declared.reading.Reading.{Reading}
use Rattle.pr_decode.specs.declared.reading.Reading.TheVariants.{Frame, IncompleteByte}
use Rattle.pr_decode.specs.declared.reading.Transfer.{Transfer}
use Rattle.pr_decode.specs.Laws.{OutlinesDecide}
use Rattle.pr_decode.specs.Outlines.{Outline, Released, acknowledged_behind, openings, outline, taken_by, with_acknowledgement}
use Rattle.pr_decode.specs.Readings.{Bit, Bits, acknowledgement, begins, begun_by, bits_from, ends_bit, first_late, frame_end, glitch_end, halves, high_end, high_half, is_called, is_late, is_none, level_of, longest_bit, low_half, number_of, opening_of, put_bit, reading, readings, said, silence_or, transfer, turns_of}
use Rattle.pr_decode.specs.ClockPhases.{ClockPhase, begun, calls, goes_on, longer, stretches, stretches_from}
use Rattle.pr_decode.proofs.Adding.{opening-released}
use Rattle.pr_decode.proofs.Cutting.{clock-turns, stretches-off, stretches-on}

-- CLOCK turns from stretch to stretch, but where ATN is pulled
abbrev IsNext : (clock : Bool) → ClockPhase → Type 0
IsNext c s = s.attention ≡ false → s.first.levels.clock ≡ not c

abbrev AreNext : (clock : Bool) → List ClockPhase → Type 0
AreNext c [] = Unit {0}
AreNext c (s ∷ ss) = IsNext c s × AreNext s.first.levels.clock ss

turned-clock : (x y : Bool) → same x y ≡ false → x ≡ not y
turned-clock true true h = absurd (cc)
turned-clock true false h = refl
turned-clock false true h = refl
turned-clock false false h = absurd (cc)

cut-next : (c : Bool) (s : ClockPhase) (last : Edge) (es : List Edge) → IsNext c s → AreNext c (stretches_from s last es)
cut-next c s last [] h = (h, tt)
cut-next c s last (e ∷ es) h =
    by (goes_on s.first last e) refl (cut-next c (longer s e) e es h) (λ k. cut-next s.first.levels.clock (begun (calls last e) e) e es k)
  where
    by : (v : Bool) → goes_on s.first last e ≡ v → AreNext c (stretches_from (longer s e) e es)
        → (IsNext s.first.levels.clock (begun (calls last e) e) → AreNext s.first.levels.clock (stretches_from (begun (calls last e) e) e es))
        → AreNext c (stretches_from s last (e ∷ es))
    by true k m n = rw (stretches-on s last e es k) m
    by false k m n =
        rw (stretches-off s last e es k)
        (h, n (λ q. turned-clock e.levels.clock s.first.levels.clock (clock-turns s last e k q)))

all-next : (edges : List Edge) → (c : Bool) × AreNext c (stretches edges)
all-next [] = (true, tt)
all-next (e ∷ es) = (not e.levels.clock, cut-next (not e.levels.clock) (begun false e) e es (λ k. by e.levels.clock))
  where
    by : (v : Bool) → v ≡ not (not v)
    by true = refl
    by false = refl

-- the first edge too late, with one edge more
abbrev joined : Option ℕ → Option ℕ → Option ℕ
joined (Some t) u = Some t
joined None u = u

abbrev late_at : ℕ → ℕ → Option ℕ
late_at t u = if nat_lt longest_bit (u - t) then Some u else None

late-joined : (t : ℕ) (xs : List Edge) (e : Edge) → first_late t (xs ++ e ∷ []) ≡ joined (first_late t xs) (late_at t e.time)
late-joined t [] e = refl
late-joined t (x ∷ xs) e = by (is_late t x) (late-joined t xs e)
  where
    by : (v : Bool) → first_late t (xs ++ e ∷ []) ≡ joined (first_late t xs) (late_at t e.time)
        → (if v then Some x.time else first_late t (xs ++ e ∷ [])) ≡ joined (if v then Some x.time else first_late t xs) (late_at t e.time)
    by true h = refl
    by false h = h

-- what an outline says, where CLOCK is released
abbrev level_in : Option Released → Bool
level_in None = false
level_in (Some r) = r.level

abbrev late_in : Option Released → Option ℕ
late_in None = None
late_in (Some r) = r.late

abbrev released : ClockPhase → Released
released s = record { level = s.first.levels.line; late = first_late s.first.time s.rest }

is-released : (s : ClockPhase) → s.first.levels.clock ≡ true → (outline s).released ≡ Some (released s)
is-released s h = ap (λ v. if v then Some (released s) else None) h

-- a bit, by outlines
abbrev ends_by : Outline → Outline → Bool
ends_by h x = not h.attention && not x.attention && is_none (joined (late_in h.released) (late_at h.time x.time))

ends-same : (h x : ClockPhase) → IsNext false h → ends_bit h x ≡ ends_by (outline h) (outline x)
ends-same h x k = by h.attention refl
  where
    by : (v : Bool) → h.attention ≡ v → ends_bit h x ≡ ends_by (outline h) (outline x)
    by true q =
        ap (λ v. not v && not x.attention && is_none (first_late h.first.time (h.rest ++ x.first ∷ []))) q
        ∙ sym (ap (λ v. not v && not x.attention && is_none (joined (late_in (outline h).released) (late_at h.first.time x.first.time))) q)
    by false q =
        ap (λ v. not h.attention && not x.attention && is_none v) (late-joined h.first.time h.rest x.first)
        ∙ sym (ap (λ v. not h.attention && not x.attention && is_none (joined (late_in v) (late_at h.first.time x.first.time))) (is-released h (k q)))

-- the stretches of a bit that ends
both-uncalled : (h x : ClockPhase) → ends_bit h x ≡ true → (h.attention ≡ false) × (x.attention ≡ false)
both-uncalled h x e = by h.attention x.attention e
  where
    by : (u v : Bool) → (not u && not v && is_none (first_late h.first.time (h.rest ++ x.first ∷ []))) ≡ true → (u ≡ false) × (v ≡ false)
    by false false k = (refl, refl)
    by false true k = absurd (cc)
    by true v k = absurd (cc)

next-pulled : (h x : ClockPhase) (ss : List ClockPhase) → AreNext false (h ∷ x ∷ ss) → ends_bit h x ≡ true → x.first.levels.clock ≡ false
next-pulled h x ss k e = let u = both-uncalled h x e in k.1.0 u.1 ∙ ap not (k.0 u.0)

next-behind : (h x : ClockPhase) (ss : List ClockPhase) → AreNext false (h ∷ x ∷ ss) → ends_bit h x ≡ true → AreNext false ss
next-behind h x ss k e = subst (λ c. AreNext c ss) (next-pulled h x ss k e) k.1.1

-- the bits from a stretch with CLOCK pulled on, if the next one ends, or not
abbrev more_bits : ℕ → (l h x : ClockPhase) → List ClockPhase → Bool → Bits
more_bits n l h x ss v =
    if v
    then put_bit (record { low = l; high = h; down = x.first }) (bits_from n x ss)
    else record { bits = []; last = l; behind = h ∷ x ∷ ss }

-- what counts of bits
record Parts : Type 0 where
  levels : List Bool
  lows : List ℕ
  highs : List ℕ
  last : ℕ
  behind : List Outline

abbrev parts : Bits → Parts
parts b = record {
  levels = map level_of b.bits;
  lows = map low_half b.bits;
  highs = map high_half b.bits;
  last = b.last.first.time;
  behind = map outline b.behind;
}

abbrev put_part : ℕ → Bool → (up down : ℕ) → Parts → Parts
put_part t level up down q = record {
  levels = level ∷ q.levels;
  lows = (up - t) ∷ q.lows;
  highs = (down - up) ∷ q.highs;
  last = q.last;
  behind = q.behind;
}

abbrev no_part : ℕ → List Outline → Parts
no_part t os = record { levels = []; lows = []; highs = []; last = t; behind = os }

abbrev parts_from : ℕ → ℕ → List Outline → Parts
parts_from (suc n) t (h ∷ x ∷ os) =
    if ends_by h x then put_part t (level_in h.released) h.time x.time (parts_from n x.time os) else no_part t (h ∷ x ∷ os)
parts_from n t os = no_part t os

parts-same : (n : ℕ) (l : ClockPhase) (ss : List ClockPhase) → AreNext false ss → parts (bits_from n l ss) ≡ parts_from n l.first.time (map outline ss)
parts-same zero l [] k = refl
parts-same zero l (h ∷ []) k = refl
parts-same zero l (h ∷ x ∷ ss) k = refl
parts-same (suc n) l [] k = refl
parts-same (suc n) l (h ∷ []) k = refl
parts-same (suc n) l (h ∷ x ∷ ss) k =
    by (ends_bit h x) refl (λ q. parts-same n x ss (next-behind h x ss k q)) ∙ ap one (ends-same h x k.0)
  where
    one : Bool → Parts
    one v =
        if v
        then put_part l.first.time (level_in (outline h).released) h.first.time x.first.time (parts_from n x.first.time (map outline ss))
        else no_part l.first.time (map outline (h ∷ x ∷ ss))

    by : (v : Bool) → ends_bit h x ≡ v
        → (ends_bit h x ≡ true → parts (bits_from n x ss) ≡ parts_from n x.first.time (map outline ss))
        → parts (more_bits n l h x ss (ends_bit h x)) ≡ one (ends_bit h x)
    by false q m = ap (λ v. parts (more_bits n l h x ss v)) q ∙ sym (ap one q)
    by true q m =
        let u = both-uncalled h x q in
        ap (λ v. parts (more_bits n l h x ss v)) q
        ∙ (ap (put_part l.first.time h.first.levels.line h.first.time x.first.time) (m q)
        ∙ (ap (λ v. put_part l.first.time (level_in v) h.first.time x.first.time (parts_from n x.first.time (map outline ss)))
        (sym (is-released h (k.0 u.0)))
        ∙ sym (ap one q)))

-- the stretches after bits
bits-behind : (n : ℕ) (l : ClockPhase) (ss : List ClockPhase) → AreNext false ss → AreNext false (bits_from n l ss).behind
bits-behind zero l [] k = k
bits-behind zero l (h ∷ []) k = k
bits-behind zero l (h ∷ x ∷ ss) k = k
bits-behind (suc n) l [] k = k
bits-behind (suc n) l (h ∷ []) k = k
bits-behind (suc n) l (h ∷ x ∷ ss) k = by (ends_bit h x) refl (λ q. bits-behind n x ss (next-behind h x ss k q))
  where
    by : (v : Bool) → ends_bit h x ≡ v → (ends_bit h x ≡ true → AreNext false (bits_from n x ss).behind)
        → AreNext false (more_bits n l h x ss (ends_bit h x)).behind
    by true q m = subst (λ v. AreNext false (more_bits n l h x ss v).behind) (sym q) (m q)
    by false q m = subst (λ v. AreNext false (more_bits n l h x ss v).behind) (sym q) k

-- the acknowledgement is where all bits have come
abbrev twice : ℕ → ℕ
twice zero = 0
twice (suc n) = suc (suc (twice n))

whole-last : (n : ℕ) (l : ClockPhase) (ss : List ClockPhase) → length (bits_from n l ss).bits ≡ n
    → acknowledgement (turns_of (bits_from n l ss).last) ≡ acknowledged_behind (twice n) (l ∷ ss)
whole-last zero l [] e = refl
whole-last zero l (h ∷ []) e = refl
whole-last zero l (h ∷ x ∷ ss) e = refl
whole-last (suc n) l [] e = absurd (cc)
whole-last (suc n) l (h ∷ []) e = absurd (cc)
whole-last (suc n) l (h ∷ x ∷ ss) e = by (ends_bit h x) refl (whole-last n x ss)
  where
    come : Bool → Bits
    come v = more_bits n l h x ss v

    by : (v : Bool) → ends_bit h x ≡ v
        → (length (bits_from n x ss).bits ≡ n → acknowledgement (turns_of (bits_from n x ss).last) ≡ acknowledged_behind (twice n) (x ∷ ss))
        → acknowledgement (turns_of (come (ends_bit h x)).last) ≡ acknowledged_behind (twice n) (x ∷ ss)
    by true q m =
        let k : suc (length (bits_from n x ss).bits) ≡ suc n = ap (λ v. length (come v).bits) (sym q) ∙ e in
        ap (λ v. acknowledgement (turns_of (come v).last)) q ∙ m (cc)
    by false q m =
        let k : 0 ≡ suc n = ap (λ v. length (come v).bits) (sym q) ∙ e in
        absurd (cc)

-- what ends a byte
abbrev waiting_by : List Outline → FrameEnd
waiting_by [] = frame.Cut
waiting_by (o ∷ os) = frame.Unacknowledged o.time

abbrev frame_by : Option ℕ → List Outline → FrameEnd
frame_by (Some t) os = frame.Acknowledged t
frame_by None os = waiting_by os

frame-same : (a : Option ℕ) (ss : List ClockPhase) → frame_end a ss ≡ frame_by a (map outline ss)
frame-same (Some t) ss = refl
frame-same None [] = refl
frame-same None (s ∷ ss) = refl

abbrev high_by : Outline → List Outline → IncompleteEnd
high_by o [] = silence_or (late_in o.released) glitch.Cut
high_by o (n ∷ os) = silence_or (joined (late_in o.released) (late_at o.time n.time)) (glitch.Attention n.time)

abbrev glitch_by : List Outline → IncompleteEnd
glitch_by [] = glitch.Cut
glitch_by (o ∷ os) = if o.attention then glitch.Attention o.time else high_by o os

high-same : (s : ClockPhase) (ss : List ClockPhase) → s.first.levels.clock ≡ true → high_end s ss ≡ high_by (outline s) (map outline ss)
high-same s [] h = ap (λ v. silence_or (late_in v) glitch.Cut) (sym (is-released s h))
high-same s (n ∷ ss) h =
    ap (λ v. silence_or v (glitch.Attention n.first.time)) (late-joined s.first.time s.rest n.first)
    ∙ ap (λ v. silence_or (joined (late_in v) (late_at s.first.time n.first.time)) (glitch.Attention n.first.time)) (sym (is-released s h))

glitch-same : (ss : List ClockPhase) → AreNext false ss → glitch_end ss ≡ glitch_by (map outline ss)
glitch-same [] k = refl
glitch-same (s ∷ ss) k = by s.attention refl
  where
    by : (v : Bool) → s.attention ≡ v → glitch_end (s ∷ ss) ≡ glitch_by (map outline (s ∷ ss))
    by true q =
        ap (λ v. if v then glitch.Attention s.first.time else high_end s ss) q
        ∙ sym (ap (λ v. if v then glitch.Attention s.first.time else high_by (outline s) (map outline ss)) q)
    by false q = ap (λ v. if s.attention then glitch.Attention s.first.time else v) (high-same s ss (k.0 q))

-- a byte, with its acknowledgement if it has eight bits
abbrev transfer_by : Opening → ℕ → (count : ℕ) → Parts → Transfer
transfer_by o p n q = record {
  opening = o;
  pull = p;
  bits = n;
  byte = byte_of q.levels;
  low = halves q.lows;
  high = halves q.highs;
  last_pull = q.last;
}

abbrev counted_by : Opening → Option ℕ → ℕ → (count : ℕ) → Parts → Reading
counted_by o a p n q =
    if n == 8 then Frame (transfer_by o p n q) (frame_by a q.behind) else IncompleteByte (transfer_by o p n q) (glitch_by q.behind)

abbrev reading_by : Opening → Option ℕ → ℕ → Parts → Reading
reading_by o a p q = counted_by o a p (length q.levels) q

reading-same : (o : Opening) (l : ClockPhase) (ss : List ClockPhase) → AreNext false ss
    → (let b : Bits = bits_from 8 l ss in
    reading o l.first.time b ≡ reading_by o (acknowledged_behind 16 (l ∷ ss)) l.first.time (parts b))
reading-same o l ss k = by (length b.bits == 8) refl ∙ ap (λ n. counted_by o a l.first.time n (parts b)) (sym (length-map b.bits level_of))
  where
    b : Bits
    b = bits_from 8 l ss

    a : Option ℕ
    a = acknowledged_behind 16 (l ∷ ss)

    t : Transfer
    t = transfer o l.first.time b.bits b.last.first.time

    theirs : Bool → Reading
    theirs v = if v then Frame t (frame_end (acknowledgement (turns_of b.last)) b.behind) else IncompleteByte t (glitch_end b.behind)

    ours : Bool → Reading
    ours v = if v then Frame t (frame_by a (map outline b.behind)) else IncompleteByte t (glitch_by (map outline b.behind))

    by : (v : Bool) → (length b.bits == 8) ≡ v → theirs (length b.bits == 8) ≡ ours (length b.bits == 8)
    by true q =
        ap theirs q
        ∙ (ap (λ u. Frame t (frame_end u b.behind)) (whole-last 8 l ss (eqb-true (length b.bits) 8 q))
        ∙ (ap (Frame t) (frame-same a b.behind) ∙ sym (ap ours q)))
    by false q = ap theirs q ∙ (ap (IncompleteByte t) (glitch-same b.behind (bits-behind 8 l ss k)) ∙ sym (ap ours q))

abbrev number_by : List Bool → ℕ
number_by [] = 0
number_by (l ∷ ls) = suc (suc (number_by ls))

number-same : (bs : List Bit) → number_of bs ≡ number_by (map level_of bs)
number-same [] = refl
number-same (b ∷ bs) = ap (λ n. suc (suc n)) (number-same bs)

-- what an outline begins
abbrev called_by : List Outline → Bool
called_by [] = false
called_by (o ∷ os) = o.attention

called-same : (ss : List ClockPhase) → is_called ss ≡ called_by (map outline ss)
called-same [] = refl
called-same (s ∷ ss) = refl

abbrev told_by : Bool → Opening → Option ℕ → ℕ → Parts → Option (Reading × ℕ)
told_by c o a t q = if c then None else Some (reading_by o a t q, number_by q.levels)

abbrev begins_by : Option (Opening × Option ℕ) → List Outline → Option (Reading × ℕ)
begins_by e [] = None
begins_by None (l ∷ os) = None
begins_by (Some o) (l ∷ os) = told_by (l.attention || called_by os) o.0 o.1 l.time (parts_from 8 l.time os)

begun-same : (o : Opening) (l : ClockPhase) (ss : List ClockPhase) → AreNext false ss
    → begun_by (Some o) l ss ≡ begins_by (with_acknowledgement (Some o) (l ∷ ss)) (map outline (l ∷ ss))
begun-same o l ss k =
    let b : Bits = bits_from 8 l ss in
    let a : Option ℕ = acknowledged_behind 16 (l ∷ ss) in
    let made : Bool → Reading → ℕ → Option (Reading × ℕ) = λ c r n. if c then None else Some (r, n) in
    let c : Bool = l.attention || is_called ss in
    ap (λ r. made c r (number_of b.bits)) (reading-same o l ss k)
    ∙ (ap (made c (reading_by o a l.first.time (parts b))) (number-same b.bits)
    ∙ (ap (told_by c o a l.first.time) (parts-same 8 l ss k)
    ∙ ap (λ v. told_by (l.attention || v) o a l.first.time (parts_from 8 l.first.time (map outline ss))) (called-same ss)))

-- a call begins nothing
begun-called : (o : Opening) (l : ClockPhase) (ss : List ClockPhase) → l.attention ≡ true
    → begun_by (Some o) l ss ≡ begins_by (with_acknowledgement (Some o) (l ∷ ss)) (map outline (l ∷ ss))
begun-called o l ss h =
    let b : Bits = bits_from 8 l ss in
    let some : Option (Reading × ℕ) = Some (reading o l.first.time b, number_of b.bits) in
    let a : Option ℕ = acknowledged_behind 16 (l ∷ ss) in
    ap (λ c. if c || is_called ss then None else some) h
    ∙ sym (ap (λ c. told_by (c || called_by (map outline ss)) o a l.first.time (parts_from 8 l.first.time (map outline ss))) h)

begins-same : (s : ClockPhase) (ss : List ClockPhase) → AreNext s.first.levels.clock ss
    → begins s ss ≡ begins_by (with_acknowledgement (opening_of s) ss) (map outline ss)
begins-same s [] k = refl
begins-same s (l ∷ ss) k = by (opening_of s) refl
  where
    theirs : Option Opening → Option (Reading × ℕ)
    theirs v = begun_by v l ss

    ours : Option Opening → Option (Reading × ℕ)
    ours v = begins_by (with_acknowledgement v (l ∷ ss)) (map outline (l ∷ ss))

    attention : (o : Opening) → opening_of s ≡ Some o → (v : Bool) → l.attention ≡ v → theirs (Some o) ≡ ours (Some o)
    attention o q true h = begun-called o l ss h
    attention o q false h =
        let pulled : l.first.levels.clock ≡ false = k.0 h ∙ ap not (opening-released s o q) in
        begun-same o l ss (subst (λ x. AreNext x ss) pulled k.1)

    by : (v : Option Opening) → opening_of s ≡ v → theirs (opening_of s) ≡ ours (opening_of s)
    by None q = ap theirs q ∙ sym (ap ours q)
    by (Some o) q = ap theirs q ∙ (attention o q l.attention refl ∙ sym (ap ours q))

-- what outlines and openings say
abbrev readings_by : ℕ → List Outline → List (Option (Opening × Option ℕ)) → List Reading
readings_by n [] es = []
readings_by (suc n) (o ∷ os) es = readings_by n os es
readings_by zero (o ∷ os) [] = []
readings_by zero (o ∷ os) (e ∷ es) = said (begins_by e os) (λ n. readings_by n os es)

readings-same : (n : ℕ) (c : Bool) (ss : List ClockPhase) → AreNext c ss → readings n ss ≡ readings_by n (map outline ss) (openings n ss)
readings-same zero c [] k = refl
readings-same (suc n) c [] k = refl
readings-same (suc n) c (s ∷ ss) k = readings-same n s.first.levels.clock ss k.1
readings-same zero c (s ∷ ss) k =
    by (begins s ss) (λ n. readings-same n s.first.levels.clock ss k.1)
    ∙ ap (λ v. said v (λ n. readings_by n (map outline ss) (openings (taken_by (begins s ss)) ss))) (begins-same s ss k.1)
  where
    by : (v : Option (Reading × ℕ)) → ((n : ℕ) → readings n ss ≡ readings_by n (map outline ss) (openings n ss))
        → said v (λ n. readings n ss) ≡ said v (λ n. readings_by n (map outline ss) (openings (taken_by v) ss))
    by None k = k 0
    by (Some r) k = ap (λ l. r.0 ∷ l) (k r.1)

pub outlines-decide : OutlinesDecide
outlines-decide a b h k =
    let x = all-next a in
    let y = all-next b in
    readings-same 0 x.0 (stretches a) x.1
    ∙ (ap (λ os. readings_by 0 os (openings 0 (stretches a))) h
    ∙ (ap (readings_by 0 (map outline (stretches b))) k ∙ sym (readings-same 0 y.0 (stretches b) y.1)))
