-- The bits of a byte that has begun, among the stretches.
use Rattle.std.proofs.Common.{◌≡◌, ℕ, suc, Bool, true, false, not, ◌&&◌, ◌||◌, List, [], ◌∷◌, ◌++◌, Option, Some, None, if◌then◌else◌, refl, sym, ap, ◌∙◌}
use Rattle.pr_wire.specs.declared.Edge.{Edge}
use Rattle.pr_decode.specs.declared.reading.Opening.{Opening}
use Rattle.pr_decode.specs.declared.reading.Reading.{Reading}
use Rattle.pr_decode.specs.Readings.{Bit, Bits, begins, begun_by, bits_from, ends_bit, first_late, is_called, is_none, number_of, opening, opening_of, put_bit, reading, readings, said, turns_of}
use Rattle.pr_decode.specs.ClockPhases.{ClockPhase}
use Rattle.pr_decode.specs.Taking.{AreBits, HasBegun, first_low, stretched, with_more}

-- what follows the first stretch of bits
abbrev pub tail_of : List Bit → ClockPhase → List ClockPhase → List ClockPhase
tail_of [] l ss = ss
tail_of (b ∷ bs) l ss = b.high ∷ (stretched bs ++ l ∷ ss)

stretched-first : (bs : List Bit) (l : ClockPhase) (ss : List ClockPhase) → stretched bs ++ l ∷ ss ≡ first_low bs l ∷ tail_of bs l ss
stretched-first [] l ss = refl
stretched-first (b ∷ bs) l ss = refl

-- bits in front of others
abbrev pub onto : List Bit → Bits → Bits
onto [] more = more
onto (b ∷ bs) more = put_bit b (onto bs more)

bits-come : (bs : List Bit) (l : ClockPhase) (ss : List ClockPhase) (n : ℕ) → AreBits bs l
    → bits_from (with_more bs n) (first_low bs l) (tail_of bs l ss) ≡ onto bs (bits_from n l ss)
bits-come [] l ss n h = refl
bits-come (b ∷ bs) l ss n (e, d, h) =
    ap (bits_from (suc (with_more bs n)) b.low) (ap (λ x. b.high ∷ x) (stretched-first bs l ss))
    ∙ (ap (λ v. if v
    then put_bit (record { low = b.low; high = b.high; down = (first_low bs l).first }) (bits_from (with_more bs n) (first_low bs l) (tail_of bs l ss))
    else record { bits = []; last = b.low; behind = b.high ∷ first_low bs l ∷ tail_of bs l ss }) e
    ∙ (ap (λ x. put_bit (record { low = b.low; high = b.high; down = x }) (bits_from (with_more bs n) (first_low bs l) (tail_of bs l ss))) (sym d)
    ∙ ap (put_bit b) (bits-come bs l ss n h)))

-- no bit comes after them
abbrev pub none_come : ClockPhase → List ClockPhase → Bits
none_come l ss = record { bits = []; last = l; behind = ss }

onto-none : (bs : List Bit) (l : ClockPhase) (ss : List ClockPhase) → onto bs (none_come l ss) ≡ record { bits = bs; last = l; behind = ss }
onto-none [] l ss = refl
onto-none (b ∷ bs) l ss = ap (put_bit b) (onto-none bs l ss)

-- what is said after the stretches of bits
behind-bits : (bs : List Bit) (ss : List ClockPhase) → readings (number_of bs) (stretched bs ++ ss) ≡ readings 0 ss
behind-bits [] ss = refl
behind-bits (b ∷ bs) ss = behind-bits bs ss

-- after the first pull of CLOCK comes no call, where bits have come, or where none comes after them
abbrev pub goes_uncalled : List Bit → List ClockPhase → Bool
goes_uncalled [] ss = is_called ss
goes_uncalled (b ∷ bs) ss = false

pub uncalled-behind : (bs : List Bit) (ss : List ClockPhase) → is_called ss ≡ false → goes_uncalled bs ss ≡ false
uncalled-behind [] ss h = h
uncalled-behind (b ∷ bs) ss h = refl

bit-uncalled : (h x : ClockPhase) → ends_bit h x ≡ true → h.attention ≡ false
bit-uncalled h x e = by h.attention e
  where
    by : (v : Bool) → (not v && not x.attention && is_none (first_late h.first.time (h.rest ++ x.first ∷ []))) ≡ true → v ≡ false
    by false k = refl
    by true k = absurd (cc)

tail-uncalled : (bs : List Bit) (l : ClockPhase) (ss : List ClockPhase) → AreBits bs l → goes_uncalled bs ss ≡ false → is_called (tail_of bs l ss) ≡ false
tail-uncalled [] l ss h k = k
tail-uncalled (b ∷ bs) l ss (e, d, h) k = bit-uncalled b.high (first_low bs l) e

-- a byte that has begun is read with its bits, where no more come
pub byte-read : (s : ClockPhase) (o : Opening) (bs : List Bit) (n : ℕ) (l : ClockPhase) (ss : List ClockPhase) → HasBegun s o bs n l
    → goes_uncalled bs ss ≡ false → bits_from n l ss ≡ none_come l ss
    → readings 0 (s ∷ (stretched bs ++ l ∷ ss))
    ≡ reading o (first_low bs l).first.time (record { bits = bs; last = l; behind = ss }) ∷ readings 0 (l ∷ ss)
byte-read s o bs n l ss h u k =
    let all : Bits = record { bits = bs; last = l; behind = ss } in
    let first : ClockPhase = first_low bs l in
    let tail : List ClockPhase = tail_of bs l ss in
    let some : Option (Reading × ℕ) = Some (reading o first.first.time (bits_from 8 first tail), number_of (bits_from 8 first tail).bits) in
    let read : bits_from 8 first tail ≡ all =
    ap (λ m. bits_from m first tail) (sym h.eight) ∙ (bits-come bs l ss n h.bits ∙ (ap (onto bs) k ∙ onto-none bs l ss))
    in
    let starts : begins s (first ∷ tail) ≡ Some (reading o first.first.time all, number_of bs) =
    ap (λ v. begun_by v first tail) h.opens
    ∙ (ap (λ v. if v || is_called tail then None else some) h.uncalled
    ∙ (ap (λ v. if v then None else some) (tail-uncalled bs l ss h.bits u)
    ∙ ap (λ y. Some (reading o first.first.time y, number_of y.bits)) read))
    in
    ap (λ x. readings 0 (s ∷ x)) (stretched-first bs l ss)
    ∙ (ap (λ v. said v (λ m. readings m (first ∷ tail))) starts
    ∙ ap (λ x. reading o first.first.time all ∷ x) (ap (readings (number_of bs)) (sym (stretched-first bs l ss)) ∙ behind-bits bs (l ∷ ss)))

-- a stretch that is no opening begins nothing
pub nothing-begins : (s : ClockPhase) (ss : List ClockPhase) → opening_of s ≡ None → readings 0 (s ∷ ss) ≡ readings 0 ss
nothing-begins s [] h = refl
nothing-begins s (l ∷ ss) h = ap (λ v. said (begun_by v l ss) (λ m. readings m (l ∷ ss))) h

-- nor does one with CLOCK pulled
pub low-opens-nothing : (s : ClockPhase) → s.first.levels.clock ≡ false → opening_of s ≡ None
low-opens-nothing s h = by s.attention s.first.levels.clock h
  where
    by : (c k : Bool) → k ≡ false → (if c then None else (if k then opening (turns_of s) else None)) ≡ None
    by true k m = refl
    by false false m = refl
    by false true m = absurd (cc)

-- or one in front of a call
pub call-begins : (s l : ClockPhase) (ss : List ClockPhase) → l.attention ≡ true → readings 0 (s ∷ l ∷ ss) ≡ readings 0 (l ∷ ss)
call-begins s l ss h = by (opening_of s)
  where
    by : (v : Option Opening) → said (begun_by v l ss) (λ m. readings m (l ∷ ss)) ≡ readings 0 (l ∷ ss)
    by None = refl
    by (Some o) =
        let y : Bits = bits_from 8 l ss in
        ap (λ v. said (if v || is_called ss then None else Some (reading o l.first.time y, number_of y.bits)) (λ m. readings m (l ∷ ss))) h

-- or one in front of CLOCK's first pull and a call
pub called-off : (s l x : ClockPhase) (ss : List ClockPhase) → x.attention ≡ true → readings 0 (s ∷ l ∷ x ∷ ss) ≡ readings 0 (l ∷ x ∷ ss)
called-off s l x ss h = by (opening_of s)
  where
    or-true : (a : Bool) → (a || true) ≡ true
    or-true true = refl
    or-true false = refl

    by : (v : Option Opening) → said (begun_by v l (x ∷ ss)) (λ m. readings m (l ∷ x ∷ ss)) ≡ readings 0 (l ∷ x ∷ ss)
    by None = refl
    by (Some o) =
        let y : Bits = bits_from 8 l (x ∷ ss) in
        ap (λ v. said (if v then None else Some (reading o l.first.time y, number_of y.bits)) (λ m. readings m (l ∷ x ∷ ss)))
        (ap (λ v. l.attention || v) h ∙ or-true l.attention)

-- an opening has CLOCK released
pub opening-released : (s : ClockPhase) (o : Opening) → opening_of s ≡ Some o → s.first.levels.clock ≡ true
opening-released s o h = by s.attention s.first.levels.clock h
  where
    by : (c k : Bool) → (if c then None else (if k then opening (turns_of s) else None)) ≡ Some o → k ≡ true
    by true k m = absurd (cc)
    by false true m = refl
    by false false m = absurd (cc)

-- further edges of the last stretch change nothing of what has begun
pub first-further : (bs : List Bit) (s : ClockPhase) (r : List Edge) → (first_low bs (record s { rest = s.rest ++ r })).first ≡ (first_low bs s).first
first-further [] s r = refl
first-further (b ∷ bs) s r = refl

called-further : (bs : List Bit) (s : ClockPhase) (r : List Edge) → (first_low bs (record s { rest = s.rest ++ r })).attention ≡ (first_low bs s).attention
called-further [] s r = refl
called-further (b ∷ bs) s r = refl

bits-further : (bs : List Bit) (s : ClockPhase) (r : List Edge) → AreBits bs s → AreBits bs (record s { rest = s.rest ++ r })
bits-further [] s r h = tt
bits-further (b ∷ []) s r h = h
bits-further (b ∷ c ∷ bs) s r (e, d, h) = (e, d, bits-further (c ∷ bs) s r h)

pub begun-further : (p : ClockPhase) (o : Opening) (bs : List Bit) (n : ℕ) (s : ClockPhase) (r : List Edge) → HasBegun p o bs n s
    → HasBegun p o bs n (record s { rest = s.rest ++ r })
begun-further p o bs n s r h = record {
  opens = h.opens;
  uncalled = called-further bs s r ∙ h.uncalled;
  bits = bits-further bs s r h.bits;
  eight = h.eight;
  pulled = h.pulled;
}

-- one bit more
pub more-stretched : (bs : List Bit) (b : Bit) (ss : List ClockPhase) → stretched (bs ++ b ∷ []) ++ ss ≡ stretched bs ++ b.low ∷ b.high ∷ ss
more-stretched [] b ss = refl
more-stretched (c ∷ bs) b ss = ap (λ x. c.low ∷ c.high ∷ x) (more-stretched bs b ss)

pub more-first : (bs : List Bit) (b : Bit) (s : ClockPhase) → first_low (bs ++ b ∷ []) s ≡ first_low bs b.low
more-first [] b s = refl
more-first (c ∷ bs) b s = refl

more-counted : (bs : List Bit) (b : Bit) (n : ℕ) → with_more (bs ++ b ∷ []) n ≡ with_more bs (suc n)
more-counted [] b n = refl
more-counted (c ∷ bs) b n = ap suc (more-counted bs b n)

more-bits : (bs : List Bit) (b : Bit) (s : ClockPhase) → AreBits bs b.low → ends_bit b.high s ≡ true → b.down ≡ s.first → AreBits (bs ++ b ∷ []) s
more-bits [] b s h e d = (e, d, tt)
more-bits (c ∷ []) b s (f, g, h) e d = (f, g, (e, d, tt))
more-bits (c ∷ a ∷ bs) b s (f, g, h) e d = (f, g, more-bits (a ∷ bs) b s h e d)

pub begun-more : (p : ClockPhase) (o : Opening) (bs : List Bit) (n : ℕ) (b : Bit) (s : ClockPhase) → HasBegun p o bs (suc n) b.low
    → ends_bit b.high s ≡ true → b.down ≡ s.first → s.first.levels.clock ≡ false → HasBegun p o (bs ++ b ∷ []) n s
begun-more p o bs n b s h e d k = record {
  opens = h.opens;
  uncalled = ap (λ (x : ClockPhase). x.attention) (more-first bs b s) ∙ h.uncalled;
  bits = more-bits bs b s h.bits e d;
  eight = more-counted bs b n ∙ h.eight;
  pulled = k;
}

-- a stretch ends a bit, or does not
pub ends-bit : (h l : ClockPhase) → h.attention ≡ false → l.attention ≡ false → first_late h.first.time (h.rest ++ l.first ∷ []) ≡ None → ends_bit h l ≡ true
ends-bit h l a b c = rw (a, b, c) refl

pub late-ends-none : (h l : ClockPhase) (t : ℕ) → first_late h.first.time (h.rest ++ l.first ∷ []) ≡ Some t → ends_bit h l ≡ false
late-ends-none h l t e = by h.attention l.attention (first_late h.first.time (h.rest ++ l.first ∷ [])) e
  where
    by : (x y : Bool) (v : Option ℕ) → v ≡ Some t → (not x && not y && is_none v) ≡ false
    by true y v k = refl
    by false true v k = refl
    by false false (Some u) k = refl
    by false false None k = absurd (cc)

pub called-ends-none : (h l : ClockPhase) → h.attention ≡ true → ends_bit h l ≡ false
called-ends-none h l e = by h.attention e
  where
    by : (x : Bool) → x ≡ true → (not x && not l.attention && is_none (first_late h.first.time (h.rest ++ l.first ∷ []))) ≡ false
    by true k = refl
    by false k = absurd (cc)

pub call-ends-none : (h l : ClockPhase) → l.attention ≡ true → ends_bit h l ≡ false
call-ends-none h l e = by h.attention l.attention e
  where
    by : (x y : Bool) → y ≡ true → (not x && not y && is_none (first_late h.first.time (h.rest ++ l.first ∷ []))) ≡ false
    by true y k = refl
    by false true k = refl
    by false false k = absurd (cc)

-- no bit comes where none ends
pub none-comes : (n : ℕ) (l h x : ClockPhase) (ss : List ClockPhase) → ends_bit h x ≡ false → bits_from (suc n) l (h ∷ x ∷ ss) ≡ none_come l (h ∷ x ∷ ss)
none-comes n l h x ss e =
    ap (λ v. if v
    then put_bit (record { low = l; high = h; down = x.first }) (bits_from n x ss)
    else none_come l (h ∷ x ∷ ss)) e
