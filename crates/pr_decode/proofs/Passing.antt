-- Edges that settle nothing, and the whole bits of a byte among them.
use Rattle.std.proofs.Common.{◌≡◌, ℕ, ◌+◌, ◌<◌, ◌==◌, nat_lt, Bool, true, false, not, ◌&&◌, List, [], ◌∷◌, ◌++◌, length, take, get_or, Option, Some, None, if◌then◌else◌, refl, sym, ap, ◌∙◌, append_assoc, append-nil, arith, subst}
use Rattle.std.proofs.lemmas.Bool.{ne_eqb}
use Rattle.std.proofs.lemmas.Grind.{common_steps}
use Rattle.std.proofs.lemmas.List.{take_more}
use Rattle.pr_wire.specs.declared.Edge.{Edge}
use Rattle.pr_decode.specs.declared.decoder.Decoder.{Decoder}
use Rattle.pr_decode.specs.declared.reading.Reading.{Reading}
use Rattle.pr_decode.specs.declared.reading.Transfer.{Transfer}
use Rattle.pr_decode.specs.declared.clock_phase.ClockPhase.{ClockPhase}
use Rattle.pr_decode.specs.ClockPhases.{calls}
use Rattle.pr_decode.specs.Readings.{is_late}
use Rattle.pr_decode.specs.Steps.{after, began, ended_by, is_bit, kept_of, sends, stretch_after, with_bit}
use Rattle.pr_decode.specs.Taking.{AreInOrder, HasReadings, Passes, last_time, time_behind}
use Rattle.pr_decode.proofs.Taken.{more-taken}

-- edges in order after others
in-order : (last : Option ℕ) (es fs : List Edge) → AreInOrder last es → AreInOrder (time_behind last es) fs → AreInOrder last (es ++ fs)
in-order last [] fs h k = k
in-order last (e ∷ es) fs (l, h) k = (l, in-order (Some e.time) es fs h k)

behind-both : (last : Option ℕ) (es fs : List Edge) → time_behind last (es ++ fs) ≡ time_behind (time_behind last es) fs
behind-both last [] fs = refl
behind-both last (e ∷ es) fs = behind-both (Some e.time) es fs

-- no edge, and edges after others
pub passes-none : (d : Decoder) → Passes [] d d
passes-none d = record {
  read = λ before given h. let P : List Edge → Type 0 = λ l. HasReadings l given d in subst P (sym (append-nil before)) h;
  order = tt;
  last = refl;
}

pub passes-both : (es fs : List Edge) (old mid new : Decoder) → Passes es old mid → Passes fs mid new → Passes (es ++ fs) old new
passes-both es fs old mid new h k =
    let Q : Option ℕ → Type 0 = λ t. AreInOrder t fs in
    record {
      read = λ before given r.
          let P : List Edge → Type 0 = λ l. HasReadings l given new in
          subst P (append_assoc before es fs) (k.read (before ++ es) given (h.read before given r));
      order = in-order (last_time old) es fs h.order (subst Q h.last k.order);
      last = k.last ∙ (ap (λ t. time_behind t fs) h.last ∙ sym (behind-both (last_time old) es fs));
    }

-- one edge
not-before : (m n : ℕ) → nat_lt m n ≡ false → m < n → ⊥
not-before m n h k = grind (arith, common_steps, h, k)

one-passes : (s r : ClockPhase) (t u : Transfer) (e : Edge) → nat_lt e.time s.last.time ≡ false → ended_by (Some t) s e ≡ None
    → after (Some t) s e ≡ sends r u → r.last.time ≡ e.time → Passes (e ∷ []) (sends s t) (sends r u)
one-passes s r t u e l n a m =
    let none : Option Reading = None in
    record {
      read = λ before given h.
          let P : List Reading → Type 0 = λ g. HasReadings (before ++ e ∷ []) g (sends r u) in
          subst P (append-nil given)
          (more-taken before given (sends s t) (sends r u) e s none refl (sym n)
          (sym a ∙ ap (λ x. after (kept_of x (Some t)) s e) (sym n)) h);
      order = (not-before e.time s.last.time l, tt);
      last = ap (λ (x : ℕ). Some x) m;
    }

-- the edge that releases CLOCK in a byte that lacks bits
up-passes : (s : ClockPhase) (t : Transfer) (up : Edge) → s.first.levels.clock ≡ false → (t.bits == 8) ≡ false → up.levels.clock ≡ true
    → calls s.last up ≡ false → nat_lt up.time s.last.time ≡ false → Passes (up ∷ []) (sends s t) (sends (began false up) t)
up-passes s t up low few high on later =
    one-passes s (began false up) t t up later (ends (t.bits == 0) refl) (rw (low, high, on) refl) refl
  where
    ends : (z : Bool) → t.bits == 0 ≡ z → ended_by (Some t) s up ≡ None
    ends true k = rw (low, few, k) refl
    ends false k = rw (low, few, k, on) refl

-- the edge that pulls it again
down-passes : (t : Transfer) (up down : Edge) → up.levels.clock ≡ true → down.levels.clock ≡ false → calls up down ≡ false
    → nat_lt down.time up.time ≡ false → is_late up.time down ≡ false
    → Passes (down ∷ []) (sends (began false up) t) (sends (began false down) (with_bit t up down))
down-passes t up down high low on later soon =
    one-passes (began false up) (began false down) t (with_bit t up down) down later (rw (high, soon, on) refl) (rw (high, low, on) refl) refl

-- a whole bit
record IsWhole (last up down : Edge) : Type 0 where
  high : up.levels.clock ≡ true
  low : down.levels.clock ≡ false
  on : calls last up ≡ false
  still : calls up down ≡ false
  later : nat_lt up.time last.time ≡ false
  after : nat_lt down.time up.time ≡ false
  soon : is_late up.time down ≡ false

bit-parts : (last up down : Edge) → is_bit last up down ≡ true → IsWhole last up down
bit-parts last up down h =
    by up.levels.clock refl down.levels.clock refl (calls last up) refl (calls up down) refl
    (nat_lt up.time last.time) refl (nat_lt down.time up.time) refl (is_late up.time down) refl h
  where
    by : (a : Bool) → up.levels.clock ≡ a → (b : Bool) → down.levels.clock ≡ b → (c : Bool) → calls last up ≡ c → (d : Bool) → calls up down ≡ d
        → (x : Bool) → nat_lt up.time last.time ≡ x → (y : Bool) → nat_lt down.time up.time ≡ y → (z : Bool) → is_late up.time down ≡ z
        → (a && not b && not c && not d && not x && not y && not z) ≡ true → IsWhole last up down
    by true i false j false k false l false m false n false o q =
        record { high = i; low = j; on = k; still = l; later = m; after = n; soon = o }
    by true i false j false k false l false m false n true o q = absurd (cc)
    by true i false j false k false l false m true n z o q = absurd (cc)
    by true i false j false k false l true m y n z o q = absurd (cc)
    by true i false j false k true l x m y n z o q = absurd (cc)
    by true i false j true k d l x m y n z o q = absurd (cc)
    by true i true j c k d l x m y n z o q = absurd (cc)
    by false i b j c k d l x m y n z o q = absurd (cc)

pub bit-passes : (s : ClockPhase) (t : Transfer) (last up down : Edge) → s.first.levels.clock ≡ false → s.last ≡ last → t.bits < 8
    → is_bit last up down ≡ true → Passes (up ∷ down ∷ []) (sends s t) (sends (began false down) (with_bit t up down))
bit-passes s t last up down pulled is few h =
    let b = bit-parts last up down h in
    let not_eight : (t.bits == 8) ≡ false = ne_eqb t.bits 8 (λ e. absurd (omega (arith, few, e))) in
    passes-both (up ∷ []) (down ∷ []) (sends s t) (sends (began false up) t) (sends (began false down) (with_bit t up down))
    (up-passes s t up pulled not_eight b.high (ap (λ l. calls l up) is ∙ b.on) (ap (λ (l : Edge). nat_lt up.time l.time) is ∙ b.later))
    (down-passes t up down b.high b.low b.still b.after b.soon)

-- two edges more of a list
two-more : (es : List Edge) (n : ℕ) (d : Edge) → n + 1 < length es → take (n + 2) es ≡ take n es ++ get_or es n d ∷ get_or es (n + 1) d ∷ []
two-more es n d h =
    let one : take (n + 1) es ≡ take n es ++ get_or es n d ∷ [] = take_more es n d (omega (arith, h)) in
    let same : n + 2 ≡ n + 1 + 1 = omega arith in
    ap (λ m. take m es) same
    ∙ (take_more es (n + 1) d h
    ∙ (ap (λ l. l ++ get_or es (n + 1) d ∷ []) one ∙ append_assoc (take n es) (get_or es n d ∷ []) (get_or es (n + 1) d ∷ [])))

-- bits were taken, since an edge with CLOCK pulled, whatever the stretch that it is in
pub record HasBits (edges : List Edge) (n : ℕ) (first end : Edge) (t u : Transfer) : Type 0 where
  pub passes : (s : ClockPhase) → s.first.levels.clock ≡ false → s.last ≡ first → Passes (take n edges) (sends s t) (sends (stretch_after n s end) u)
  pub pulled : (s : ClockPhase) → s.first.levels.clock ≡ false → s.last ≡ first → (stretch_after n s end).first.levels.clock ≡ false
  pub ends : (s : ClockPhase) → s.first.levels.clock ≡ false → s.last ≡ first → (stretch_after n s end).last ≡ end

pub no-bits : (edges : List Edge) (last : Edge) (t : Transfer) → HasBits edges 0 last last t t
no-bits edges last t = record {
  passes = λ s pulled is. passes-none (sends s t);
  pulled = λ s pulled is. pulled;
  ends = λ s pulled is. is;
}

begun-after : (n : ℕ) (s : ClockPhase) (last : Edge) → stretch_after (n + 2) s last ≡ began false last
begun-after n s last = ap (λ v. if v then s else began false last) (ne_eqb (n + 2) 0 (λ e. absurd (omega (arith, e))))

pub more-bits : (edges : List Edge) (n : ℕ) (first last d : Edge) (t u v : Transfer) → n + 1 < length edges → u.bits < 8
    → is_bit last (get_or edges n d) (get_or edges (n + 1) d) ≡ true → v ≡ with_bit u (get_or edges n d) (get_or edges (n + 1) d)
    → HasBits edges n first last t u → HasBits edges (n + 2) first (get_or edges (n + 1) d) t v
more-bits edges n first last d t u v within few is new h =
    let up = get_or edges n d in
    let down = get_or edges (n + 1) d in
    let w = with_bit u up down in
    let b = bit-parts last up down is in
    let H : Transfer → Type 0 = λ x. HasBits edges (n + 2) first down t x in
    subst H (sym new) (record {
      passes = λ s pulled same.
          let both : Passes (take n edges ++ up ∷ down ∷ []) (sends s t) (sends (began false down) w) =
          passes-both (take n edges) (up ∷ down ∷ []) (sends s t) (sends (stretch_after n s last) u) (sends (began false down) w) (h.passes s pulled same)
          (bit-passes (stretch_after n s last) u last up down (h.pulled s pulled same) (h.ends s pulled same) few is)
          in
          let P : List Edge → Type 0 = λ l. Passes l (sends s t) (sends (began false down) w) in
          let Q : ClockPhase → Type 0 = λ r. Passes (take (n + 2) edges) (sends s t) (sends r w) in
          subst Q (sym (begun-after n s down)) (subst P (sym (two-more edges n d within)) both);
      pulled = λ s pulled same. ap (λ (r : ClockPhase). r.first.levels.clock) (begun-after n s down) ∙ b.low;
      ends = λ s pulled same. ap (λ (r : ClockPhase). r.last) (begun-after n s down);
    })

-- what a decoder in a byte comes to by whole bits, and by none
decoder-is : (x y : Option ClockPhase) (v w : Option Transfer) → x ≡ y → v ≡ w
    → (let a : Decoder = record { stretch = x; transfer = v } in a) ≡ (let b : Decoder = record { stretch = y; transfer = w } in b)
decoder-is x y v w h k = cc

pub some-pass : (d : Decoder) (s r : ClockPhase) (t u : Transfer) (n : ℕ) (last : Edge) (edges : List Edge) → d.stretch ≡ Some s → d.transfer ≡ Some t
    → s.first.levels.clock ≡ false → r ≡ began false last → 0 < n
    → ((p : ClockPhase) → p.first.levels.clock ≡ false → p.last ≡ s.last → Passes (take n edges) (sends p t) (sends (stretch_after n p last) u))
    → Passes (take n edges) d (sends r u)
some-pass d s r t u n last edges h k low is some passes =
    let P : Decoder → Type 0 = λ x. Passes (take n edges) x (sends r u) in
    let Q : ClockPhase → Type 0 = λ x. Passes (take n edges) (sends s t) (sends x u) in
    let now : stretch_after n s last ≡ r = ap (λ v. if v then s else began false last) (ne_eqb n 0 (λ e. absurd (omega (arith, some, e)))) ∙ sym is in
    subst P (sym (decoder-is d.stretch (Some s) d.transfer (Some t) h k)) (subst Q now (passes s low refl))

pub stays-same : (d : Decoder) (s : ClockPhase) (t u : Transfer) → d.stretch ≡ Some s → d.transfer ≡ Some t → u ≡ t → sends s u ≡ d
stays-same d s t u h k same = ap (λ x. sends s x) same ∙ sym (decoder-is d.stretch (Some s) d.transfer (Some t) h k)

pub none-pass : (d new : Decoder) (n : ℕ) (edges : List Edge) → n ≡ 0 → new ≡ d → Passes (take n edges) d new
none-pass d new n edges is same =
    let P : Decoder → Type 0 = λ x. Passes (take n edges) d x in
    let Q : ℕ → Type 0 = λ m. Passes (take m edges) d d in
    subst P (sym same) (subst Q (sym is) (passes-none d))
