-- What one edge more changes where a byte has begun: it goes on, or it is given.
use Rattle.std.proofs.Common.{◌≡◌, ℕ, suc, zero, ◌==◌, Bool, true, false, not, List, [], ◌∷◌, ◌++◌, length, Option, Some, None, if◌then◌else◌, refl, sym, ap, ◌∙◌}
use Rattle.std.proofs.Math.Dec.{eqb-suc-zero}
use Rattle.pr_wire.specs.declared.Edge.{Edge}
use Rattle.pr_decode.specs.declared.reading.FrameEnd.TheVariants as frame
use Rattle.pr_decode.specs.declared.reading.IncompleteEnd.{IncompleteEnd}
use Rattle.pr_decode.specs.declared.reading.IncompleteEnd.TheVariants as glitch
use Rattle.pr_decode.specs.declared.reading.Opening.{Opening}
use Rattle.pr_decode.specs.declared.reading.Reading.{Reading}
use Rattle.pr_decode.specs.declared.reading.Reading.TheVariants.{Frame, IncompleteByte}
use Rattle.pr_decode.specs.declared.reading.Transfer.{Transfer}
use Rattle.pr_decode.specs.Readings.{Bit, acknowledgement, bits_from, ends_bit, first_late, frame_end, glitch_end, high_end, is_called, is_late, readings, silence_or, transfer, turns_of, waiting_end}
use Rattle.pr_decode.specs.Steps.{acknowledged_at, acknowledged_in, advanced, bits_ended, called_at, ended_by, frame_ended, high_ended, low_ended, turned, with_bit}
use Rattle.pr_decode.specs.ClockPhases.{ClockPhase, begun, calls, goes_on, longer, stretches_from}
use Rattle.pr_decode.specs.Taking.{HasBegun, IsRight, Past, first_low, noted, stretch_in, stretched, to_come}
use Rattle.pr_decode.specs.Taking.Past.{High, Low, Waiting}
use Rattle.pr_decode.proofs.Adding.{begun-further, begun-more, call-ends-none, called-ends-none, called-off, ends-bit, first-further, late-ends-none, low-opens-nothing, more-first, more-stretched, none-comes, none_come, nothing-begins, uncalled-behind}
use Rattle.pr_decode.proofs.Bytes.{transfer-more}
use Rattle.pr_decode.proofs.Cutting.{calls-off, clock-falls, clock-rises, head-of, late-none, late-one, late-stays, stretches-off, stretches-on}
use Rattle.pr_decode.proofs.DecoderSteps.{Next, few-bits, frame-comes, glitch-comes, keeps-off, keeps-on, off-called, sent}
use Rattle.pr_decode.proofs.Turning.{acknowledged-longer, acknowledged-noted, begun-unacknowledged, turns-longer}

-- what is ended of a byte, by CLOCK's level
ended-low : (t : Transfer) (s : ClockPhase) (last e : Edge) → s.first.levels.clock ≡ false
    → ended_by (Some t) (stretch_in s last) e ≡ low_ended t (stretch_in s last) e
ended-low t s last e h = ap (λ v. if v then high_ended t (stretch_in s last) e else low_ended t (stretch_in s last) e) h

pub ended-high : (t : Transfer) (s : ClockPhase) (last e : Edge) → s.first.levels.clock ≡ true
    → ended_by (Some t) (stretch_in s last) e ≡ high_ended t (stretch_in s last) e
ended-high t s last e h = ap (λ v. if v then high_ended t (stretch_in s last) e else low_ended t (stretch_in s last) e) h

-- of one that has all bits, of one that has fewer, and of one that has some
pub ended-frame : (t : Transfer) (s : ClockPhase) (last e : Edge) → s.first.levels.clock ≡ false → (t.bits == 8) ≡ true
    → ended_by (Some t) (stretch_in s last) e ≡ frame_ended t (stretch_in s last) e
ended-frame t s last e h k =
    ended-low t s last e h ∙ ap (λ v. if v then frame_ended t (stretch_in s last) e else bits_ended t (stretch_in s last) e) k

pub ended-bits : (t : Transfer) (s : ClockPhase) (last e : Edge) → s.first.levels.clock ≡ false → (t.bits == 8) ≡ false
    → ended_by (Some t) (stretch_in s last) e ≡ bits_ended t (stretch_in s last) e
ended-bits t s last e h k =
    ended-low t s last e h ∙ ap (λ v. if v then frame_ended t (stretch_in s last) e else bits_ended t (stretch_in s last) e) k

pub ended-some : (o : Opening) (b : Bit) (bs : List Bit) (s : ClockPhase) (last e : Edge) → s.first.levels.clock ≡ false → (length (b ∷ bs) == 8) ≡ false
    → ended_by (Some (sent o (b ∷ bs) s)) (stretch_in s last) e ≡ called_at (sent o (b ∷ bs) s) (stretch_in s last) e
ended-some o b bs s last e h k =
    let t : Transfer = sent o (b ∷ bs) s in
    ended-bits t s last e h k ∙ ap (λ v. if v then None else called_at t (stretch_in s last) e) (eqb-suc-zero (length bs))

-- the acknowledgement with one edge more
acknowledged-now : (s : ClockPhase) (e : Edge) → acknowledged_in (turned (not s.first.levels.clock) (noted (turns_of s)) e) ≡ acknowledgement (turns_of (longer s e))
acknowledged-now s e = ap acknowledged_in (sym (turns-longer s e)) ∙ acknowledged-noted (turns_of (longer s e))

-- what is sent does not change with the edges of a stretch
sent-further : (o : Opening) (bs : List Bit) (s : ClockPhase) (r : List Edge) → sent o bs (record s { rest = s.rest ++ r }) ≡ sent o bs s
sent-further o bs s r = ap (λ (x : Edge). transfer o x.time bs s.first.time) (first-further bs s r)

-- a byte whose CLOCK is pulled goes on
low-on : (p : ClockPhase) (o : Opening) (bs : List Bit) (n : ℕ) (s : ClockPhase) (last e : Edge) → goes_on s.first last e ≡ true
    → IsRight (Low p o bs n) (longer s e) → Next (Low p o bs n) s last e
low-on p o bs n s last e h k = record {
  past = Low p o bs n;
  current = longer s e;
  keeps = keeps-on (Low p o bs n) (Low p o bs n) s last e h (ap (λ t. Some t) (sent-further o bs s (e ∷ [])));
  right = k;
  comes = λ es. ap (λ x. readings 0 (p ∷ (stretched bs ++ x))) (stretches-on s last e es h);
}

-- one that has all bits, and waits
pub frame-waits : (p : ClockPhase) (o : Opening) (bs : List Bit) (s : ClockPhase) (last e : Edge) → IsRight (Low p o bs 0) s
    → frame_ended (sent o bs s) (stretch_in s last) e ≡ None → Next (Low p o bs 0) s last e
frame-waits p o bs s last e (h, a) m = by (goes_on s.first last e) refl m
  where
    by : (v : Bool) → goes_on s.first last e ≡ v
        → (if v then acknowledged_at (sent o bs s) (acknowledged_in (turned (not s.first.levels.clock) (noted (turns_of s)) e))
        else Some (Frame (sent o bs s) (frame.Unacknowledged e.time))) ≡ None
        → Next (Low p o bs 0) s last e
    by false k q = absurd (cc)
    by true k q =
        low-on p o bs 0 s last e k (
          begun-further p o bs 0 s (e ∷ []) h,
          sym (acknowledged-now s e)
              ∙ none (acknowledged_in (turned (not s.first.levels.clock) (noted (turns_of s)) e)) q,
        )
      where
        none : (u : Option ℕ) → acknowledged_at (sent o bs s) u ≡ None → u ≡ None
        none None r = refl
        none (Some t) r = absurd (cc)

-- one that has fewer
pub low-moves : (p : ClockPhase) (o : Opening) (bs : List Bit) (n : ℕ) (s : ClockPhase) (last e : Edge) → HasBegun p o bs (suc n) s
    → calls last e ≡ false → Next (Low p o bs (suc n)) s last e
low-moves p o bs n s last e h k = by (goes_on s.first last e) refl
  where
    by : (v : Bool) → goes_on s.first last e ≡ v → Next (Low p o bs (suc n)) s last e
    by true m = low-on p o bs (suc n) s last e m (begun-further p o bs (suc n) s (e ∷ []) h)
    by false m = record {
      past = High p o bs n s;
      current = begun false e;
      keeps = keeps-off (Low p o bs (suc n)) (High p o bs n s) s last e false m k
          (sym (ap (λ v. if v then None else advanced (Some (sent o bs s)) (stretch_in s last) e) k
          ∙ ap (λ v. Some (if v then with_bit (sent o bs s) s.first e else sent o bs s)) h.pulled));
      right = (h, record { released = clock-rises s last e m k h.pulled; uncalled = refl; in_time = refl });
      comes = λ es. ap (λ x. readings 0 (p ∷ (stretched bs ++ x))) (off-called s last e es false m k);
    }

-- a byte whose CLOCK is released goes on
pub high-moves : (p : ClockPhase) (o : Opening) (bs : List Bit) (n : ℕ) (l s : ClockPhase) (last e : Edge) → IsRight (High p o bs n l) s
    → is_late s.first.time e ≡ false → calls last e ≡ false → Next (High p o bs n l) s last e
high-moves p o bs n l s last e (h, b) k c = by (goes_on s.first last e) refl
  where
    bit : Bit
    bit = record { low = l; high = s; down = e }

    right-more : (m : ℕ) → HasBegun p o (bs ++ bit ∷ []) m (begun false e) → IsRight (Low p o (bs ++ bit ∷ []) m) (begun false e)
    right-more zero q = (q, begun-unacknowledged false e)
    right-more (suc m) q = q

    by : (v : Bool) → goes_on s.first last e ≡ v → Next (High p o bs n l) s last e
    by true m = record {
      past = High p o bs n l;
      current = longer s e;
      keeps = keeps-on (High p o bs n l) (High p o bs n l) s last e m refl;
      right = (h, record { released = b.released; uncalled = b.uncalled; in_time = late-none s.first.time s.rest e b.in_time k });
      comes = λ es. ap (λ x. readings 0 (p ∷ (stretched bs ++ l ∷ x))) (stretches-on s last e es m);
    }
    by false m = record {
      past = Low p o (bs ++ bit ∷ []) n;
      current = begun false e;
      keeps = keeps-off (High p o bs n l) (Low p o (bs ++ bit ∷ []) n) s last e false m c
          (ap (λ t. Some t)
          (ap (λ (x : ClockPhase). transfer o x.first.time (bs ++ bit ∷ []) e.time) (more-first bs bit (begun false e))
          ∙ (transfer-more o (first_low bs l).first.time bs bit (few-bits bs n h.eight)
          ∙ sym (ap (λ v. if v then with_bit (sent o bs l) s.first e else sent o bs l) b.released)))
          ∙ sym (ap (λ v. if v then None else advanced (Some (sent o bs l)) (stretch_in s last) e) c));
      right = right-more n
          (begun-more p o bs n bit (begun false e) h
          (ends-bit s (begun false e) b.uncalled refl (late-none s.first.time s.rest e b.in_time k)) refl (clock-falls s last e m c b.released));
      comes = λ es.
          ap (λ x. readings 0 (p ∷ (stretched bs ++ l ∷ x))) (off-called s last e es false m c)
          ∙ ap (λ x. readings 0 (p ∷ x)) (sym (more-stretched bs bit (stretches_from (begun false e) e es)));
    }

-- what an edge ends is given, and the edge is taken as if no byte had begun
abbrev pub Gives : Past → ClockPhase → (last e : Edge) → Reading → Type 0
Gives p s last e r = (es : List Edge) → to_come p s last (e ∷ es) ≡ r ∷ to_come Waiting s last (e ∷ es)

-- a frame is given with its acknowledgement
pub acknowledged-gives : (p : ClockPhase) (o : Opening) (bs : List Bit) (s : ClockPhase) (last e : Edge) (t : ℕ) → HasBegun p o bs 0 s
    → goes_on s.first last e ≡ true → acknowledgement (turns_of (longer s e)) ≡ Some t
    → Gives (Low p o bs 0) s last e (Frame (sent o bs s) (frame.Acknowledged t))
acknowledged-gives p o bs s last e t h k a es =
    let i = head-of (longer s e) e es in
    let l : ClockPhase = record s { rest = (s.rest ++ e ∷ []) ++ i.more } in
    let is : stretches_from s last (e ∷ es) ≡ l ∷ i.behind = stretches-on s last e es k ∙ i.is in
    let once : HasBegun p o bs 0 (longer s e) = begun-further p o bs 0 s (e ∷ []) h in
    ap (λ x. readings 0 (p ∷ (stretched bs ++ x))) is
    ∙ (frame-comes p o bs l i.behind (frame.Acknowledged t) (begun-further p o bs 0 (longer s e) i.more once)
    (ap (λ v. frame_end v i.behind) (acknowledged-longer (longer s e) i.more t a))
    ∙ (ap (λ x. Frame x (frame.Acknowledged t) ∷ readings 0 (l ∷ i.behind))
    (sent-further o bs (longer s e) i.more ∙ sent-further o bs s (e ∷ []))
    ∙ ap (λ x. Frame (sent o bs s) (frame.Acknowledged t) ∷ readings 0 x) (sym is)))

-- or with what ends the waiting for it
unacknowledged-gives : (p : ClockPhase) (o : Opening) (bs : List Bit) (s : ClockPhase) (last e : Edge) → IsRight (Low p o bs 0) s
    → goes_on s.first last e ≡ false → Gives (Low p o bs 0) s last e (Frame (sent o bs s) (frame.Unacknowledged e.time))
unacknowledged-gives p o bs s last e (h, a) k es =
    let i = head-of (begun (calls last e) e) e es in
    let next : List ClockPhase = stretches_from (begun (calls last e) e) e es in
    let is : stretches_from s last (e ∷ es) ≡ s ∷ next = stretches-off s last e es k in
    ap (λ x. readings 0 (p ∷ (stretched bs ++ x))) is
    ∙ (frame-comes p o bs s next (frame.Unacknowledged e.time) h (ap (λ v. frame_end v next) a ∙ ap waiting_end i.is)
    ∙ ap (λ x. Frame (sent o bs s) (frame.Unacknowledged e.time) ∷ readings 0 x) (sym is))

pub frame-gives : (p : ClockPhase) (o : Opening) (bs : List Bit) (s : ClockPhase) (last e : Edge) (r : Reading) → IsRight (Low p o bs 0) s
    → frame_ended (sent o bs s) (stretch_in s last) e ≡ Some r → Gives (Low p o bs 0) s last e r
frame-gives p o bs s last e r (h, a) m = by (goes_on s.first last e) refl m
  where
    at : (v : Option ℕ) → acknowledgement (turns_of (longer s e)) ≡ v → goes_on s.first last e ≡ true
        → acknowledged_at (sent o bs s) v ≡ Some r → Gives (Low p o bs 0) s last e r
    at None q k u = absurd (cc)
    at (Some t) q k u =
        let given : Frame (sent o bs s) (frame.Acknowledged t) ≡ r = cc in
        rw (← given) (acknowledged-gives p o bs s last e t h k q)

    by : (v : Bool) → goes_on s.first last e ≡ v
        → (if v then acknowledged_at (sent o bs s) (acknowledged_in (turned (not s.first.levels.clock) (noted (turns_of s)) e))
        else Some (Frame (sent o bs s) (frame.Unacknowledged e.time))) ≡ Some r
        → Gives (Low p o bs 0) s last e r
    by true k q =
        at (acknowledgement (turns_of (longer s e))) refl k
        (ap (acknowledged_at (sent o bs s)) (sym (acknowledged-now s e)) ∙ q)
    by false k q =
        let given : Frame (sent o bs s) (frame.Unacknowledged e.time) ≡ r = cc in
        rw (← given) (unacknowledged-gives p o bs s last e (h, a) k)

-- a call ends a byte with CLOCK pulled that has a bit
pub called-low-gives : (p : ClockPhase) (o : Opening) (b : Bit) (bs : List Bit) (n : ℕ) (s : ClockPhase) (last e : Edge) → HasBegun p o (b ∷ bs) (suc n) s
    → calls last e ≡ true → Gives (Low p o (b ∷ bs) (suc n)) s last e (IncompleteByte (sent o (b ∷ bs) s) (glitch.Attention e.time))
called-low-gives p o b bs n s last e h k es =
    let i = head-of (begun true e) e es in
    let l : ClockPhase = record { attention = true; first = e; rest = [] ++ i.more } in
    let is : stretches_from s last (e ∷ es) ≡ s ∷ l ∷ i.behind = off-called s last e es true (calls-off s last e k) k ∙ ap (λ x. s ∷ x) i.is in
    ap (λ x. readings 0 (p ∷ (stretched (b ∷ bs) ++ x))) is
    ∙ (glitch-comes p o (b ∷ bs) n s (l ∷ i.behind) (glitch.Attention e.time) h refl (none i.behind) refl
    ∙ ap (λ x. IncompleteByte (sent o (b ∷ bs) s) (glitch.Attention e.time) ∷ readings 0 x) (sym is))
  where
    none : (ss : List ClockPhase) → (let l : ClockPhase = record { attention = true; first = e; rest = [] ++ (head-of (begun true e) e es).more } in
        bits_from (suc n) s (l ∷ ss) ≡ none_come s (l ∷ ss))
    none [] = refl
    none (x ∷ ss) =
        let l : ClockPhase = record { attention = true; first = e; rest = [] ++ (head-of (begun true e) e es).more } in
        none-comes n s l x ss (called-ends-none l x refl)

-- of one that has none nothing is left
pub called-moves : (p : ClockPhase) (o : Opening) (n : ℕ) (s : ClockPhase) (last e : Edge) → HasBegun p o [] (suc n) s
    → calls last e ≡ true → Next (Low p o [] (suc n)) s last e
called-moves p o n s last e h k = record {
  past = Waiting;
  current = begun true e;
  keeps = keeps-off (Low p o [] (suc n)) Waiting s last e true (calls-off s last e k) k
      (sym (ap (λ v. if v then None else advanced (Some (sent o [] s)) (stretch_in s last) e) k));
  right = tt;
  comes = λ es.
      let i = head-of (begun true e) e es in
      let l : ClockPhase = record { attention = true; first = e; rest = [] ++ i.more } in
      ap (λ x. readings 0 (p ∷ x)) (off-called s last e es true (calls-off s last e k) k)
      ∙ (ap (λ x. readings 0 (p ∷ s ∷ x)) i.is
      ∙ (called-off p s l i.behind refl
      ∙ (ap (λ x. readings 0 (s ∷ x)) (sym i.is) ∙ nothing-begins s (stretches_from (begun true e) e es) (low-opens-nothing s h.pulled))));
}

-- a byte with CLOCK released ends: no bit comes, and the stretch is read anew
high-gives : (p : ClockPhase) (o : Opening) (bs : List Bit) (n : ℕ) (l s : ClockPhase) (last e : Edge) (end : IncompleteEnd) → HasBegun p o bs (suc n) l
    → s.attention ≡ false
    → ((es : List Edge) → bits_from (suc n) l (stretches_from s last (e ∷ es)) ≡ none_come l (stretches_from s last (e ∷ es)))
    → ((es : List Edge) → glitch_end (stretches_from s last (e ∷ es)) ≡ end)
    → Gives (High p o bs n l) s last e (IncompleteByte (sent o bs l) end)
high-gives p o bs n l s last e end h u c k es =
    let next : List ClockPhase = stretches_from s last (e ∷ es) in
    glitch-comes p o bs n l next end h (uncalled-behind bs next (ap is_called (head-of s last (e ∷ es)).is ∙ u)) (c es) (k es)
    ∙ ap (λ x. IncompleteByte (sent o bs l) end ∷ x) (nothing-begins l next (low-opens-nothing l h.pulled))

-- what comes after a low stretch, where the first stretch of it ends no bit
no-bit : (n : ℕ) (l h : ClockPhase) (ss : List ClockPhase) → ((x : ClockPhase) (xs : List ClockPhase) → ss ≡ x ∷ xs → ends_bit h x ≡ false)
    → bits_from (suc n) l (h ∷ ss) ≡ none_come l (h ∷ ss)
no-bit n l h [] k = refl
no-bit n l h (x ∷ xs) k = none-comes n l h x xs (k x xs refl)

-- the end of a stretch with CLOCK released that is not called
pub high-ends : (h : ClockPhase) (ss : List ClockPhase) → h.attention ≡ false → glitch_end (h ∷ ss) ≡ high_end h ss
high-ends h ss k = ap (λ v. if v then glitch.Attention h.first.time else high_end h ss) k

-- a stretch with an edge that comes too late
late-stretch : (n : ℕ) (l h : ClockPhase) (ss : List ClockPhase) (t : ℕ) → h.attention ≡ false → first_late h.first.time h.rest ≡ Some t
    → (bits_from (suc n) l (h ∷ ss) ≡ none_come l (h ∷ ss)) × (glitch_end (h ∷ ss) ≡ glitch.ClockTimeout t)
late-stretch n l h ss t c k =
    (no-bit n l h ss (λ x xs e. late-ends-none h x t (late-stays h.first.time h.rest (x.first ∷ []) t k)), high-ends h ss c ∙ by ss)
  where
    by : (ss : List ClockPhase) → high_end h ss ≡ glitch.ClockTimeout t
    by [] = ap (λ v. silence_or v glitch.Cut) k
    by (x ∷ ss) = ap (λ v. silence_or v (glitch.Attention x.first.time)) (late-stays h.first.time h.rest (x.first ∷ []) t k)

-- an edge that comes too late ends a byte
pub late-gives : (p : ClockPhase) (o : Opening) (bs : List Bit) (n : ℕ) (l s : ClockPhase) (last e : Edge) → IsRight (High p o bs n l) s
    → is_late s.first.time e ≡ true → Gives (High p o bs n l) s last e (IncompleteByte (sent o bs l) (glitch.ClockTimeout e.time))
late-gives p o bs n l s last e (h, b) k = by (goes_on s.first last e) refl
  where
    late : first_late s.first.time (s.rest ++ e ∷ []) ≡ Some e.time
    late = late-one s.first.time s.rest e b.in_time k

    by : (v : Bool) → goes_on s.first last e ≡ v → Gives (High p o bs n l) s last e (IncompleteByte (sent o bs l) (glitch.ClockTimeout e.time))
    by true m = high-gives p o bs n l s last e (glitch.ClockTimeout e.time) h b.uncalled (λ es. (both es).0) (λ es. (both es).1)
      where
        both : (es : List Edge)
            → (bits_from (suc n) l (stretches_from s last (e ∷ es)) ≡ none_come l (stretches_from s last (e ∷ es)))
            × (glitch_end (stretches_from s last (e ∷ es)) ≡ glitch.ClockTimeout e.time)
        both es =
            let i = head-of (longer s e) e es in
            let x : ClockPhase = record s { rest = (s.rest ++ e ∷ []) ++ i.more } in
            let is : stretches_from s last (e ∷ es) ≡ x ∷ i.behind = stretches-on s last e es m ∙ i.is in
            rw is (late-stretch n l x i.behind e.time b.uncalled (late-stays s.first.time (s.rest ++ e ∷ []) i.more e.time late))
    by false m = high-gives p o bs n l s last e (glitch.ClockTimeout e.time) h b.uncalled (λ es. (both es).0) (λ es. (both es).1)
      where
        both : (es : List Edge)
            → (bits_from (suc n) l (stretches_from s last (e ∷ es)) ≡ none_come l (stretches_from s last (e ∷ es)))
            × (glitch_end (stretches_from s last (e ∷ es)) ≡ glitch.ClockTimeout e.time)
        both es =
            let i = head-of (begun (calls last e) e) e es in
            let x : ClockPhase = record { attention = calls last e; first = e; rest = [] ++ i.more } in
            let is : stretches_from s last (e ∷ es) ≡ s ∷ x ∷ i.behind = stretches-off s last e es m ∙ ap (λ y. s ∷ y) i.is in
            rw is (
              none-comes n l s x i.behind (late-ends-none s x e.time late),
              high-ends s (x ∷ i.behind) b.uncalled
                  ∙ ap (λ v. silence_or v (glitch.Attention e.time)) late,
            )

-- so does a call
pub called-high-gives : (p : ClockPhase) (o : Opening) (bs : List Bit) (n : ℕ) (l s : ClockPhase) (last e : Edge) → IsRight (High p o bs n l) s
    → is_late s.first.time e ≡ false → calls last e ≡ true → Gives (High p o bs n l) s last e (IncompleteByte (sent o bs l) (glitch.Attention e.time))
called-high-gives p o bs n l s last e (h, b) k c =
    high-gives p o bs n l s last e (glitch.Attention e.time) h b.uncalled (λ es. (both es).0) (λ es. (both es).1)
  where
    both : (es : List Edge)
        → (bits_from (suc n) l (stretches_from s last (e ∷ es)) ≡ none_come l (stretches_from s last (e ∷ es)))
        × (glitch_end (stretches_from s last (e ∷ es)) ≡ glitch.Attention e.time)
    both es =
        let i = head-of (begun true e) e es in
        let x : ClockPhase = record { attention = true; first = e; rest = [] ++ i.more } in
        let is : stretches_from s last (e ∷ es) ≡ s ∷ x ∷ i.behind =
        off-called s last e es true (calls-off s last e c) c ∙ ap (λ y. s ∷ y) i.is
        in
        rw is (
          none-comes n l s x i.behind (call-ends-none s x refl),
          high-ends s (x ∷ i.behind) b.uncalled
              ∙ ap (λ v. silence_or v (glitch.Attention e.time)) (late-none s.first.time s.rest e b.in_time k),
        )
