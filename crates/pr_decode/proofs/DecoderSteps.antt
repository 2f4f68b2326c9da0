-- What one edge more changes of what a decoder keeps, and of the readings that come yet.
use Rattle.std.proofs.Common.{◌≡◌, ℕ, suc, ◌<◌, ◌==◌, Bool, true, false, List, [], ◌∷◌, ◌++◌, length, Option, Some, None, if◌then◌else◌, refl, sym, ap, ◌∙◌, arith}
use Rattle.std.proofs.lemmas.Bool.{ne_eqb}
use Rattle.pr_wire.specs.declared.Edge.{Edge}
use Rattle.pr_decode.specs.declared.decoder.Decoder.{Decoder}
use Rattle.pr_decode.specs.declared.reading.FrameEnd.{FrameEnd}
use Rattle.pr_decode.specs.declared.reading.IncompleteEnd.{IncompleteEnd}
use Rattle.pr_decode.specs.declared.reading.Opening.{Opening}
use Rattle.pr_decode.specs.declared.reading.Reading.TheVariants.{Frame, IncompleteByte}
use Rattle.pr_decode.specs.declared.reading.Transfer.{Transfer}
use Rattle.pr_decode.specs.declared.clock_phase.ClockPhase as declared
use Rattle.pr_decode.specs.declared.clock_phase.DataTransitions.{DataTransitions}
use Rattle.pr_decode.specs.Readings.{Bit, acknowledgement, bits_from, frame_end, glitch_end, opening_of, reading, readings, transfer, turns_of}
use Rattle.pr_decode.specs.Steps.{advanced, after, began, begun_behind, moved, opening_in, with_edge}
use Rattle.pr_decode.specs.ClockPhases.{ClockPhase, begun, calls, goes_on, longer, stretches_from}
use Rattle.pr_decode.specs.Taking.{HasBegun, IsRight, Past, first_low, kept, stretch_in, stretched, to_come, transfer_in, with_more}
use Rattle.pr_decode.specs.Taking.Past.{Low, Waiting}
use Rattle.pr_decode.proofs.Adding.{byte-read, call-begins, goes_uncalled, none_come, nothing-begins, opening-released}
use Rattle.pr_decode.proofs.Cutting.{clock-falls, head-of, stretches-off, stretches-on}
use Rattle.pr_decode.proofs.Turning.{opened-noted, turns-begun, turns-longer}

-- a byte has eight bits exactly where none is left
all-bits : (bs : List Bit) → with_more bs 0 ≡ length bs
all-bits [] = refl
all-bits (b ∷ bs) = ap suc (all-bits bs)

pub eight-bits : (bs : List Bit) → with_more bs 0 ≡ 8 → (length bs == 8) ≡ true
eight-bits bs h = ap (λ n. n == 8) (sym (all-bits bs) ∙ h)

fewer : (bs : List Bit) (n : ℕ) → length bs < with_more bs (suc n)
fewer [] n = omega arith
fewer (b ∷ bs) n = let k : length bs < with_more bs (suc n) = fewer bs n in omega arith

pub few-bits : (bs : List Bit) (n : ℕ) → with_more bs (suc n) ≡ 8 → length bs < 8
few-bits bs n h = let k : length bs < with_more bs (suc n) = fewer bs n in omega arith

pub not-eight : (bs : List Bit) (n : ℕ) → with_more bs (suc n) ≡ 8 → (length bs == 8) ≡ false
not-eight bs n h = let k : length bs < 8 = few-bits bs n h in ne_eqb (length bs) 8 (λ e. absurd (omega arith))

-- what is read of a byte with all bits, and with fewer
abbrev pub sent : Opening → List Bit → ClockPhase → Transfer
sent o bs l = transfer o (first_low bs l).first.time bs l.first.time

frame-read : (o : Opening) (bs : List Bit) (l : ClockPhase) (ss : List ClockPhase) → (length bs == 8) ≡ true
    → reading o (first_low bs l).first.time (record { bits = bs; last = l; behind = ss }) ≡ Frame (sent o bs l) (frame_end (acknowledgement (turns_of l)) ss)
frame-read o bs l ss h =
    ap (λ v. if v then Frame (sent o bs l) (frame_end (acknowledgement (turns_of l)) ss) else IncompleteByte (sent o bs l) (glitch_end ss)) h

glitch-read : (o : Opening) (bs : List Bit) (l : ClockPhase) (ss : List ClockPhase) → (length bs == 8) ≡ false
    → reading o (first_low bs l).first.time (record { bits = bs; last = l; behind = ss }) ≡ IncompleteByte (sent o bs l) (glitch_end ss)
glitch-read o bs l ss h =
    ap (λ v. if v then Frame (sent o bs l) (frame_end (acknowledgement (turns_of l)) ss) else IncompleteByte (sent o bs l) (glitch_end ss)) h

-- one with all bits has some
whole-uncalled : (bs : List Bit) (ss : List ClockPhase) → with_more bs 0 ≡ 8 → goes_uncalled bs ss ≡ false
whole-uncalled [] ss h = absurd (cc)
whole-uncalled (b ∷ bs) ss h = refl

-- a byte that has begun, read with its end
pub frame-comes : (p : ClockPhase) (o : Opening) (bs : List Bit) (l : ClockPhase) (ss : List ClockPhase) (end : FrameEnd) → HasBegun p o bs 0 l
    → frame_end (acknowledgement (turns_of l)) ss ≡ end
    → readings 0 (p ∷ (stretched bs ++ l ∷ ss)) ≡ Frame (sent o bs l) end ∷ readings 0 (l ∷ ss)
frame-comes p o bs l ss end h k =
    byte-read p o bs 0 l ss h (whole-uncalled bs ss h.eight) refl
    ∙ ap (λ r. r ∷ readings 0 (l ∷ ss)) (frame-read o bs l ss (eight-bits bs h.eight) ∙ ap (Frame (sent o bs l)) k)

pub glitch-comes : (p : ClockPhase) (o : Opening) (bs : List Bit) (n : ℕ) (l : ClockPhase) (ss : List ClockPhase) (end : IncompleteEnd) → HasBegun p o bs (suc n) l
    → goes_uncalled bs ss ≡ false → bits_from (suc n) l ss ≡ none_come l ss → glitch_end ss ≡ end
    → readings 0 (p ∷ (stretched bs ++ l ∷ ss)) ≡ IncompleteByte (sent o bs l) end ∷ readings 0 (l ∷ ss)
glitch-comes p o bs n l ss end h u c k =
    byte-read p o bs (suc n) l ss h u c
    ∙ ap (λ r. r ∷ readings 0 (l ∷ ss)) (glitch-read o bs l ss (not-eight bs n h.eight) ∙ ap (IncompleteByte (sent o bs l)) k)

-- the turns and the opening of what is kept of a stretch
kept-opening : (s : ClockPhase) (last : Edge) → opening_in (stretch_in s last) ≡ opening_of s
kept-opening s last = ap (λ v. if s.attention then None else (if s.first.levels.clock then v else None)) (opened-noted (turns_of s))

kept-longer : (s : ClockPhase) (last e : Edge) → stretch_in (longer s e) e ≡ with_edge (stretch_in s last) e
kept-longer s last e =
    let make : DataTransitions → declared.ClockPhase = λ t. record { attention = s.attention; first = s.first; last = e; turns = t } in
    ap make (turns-longer s e)

pub kept-begun : (c : Bool) (e : Edge) → stretch_in (begun c e) e ≡ began c e
kept-begun c e =
    let make : DataTransitions → declared.ClockPhase = λ t. record { attention = c; first = e; last = e; turns = t } in
    ap make (turns-begun c e)

-- what an edge leads to
pub record Next (p : Past) (s : ClockPhase) (last e : Edge) : Type 0 where
  pub past : Past
  pub current : ClockPhase
  pub keeps : kept (Some (record { past = past; current = current; last = e })) ≡ after (transfer_in p s) (stretch_in s last) e
  pub right : IsRight past current
  pub comes : (es : List Edge) → to_come p s last (e ∷ es) ≡ to_come past current e es

-- what is kept, put together
decoder-is : (s t : declared.ClockPhase) (x y : Option Transfer) → s ≡ t → x ≡ y
    → (let a : Decoder = record { stretch = Some s; transfer = x } in a) ≡ (let b : Decoder = record { stretch = Some t; transfer = y } in b)
decoder-is s t x y h k = cc

after-on : (t : Option Transfer) (s : ClockPhase) (last e : Edge) → goes_on s.first last e ≡ true
    → after t (stretch_in s last) e ≡ record { stretch = Some (with_edge (stretch_in s last) e); transfer = t }
after-on t s last e h =
    let on : Decoder = record { stretch = Some (with_edge (stretch_in s last) e); transfer = t } in
    let off : Decoder = record { stretch = Some (began (calls last e) e); transfer = moved t (stretch_in s last) e } in
    ap (λ v. if v then on else off) h

after-off : (t : Option Transfer) (s : ClockPhase) (last e : Edge) → goes_on s.first last e ≡ false
    → after t (stretch_in s last) e ≡ record { stretch = Some (began (calls last e) e); transfer = moved t (stretch_in s last) e }
after-off t s last e h =
    let on : Decoder = record { stretch = Some (with_edge (stretch_in s last) e); transfer = t } in
    let off : Decoder = record { stretch = Some (began (calls last e) e); transfer = moved t (stretch_in s last) e } in
    ap (λ v. if v then on else off) h

-- what is kept, where an edge goes on and where it ends the stretch
pub keeps-on : (p q : Past) (s : ClockPhase) (last e : Edge) → goes_on s.first last e ≡ true → transfer_in q (longer s e) ≡ transfer_in p s
    → kept (Some (record { past = q; current = longer s e; last = e })) ≡ after (transfer_in p s) (stretch_in s last) e
keeps-on p q s last e h k =
    decoder-is (stretch_in (longer s e) e) (with_edge (stretch_in s last) e) (transfer_in q (longer s e)) (transfer_in p s) (kept-longer s last e) k
    ∙ sym (after-on (transfer_in p s) s last e h)

pub keeps-off : (p q : Past) (s : ClockPhase) (last e : Edge) (c : Bool) → goes_on s.first last e ≡ false → calls last e ≡ c
    → transfer_in q (begun c e) ≡ moved (transfer_in p s) (stretch_in s last) e
    → kept (Some (record { past = q; current = begun c e; last = e })) ≡ after (transfer_in p s) (stretch_in s last) e
keeps-off p q s last e c h k m =
    decoder-is (stretch_in (begun c e) e) (began (calls last e) e) (transfer_in q (begun c e)) (moved (transfer_in p s) (stretch_in s last) e)
    (kept-begun c e ∙ ap (λ v. began v e) (sym k)) m
    ∙ sym (after-off (transfer_in p s) s last e h)

-- the stretches after an edge that ends one
pub off-called : (s : ClockPhase) (last e : Edge) (es : List Edge) (c : Bool) → goes_on s.first last e ≡ false → calls last e ≡ c
    → stretches_from s last (e ∷ es) ≡ s ∷ stretches_from (begun c e) e es
off-called s last e es c h k = stretches-off s last e es h ∙ ap (λ v. s ∷ stretches_from (begun v e) e es) k

-- nothing begins in front of a call
pub skips-call : (s : ClockPhase) (e : Edge) (es : List Edge) → readings 0 (s ∷ stretches_from (begun true e) e es) ≡ readings 0 (stretches_from (begun true e) e es)
skips-call s e es =
    let k = head-of (begun true e) e es in
    let h : ClockPhase = record { attention = true; first = e; rest = [] ++ k.more } in
    ap (λ x. readings 0 (s ∷ x)) k.is ∙ (call-begins s h k.behind refl ∙ ap (readings 0) (sym k.is))

-- nothing has begun
waits-on : (s : ClockPhase) (last e : Edge) → goes_on s.first last e ≡ true → Next Waiting s last e
waits-on s last e h = record {
  past = Waiting;
  current = longer s e;
  keeps = keeps-on Waiting Waiting s last e h refl;
  right = tt;
  comes = λ es. ap (readings 0) (stretches-on s last e es h);
}

waits-off : (s : ClockPhase) (last e : Edge) → goes_on s.first last e ≡ false → Next Waiting s last e
waits-off s last e h = by (calls last e) refl (opening_of s) refl
  where
    by : (c : Bool) → calls last e ≡ c → (v : Option Opening) → opening_of s ≡ v → Next Waiting s last e
    by true k v m = record {
      past = Waiting;
      current = begun true e;
      keeps = keeps-off Waiting Waiting s last e true h k
          (sym (ap (λ x. if x then None else advanced None (stretch_in s last) e) k));
      right = tt;
      comes = λ es. ap (readings 0) (off-called s last e es true h k) ∙ skips-call s e es;
    }
    by false k None m = record {
      past = Waiting;
      current = begun false e;
      keeps = keeps-off Waiting Waiting s last e false h k
          (sym (ap (λ x. if x then None else advanced None (stretch_in s last) e) k
          ∙ ap (λ x. begun_behind x e) (kept-opening s last ∙ m)));
      right = tt;
      comes = λ es. ap (readings 0) (off-called s last e es false h k) ∙ nothing-begins s (stretches_from (begun false e) e es) m;
    }
    by false k (Some o) m = record {
      past = Low s o [] 8;
      current = begun false e;
      keeps = keeps-off Waiting (Low s o [] 8) s last e false h k
          (sym (ap (λ x. if x then None else advanced None (stretch_in s last) e) k
          ∙ ap (λ x. begun_behind x e) (kept-opening s last ∙ m)));
      right = record { opens = m; uncalled = refl; bits = tt; eight = refl; pulled = clock-falls s last e h k (opening-released s o m) };
      comes = λ es. ap (readings 0) (off-called s last e es false h k);
    }

pub waits : (s : ClockPhase) (last e : Edge) → Next Waiting s last e
waits s last e = by (goes_on s.first last e) refl
  where
    by : (v : Bool) → goes_on s.first last e ≡ v → Next Waiting s last e
    by true h = waits-on s last e h
    by false h = waits-off s last e h
