-- One edge more, taken by a decoder, and the end of a recording.
use Rattle.std.proofs.Common.{◌≡◌, ℕ, suc, zero, ◌==◌, Bool, true, false, not, List, [], ◌∷◌, ◌++◌, Option, Some, None, if◌then◌else◌, refl, sym, ap, ◌∙◌, append_assoc, append-nil, subst}
use Rattle.std.proofs.lemmas.Bool.{ne_eqb}
use Rattle.std.proofs.lemmas.List.Elements.{filter-append}
use Rattle.std.specs.List.{filter}
use Rattle.std.specs.Option.{option_to_list}
use Rattle.pr_wire.specs.declared.Edge.{Edge}
use Rattle.pr_decode.specs.declared.decoder.Decoder.{Decoder}
use Rattle.pr_decode.specs.declared.reading.FrameEnd.TheVariants as frame
use Rattle.pr_decode.specs.declared.reading.IncompleteEnd.TheVariants as glitch
use Rattle.pr_decode.specs.declared.reading.Reading.{Reading}
use Rattle.pr_decode.specs.declared.reading.Reading.TheVariants.{Frame, IncompleteByte}
use Rattle.pr_decode.specs.declared.reading.Transfer.{Transfer}
use Rattle.pr_decode.specs.declared.clock_phase.ClockPhase as declared
use Rattle.pr_decode.specs.Laws.{MoreEdgesAddReadings, OnlyTheLastIsCut}
use Rattle.pr_decode.specs.Readings.{frame_end, is_late, is_settled, readings_of, settled_of, silence_or}
use Rattle.pr_decode.specs.Steps.{acknowledged_at, acknowledged_in, after, after_edge, began, cut_in, ended_by, kept_of, turned}
use Rattle.pr_decode.specs.ClockPhases.{ClockPhase, begun, calls, goes_on}
use Rattle.pr_decode.specs.Taking.{HasReadings, IsRight, IsRightSeen, Past, Seen, kept, stretch_in, to_come, to_come_behind, transfer_in}
use Rattle.pr_decode.specs.Taking.Past.{High, Low, Waiting}
use Rattle.pr_decode.proofs.Adding.{low-opens-nothing, nothing-begins, uncalled-behind}
use Rattle.pr_decode.proofs.Moving.{Gives, called-high-gives, called-low-gives, called-moves, ended-bits, ended-frame, ended-high, ended-some, frame-gives, frame-waits, high-ends, high-moves, late-gives, low-moves}
use Rattle.pr_decode.proofs.DecoderSteps.{Next, eight-bits, frame-comes, glitch-comes, kept-begun, not-eight, sent, waits}

-- what an edge ends of a byte with CLOCK released, by its tests
abbrev high_by : Bool → Bool → Transfer → Edge → Option Reading
high_by late attention t e = if late then Some (IncompleteByte t (glitch.ClockTimeout e.time)) else (if attention then Some (IncompleteByte t (glitch.Attention e.time)) else None)

-- an edge that ends nothing goes on
moves : (p : Past) (s : ClockPhase) (last e : Edge) → IsRight p s → ended_by (transfer_in p s) (stretch_in s last) e ≡ None → Next p s last e
moves Waiting s last e h k = waits s last e
moves (Low p o bs zero) s last e (h, a) k =
    frame-waits p o bs s last e (h, a) (sym (ended-frame (sent o bs s) s last e h.pulled (eight-bits bs h.eight)) ∙ k)
moves (Low p o [] (suc n)) s last e h k = by (calls last e) refl
  where
    by : (v : Bool) → calls last e ≡ v → Next (Low p o [] (suc n)) s last e
    by true c = called-moves p o n s last e h c
    by false c = low-moves p o [] n s last e h c
moves (Low p o (b ∷ bs) (suc n)) s last e h k =
    by (calls last e) refl (sym (ended-some o b bs s last e h.pulled (not-eight (b ∷ bs) n h.eight)) ∙ k)
  where
    by : (v : Bool) → calls last e ≡ v → (if v then Some (IncompleteByte (sent o (b ∷ bs) s) (glitch.Attention e.time)) else None) ≡ None
        → Next (Low p o (b ∷ bs) (suc n)) s last e
    by true c q = absurd (cc)
    by false c q = low-moves p o (b ∷ bs) n s last e h c
moves (High p o bs n l) s last e (h, b) k =
    by (is_late s.first.time e) refl (calls last e) refl (sym (ended-high (sent o bs l) s last e b.released) ∙ k)
  where
    by : (u : Bool) → is_late s.first.time e ≡ u → (v : Bool) → calls last e ≡ v → high_by u v (sent o bs l) e ≡ None → Next (High p o bs n l) s last e
    by true i v c q = absurd (cc)
    by false i true c q = absurd (cc)
    by false i false c q = high-moves p o bs n l s last e (h, b) i c

-- an edge that ends something gives it
gives : (p : Past) (s : ClockPhase) (last e : Edge) (r : Reading) → IsRight p s → ended_by (transfer_in p s) (stretch_in s last) e ≡ Some r
    → Gives p s last e r
gives Waiting s last e r h k = absurd (cc)
gives (Low p o bs zero) s last e r (h, a) k =
    frame-gives p o bs s last e r (h, a) (sym (ended-frame (sent o bs s) s last e h.pulled (eight-bits bs h.eight)) ∙ k)
gives (Low p o [] (suc n)) s last e r h k =
    let q : None ≡ Some r = sym (ended-bits (sent o [] s) s last e h.pulled (not-eight [] n h.eight)) ∙ k in
    absurd (cc)
gives (Low p o (b ∷ bs) (suc n)) s last e r h k =
    by (calls last e) refl (sym (ended-some o b bs s last e h.pulled (not-eight (b ∷ bs) n h.eight)) ∙ k)
  where
    by : (v : Bool) → calls last e ≡ v → (if v then Some (IncompleteByte (sent o (b ∷ bs) s) (glitch.Attention e.time)) else None) ≡ Some r
        → Gives (Low p o (b ∷ bs) (suc n)) s last e r
    by false c q = absurd (cc)
    by true c q =
        let given : IncompleteByte (sent o (b ∷ bs) s) (glitch.Attention e.time) ≡ r = cc in
        rw (← given) (called-low-gives p o b bs n s last e h c)
gives (High p o bs n l) s last e r (h, b) k =
    by (is_late s.first.time e) refl (calls last e) refl (sym (ended-high (sent o bs l) s last e b.released) ∙ k)
  where
    by : (u : Bool) → is_late s.first.time e ≡ u → (v : Bool) → calls last e ≡ v → high_by u v (sent o bs l) e ≡ Some r
        → Gives (High p o bs n l) s last e r
    by true i v c q =
        let given : IncompleteByte (sent o bs l) (glitch.ClockTimeout e.time) ≡ r = cc in
        rw (← given) (late-gives p o bs n l s last e (h, b) i)
    by false i true c q =
        let given : IncompleteByte (sent o bs l) (glitch.Attention e.time) ≡ r = cc in
        rw (← given) (called-high-gives p o bs n l s last e (h, b) i c)
    by false i false c q = absurd (cc)

-- what an edge ends is settled
settles : (t : Option Transfer) (s : declared.ClockPhase) (e : Edge) (r : Reading) → ended_by t s e ≡ Some r → is_settled r ≡ true
settles None s e r h = absurd (cc)
settles (Some t) s e r h =
    by s.first.levels.clock (t.bits == 8) (t.bits == 0) (is_late s.first.time e) (calls s.last e) (goes_on s.first s.last e)
    (acknowledged_in (turned (not s.first.levels.clock) s.turns e)) h
  where
    by : (a b z c d g : Bool) (v : Option ℕ)
        → (if a then high_by c d t e
        else (if b then (if g then acknowledged_at t v else Some (Frame t (frame.Unacknowledged e.time)))
        else (if z then None else (if d then Some (IncompleteByte t (glitch.Attention e.time)) else None)))) ≡ Some r
        → is_settled r ≡ true
    by true b z true d g v k = let q : IncompleteByte t (glitch.ClockTimeout e.time) ≡ r = cc in rw (← q) refl
    by true b z false true g v k = let q : IncompleteByte t (glitch.Attention e.time) ≡ r = cc in rw (← q) refl
    by true b z false false g v k = absurd (cc)
    by false true z c d true (Some u) k = let q : Frame t (frame.Acknowledged u) ≡ r = cc in rw (← q) refl
    by false true z c d true None k = absurd (cc)
    by false true z c d false v k = let q : Frame t (frame.Unacknowledged e.time) ≡ r = cc in rw (← q) refl
    by false false true c d g v k = absurd (cc)
    by false false false c true g v k = let q : IncompleteByte t (glitch.Attention e.time) ≡ r = cc in rw (← q) refl
    by false false false c false g v k = absurd (cc)

-- what the end of a recording leaves
ends : (p : Past) (s : ClockPhase) (last : Edge) → IsRight p s → to_come p s last [] ≡ option_to_list (cut_in (transfer_in p s))
ends Waiting s last h = refl
ends (Low p o bs zero) s last (h, a) =
    frame-comes p o bs s [] frame.Cut h (ap (λ v. frame_end v []) a)
    ∙ ap (λ v. (if v then Frame (sent o bs s) frame.Cut else IncompleteByte (sent o bs s) glitch.Cut) ∷ []) (sym (eight-bits bs h.eight))
ends (Low p o bs (suc n)) s last h =
    glitch-comes p o bs n s [] glitch.Cut h (uncalled-behind bs [] refl) refl refl
    ∙ ap (λ v. (if v then Frame (sent o bs s) frame.Cut else IncompleteByte (sent o bs s) glitch.Cut) ∷ []) (sym (not-eight bs n h.eight))
ends (High p o bs n l) s last (h, b) =
    glitch-comes p o bs n l (s ∷ []) glitch.Cut h (uncalled-behind bs (s ∷ []) b.uncalled) refl
    (high-ends s [] b.uncalled ∙ ap (λ v. silence_or v glitch.Cut) b.in_time)
    ∙ (ap (λ x. IncompleteByte (sent o bs l) glitch.Cut ∷ x) (nothing-begins l (s ∷ []) (low-opens-nothing l h.pulled))
    ∙ ap (λ v. (if v then Frame (sent o bs l) frame.Cut else IncompleteByte (sent o bs l) glitch.Cut) ∷ []) (sym (not-eight bs n h.eight)))

-- and that is not settled
cut-unsettled : (t : Option Transfer) → filter is_settled (option_to_list (cut_in t)) ≡ []
cut-unsettled None = refl
cut-unsettled (Some t) = by (t.bits == 8)
  where
    by : (v : Bool) → filter is_settled ((if v then Frame t frame.Cut else IncompleteByte t glitch.Cut) ∷ []) ≡ []
    by true = refl
    by false = refl

-- nothing was taken
abbrev fresh : Decoder
fresh = record { stretch = None; transfer = None }

none-taken : HasReadings [] [] fresh
none-taken = record { seen = None; keeps = refl; right = tt; told = λ more. refl; settled = refl }

-- the first edge is taken
pub first-taken : (edges : List Edge) (given : List Reading) (d : Decoder) (e : Edge) → d.stretch ≡ None → HasReadings edges given d
    → HasReadings (edges ++ e ∷ []) (given ++ []) (record { stretch = Some (began false e); transfer = d.transfer })
first-taken edges given d e h k = by k.seen k.keeps k.told
  where
    by : (v : Option Seen) → d ≡ kept v → ((more : List Edge) → readings_of (edges ++ more) ≡ given ++ to_come_behind v more)
        → HasReadings (edges ++ e ∷ []) (given ++ []) (record { stretch = Some (began false e); transfer = d.transfer })
    by (Some s) m t =
        let a : d.stretch ≡ Some (stretch_in s.current s.last) = ap (λ (x : Decoder). x.stretch) m in
        absurd (cc)
    by None m t = record {
      seen = Some (record { past = Waiting; current = begun false e; last = e });
      keeps =
          let a : d.transfer ≡ None = ap (λ (x : Decoder). x.transfer) m in
          let b : stretch_in (begun false e) e ≡ began false e = kept-begun false e in
          cc;
      right = tt;
      told = λ more. ap readings_of (append_assoc edges (e ∷ []) more) ∙ (t (e ∷ more) ∙ ap (λ l. l ++ readings_of (e ∷ more)) (sym (append-nil given)));
      settled = ap (filter is_settled) (append-nil given) ∙ (k.settled ∙ sym (append-nil given));
    }

-- an edge more is taken
after-more : (edges : List Edge) (given : List Reading) (d : Decoder) (e : Edge) (k : HasReadings edges given d) (s : Seen) (r : Option Reading) (q : Past)
    → IsRight q s.current
    → ((more : List Edge) → readings_of (edges ++ e ∷ more) ≡ given ++ (option_to_list r ++ to_come q s.current s.last (e ∷ more)))
    → filter is_settled (option_to_list r) ≡ option_to_list r
    → Next q s.current s.last e
    → HasReadings (edges ++ e ∷ []) (given ++ option_to_list r) (after (transfer_in q s.current) (stretch_in s.current s.last) e)
after-more edges given d e k s r q right told settled next = record {
  seen = Some (record { past = next.past; current = next.current; last = e });
  keeps = sym next.keeps;
  right = next.right;
  told = λ more.
      ap readings_of (append_assoc edges (e ∷ []) more)
      ∙ (told more
      ∙ (ap (λ x. given ++ (option_to_list r ++ x)) (next.comes more)
      ∙ sym (append_assoc given (option_to_list r) (to_come next.past next.current e more))));
  settled = filter-append is_settled given (option_to_list r) ∙ (ap (λ x. x ++ filter is_settled (option_to_list r)) k.settled ∙ ap (λ x. given ++ x) settled);
}

seen-more : (edges : List Edge) (given : List Reading) (d : Decoder) (e : Edge) (k : HasReadings edges given d) (s : Seen) → IsRight s.past s.current
    → ((more : List Edge) → readings_of (edges ++ more) ≡ given ++ to_come s.past s.current s.last more)
    → (r : Option Reading) → ended_by (transfer_in s.past s.current) (stretch_in s.current s.last) e ≡ r
    → HasReadings (edges ++ e ∷ []) (given ++ option_to_list r)
    (after (kept_of r (transfer_in s.past s.current)) (stretch_in s.current s.last) e)
seen-more edges given d e k s right told None h =
    after-more edges given d e k s None s.past right (λ more. told (e ∷ more)) refl (moves s.past s.current s.last e right h)
seen-more edges given d e k s right told (Some r) h =
    after-more edges given d e k s (Some r) Waiting tt
    (λ more. told (e ∷ more) ∙ ap (λ x. given ++ x) (gives s.past s.current s.last e r right h more))
    (ap (λ v. if v then r ∷ [] else []) (settles (transfer_in s.past s.current) (stretch_in s.current s.last) e r h))
    (waits s.current s.last e)

pub more-taken : (edges : List Edge) (given : List Reading) (d new : Decoder) (e : Edge) (s : declared.ClockPhase) (r : Option Reading) → d.stretch ≡ Some s
    → r ≡ ended_by d.transfer s e → new ≡ after_edge d.transfer s e → HasReadings edges given d
    → HasReadings (edges ++ e ∷ []) (given ++ option_to_list r) new
more-taken edges given d new e s r h m n k = by k.seen k.keeps k.right k.told
  where
    by : (v : Option Seen) → d ≡ kept v → IsRightSeen v
        → ((more : List Edge) → readings_of (edges ++ more) ≡ given ++ to_come_behind v more)
        → HasReadings (edges ++ e ∷ []) (given ++ option_to_list r) new
    by None q right t =
        let a : d.stretch ≡ None = ap (λ (x : Decoder). x.stretch) q in
        absurd (cc)
    by (Some x) q right t =
        let a : s ≡ stretch_in x.current x.last = let b : d.stretch ≡ Some (stretch_in x.current x.last) = ap (λ (y : Decoder). y.stretch) q in cc in
        let b : d.transfer ≡ transfer_in x.past x.current = ap (λ (y : Decoder). y.transfer) q in
        let c : r ≡ ended_by (transfer_in x.past x.current) (stretch_in x.current x.last) e = rw (b, a) at m in
        let f : new ≡ after_edge (transfer_in x.past x.current) (stretch_in x.current x.last) e = rw (b, a) at n in
        let g : new ≡ after (kept_of r (transfer_in x.past x.current)) (stretch_in x.current x.last) e =
        f ∙ ap (λ y. after (kept_of y (transfer_in x.past x.current)) (stretch_in x.current x.last) e) (sym c)
        in
        rw g (seen-more edges given d e k x right t r (sym c))

-- all readings are those given and what the end cuts
pub all-read : (edges : List Edge) (given : List Reading) (d : Decoder) → HasReadings edges given d → readings_of edges ≡ given ++ option_to_list (cut_in d.transfer)
all-read edges given d k = by k.seen k.keeps k.right k.told
  where
    by : (v : Option Seen) → d ≡ kept v → IsRightSeen v
        → ((more : List Edge) → readings_of (edges ++ more) ≡ given ++ to_come_behind v more)
        → readings_of edges ≡ given ++ option_to_list (cut_in d.transfer)
    by None q right t =
        ap readings_of (sym (append-nil edges))
        ∙ (t [] ∙ ap (λ x. given ++ option_to_list (cut_in x)) (sym (ap (λ (y : Decoder). y.transfer) q)))
    by (Some x) q right t =
        ap readings_of (sym (append-nil edges))
        ∙ (t [] ∙ (ap (λ y. given ++ y) (ends x.past x.current x.last right)
        ∙ ap (λ y. given ++ option_to_list (cut_in y)) (sym (ap (λ (y : Decoder). y.transfer) q))))

-- by what is kept of a byte
pub none-left : (edges : List Edge) (given : List Reading) (d : Decoder) (r : Option Reading) → HasReadings edges given d → d.transfer ≡ None → r ≡ None
    → readings_of edges ≡ given ++ option_to_list r
none-left edges given d r k h m =
    all-read edges given d k ∙ (ap (λ t. given ++ option_to_list (cut_in t)) h ∙ ap (λ x. given ++ option_to_list x) (sym m))

pub frame-left : (edges : List Edge) (given : List Reading) (d : Decoder) (t : Transfer) → HasReadings edges given d → d.transfer ≡ Some t → t.bits ≡ 8
    → readings_of edges ≡ given ++ Frame t frame.Cut ∷ []
frame-left edges given d t k h m =
    all-read edges given d k
    ∙ (ap (λ x. given ++ option_to_list (cut_in x)) h
    ∙ ap (λ n. given ++ (if n == 8 then Frame t frame.Cut else IncompleteByte t glitch.Cut) ∷ []) m)

pub glitch-left : (edges : List Edge) (given : List Reading) (d : Decoder) (t : Transfer) → HasReadings edges given d → d.transfer ≡ Some t
    → (t.bits ≡ 8 → ⊥) → readings_of edges ≡ given ++ IncompleteByte t glitch.Cut ∷ []
glitch-left edges given d t k h m =
    all-read edges given d k
    ∙ (ap (λ x. given ++ option_to_list (cut_in x)) h
    ∙ ap (λ v. given ++ (if v then Frame t frame.Cut else IncompleteByte t glitch.Cut) ∷ []) (ne_eqb t.bits 8 m))

-- those given are the settled ones
pub all-settled : (edges : List Edge) (given : List Reading) (d : Decoder) → HasReadings edges given d → settled_of edges ≡ given
all-settled edges given d k =
    ap (filter is_settled) (all-read edges given d k)
    ∙ (filter-append is_settled given (option_to_list (cut_in d.transfer))
    ∙ (ap (λ x. x ++ filter is_settled (option_to_list (cut_in d.transfer))) k.settled
    ∙ (ap (λ x. given ++ x) (cut-unsettled d.transfer) ∙ append-nil given)))

-- some decoder has read any edges
record Read (edges : List Edge) : Type 0 where
  given : List Reading
  decoder : Decoder
  has : HasReadings edges given decoder

one-more : (edges : List Edge) (e : Edge) → Read edges → Read (edges ++ e ∷ [])
one-more edges e r = by r.decoder.stretch refl
  where
    by : (v : Option declared.ClockPhase) → r.decoder.stretch ≡ v → Read (edges ++ e ∷ [])
    by None h = record {
      given = r.given ++ [];
      decoder = record { stretch = Some (began false e); transfer = r.decoder.transfer };
      has = first-taken edges r.given r.decoder e h r.has;
    }
    by (Some s) h = record {
      given = r.given ++ option_to_list (ended_by r.decoder.transfer s e);
      decoder = after_edge r.decoder.transfer s e;
      has = more-taken edges r.given r.decoder (after_edge r.decoder.transfer s e) e s (ended_by r.decoder.transfer s e) h refl refl r.has;
    }

read-on : (es edges : List Edge) → Read edges → Read (edges ++ es)
read-on [] edges r = rw (append-nil edges) r
read-on (e ∷ es) edges r = subst Read (append_assoc edges (e ∷ []) es) (read-on es (edges ++ e ∷ []) (one-more edges e r))

read-all : (edges : List Edge) → Read edges
read-all edges = read-on edges [] (record { given = []; decoder = fresh; has = none-taken })

-- more edges only add readings
pub more-edges : MoreEdgesAddReadings
more-edges edges more =
    let r = read-all edges in
    let later : List Reading = to_come_behind r.has.seen more in (
      filter is_settled later,
      ap (filter is_settled) (r.has.told more)
          ∙ (filter-append is_settled r.given later
          ∙ (ap (λ x. x ++ filter is_settled later) (r.has.settled ∙ sym (all-settled edges r.given r.decoder r.has)))),
    )

-- at most one reading is cut, the last
pub one-cut : OnlyTheLastIsCut
one-cut edges =
    let r = read-all edges in (
      cut_in r.decoder.transfer,
      all-read edges r.given r.decoder r.has
          ∙ ap (λ x. x ++ option_to_list (cut_in r.decoder.transfer)) (sym (all-settled edges r.given r.decoder r.has)),
    )
