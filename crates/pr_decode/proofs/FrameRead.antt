-- A frame of a lawful trace, read.
use Rattle.std.proofs.Common.{◌≡◌, ℕ, suc, ◌+◌, ◌-◌, ◌≤◌, Bool, true, false, not, ◌&&◌, List, [], ◌∷◌, ◌++◌, length, map, Option, Some, None, if◌then◌else◌, refl, sym, ap, ◌∙◌, append_assoc, arith}
use Rattle.std.specs.Prelude.{nat_lt}
use Rattle.std.proofs.lemmas.Bool.{le-ltb}
use Rattle.pr_wire.specs.declared.Edge.{Edge}
use Rattle.pr_wire.specs.Levels.{byte_of, edge_at}
use Rattle.pr_wire.specs.Pieces.{AreClocked, BitTimes, EoiAnswer, FrameTimes, IsFrame, IsOpened, bit_edges, frame_edges, last_pull, levels_of}
use Rattle.pr_wire.specs.Table.{same}
use Rattle.pr_decode.specs.declared.reading.FrameEnd.TheVariants as frame
use Rattle.pr_decode.specs.declared.reading.Opening.{Opening}
use Rattle.pr_decode.specs.declared.reading.Reading.{Reading}
use Rattle.pr_decode.specs.declared.reading.Reading.TheVariants.{Frame}
use Rattle.pr_decode.specs.declared.reading.Transfer.{Transfer}
use Rattle.pr_decode.specs.PieceReadings.{frame_read, high_times, low_times}
use Rattle.pr_decode.specs.Readings.{Bit, ends_bit, halves, high_half, is_none, level_of, low_half, opening_of, readings}
use Rattle.pr_decode.specs.ClockPhases.{ClockPhase, begun, calls, goes_on, longer, stretches_from}
use Rattle.pr_decode.specs.Taking.{AreBits, HasBegun, first_low, stretched, to_come, with_more}
use Rattle.pr_decode.specs.Taking.Past.{Waiting}
use Rattle.pr_decode.proofs.Adding.{low-opens-nothing, nothing-begins}
use Rattle.pr_decode.proofs.Cutting.{stretches-off, stretches-on}
use Rattle.pr_decode.proofs.Moving.{acknowledged-gives}
use Rattle.pr_decode.proofs.DecoderSteps.{off-called, sent}

-- the level of DATA with the first pull of CLOCK, and the edges after that
abbrev first_level : List BitTimes → Bool
first_level [] = true
first_level (b ∷ bs) = b.level

abbrev tail_edges : Bool → List BitTimes → List Edge
tail_edges x [] = []
tail_edges x (b ∷ bs) = edge_at b.up x true b.level ∷ bit_edges x b.down bs

bit-edges-first : (x : Bool) (c : ℕ) (bs : List BitTimes) → bit_edges x c bs ≡ edge_at c x false (first_level bs) ∷ tail_edges x bs
bit-edges-first x c [] = refl
bit-edges-first x c (b ∷ bs) = refl

-- the stretches of bits
abbrev low_at : Bool → ℕ → Bool → ClockPhase
low_at x c v = begun false (edge_at c x false v)

abbrev high_at : Bool → BitTimes → ClockPhase
high_at x b = begun false (edge_at b.up x true b.level)

abbrev bits_read : Bool → ℕ → List BitTimes → List Bit
bits_read x c [] = []
bits_read x c (b ∷ bs) =
    record { low = low_at x c b.level; high = high_at x b; down = edge_at b.down x false (first_level bs) } ∷ bits_read x b.down bs

abbrev last_low : Bool → ℕ → List BitTimes → ClockPhase
last_low x c bs = low_at x (last_pull c bs) true

-- an edge with ATN as it was is no call
no-call : (x : Bool) → (x && not x) ≡ false
no-call true = refl
no-call false = refl

-- an edge with ATN as it was and CLOCK the other way ends a stretch
turns-over : (x : Bool) (s : ClockPhase) (last e : Edge) (es : List Edge) → last.levels.atn ≡ x → e.levels.atn ≡ x → same e.levels.clock s.first.levels.clock ≡ false
    → stretches_from s last (e ∷ es) ≡ s ∷ stretches_from (begun false e) e es
turns-over x s last e es h m q =
    off-called s last e es false (ap (λ v. v && not (calls last e)) q) (ap (λ v. v && not e.levels.atn) h ∙ (ap (λ v. x && not v) m ∙ no-call x))

-- and one with CLOCK as it was goes on with it
goes-along : (x : Bool) (s : ClockPhase) (last e : Edge) (es : List Edge) → last.levels.atn ≡ x → e.levels.atn ≡ x → same e.levels.clock s.first.levels.clock ≡ true
    → stretches_from s last (e ∷ es) ≡ stretches_from (longer s e) e es
goes-along x s last e es h m q =
    stretches-on s last e es
    (ap (λ v. v && not (calls last e)) q ∙ ap not (ap (λ v. v && not e.levels.atn) h ∙ (ap (λ v. x && not v) m ∙ no-call x)))

-- the bits, cut into their stretches
bits-cut : (x : Bool) (c : ℕ) (bs : List BitTimes) (more : List Edge)
    → stretches_from (low_at x c (first_level bs)) (edge_at c x false (first_level bs)) (tail_edges x bs ++ more)
    ≡ stretched (bits_read x c bs) ++ stretches_from (last_low x c bs) (edge_at (last_pull c bs) x false true) more
bits-cut x c [] more = refl
bits-cut x c (b ∷ bs) more =
    let up : Edge = edge_at b.up x true b.level in
    let down : Edge = edge_at b.down x false (first_level bs) in
    let low : ClockPhase = low_at x c b.level in
    let at : Edge = edge_at c x false b.level in
    ap (λ l. stretches_from low at (up ∷ (l ++ more))) (bit-edges-first x b.down bs)
    ∙ (turns-over x low at up (down ∷ (tail_edges x bs ++ more)) refl refl refl
    ∙ (ap (λ l. low ∷ l) (turns-over x (begun false up) up down (tail_edges x bs ++ more) refl refl refl)
    ∙ ap (λ l. low ∷ begun false up ∷ l) (bits-cut x b.down bs more)))

first-low-is : (x : Bool) (c : ℕ) (bs : List BitTimes) → first_low (bits_read x c bs) (last_low x c bs) ≡ low_at x c (first_level bs)
first-low-is x c [] = refl
first-low-is x c (b ∷ bs) = refl

-- they come in time
not-late : (u d : ℕ) → d ≤ u + 200 → nat_lt 1000 (d - u) ≡ false
not-late u d h = le-ltb 1000 (d - u) (omega arith)

are-bits : (x : Bool) (c : ℕ) (bs : List BitTimes) → AreClocked c bs → AreBits (bits_read x c bs) (last_low x c bs)
are-bits x c [] h = tt
are-bits x c (b ∷ bs) (u, d, h) =
    let down : Edge = edge_at b.down x false (first_level bs) in (
      ap (ends_bit (high_at x b)) (first-low-is x b.down bs)
          ∙ ap (λ v. is_none (if v then Some b.down else None)) (not-late b.up b.down d.to),
      ap (λ (s : ClockPhase). s.first) (sym (first-low-is x b.down bs)),
      are-bits x b.down bs h,
    )

-- and say what the frame says
number-read : (x : Bool) (c : ℕ) (bs : List BitTimes) → length (bits_read x c bs) ≡ length bs
number-read x c [] = refl
number-read x c (b ∷ bs) = ap suc (number-read x b.down bs)

number-more : (bs : List Bit) → with_more bs 0 ≡ length bs
number-more [] = refl
number-more (b ∷ bs) = ap suc (number-more bs)

levels-read : (x : Bool) (c : ℕ) (bs : List BitTimes) → map level_of (bits_read x c bs) ≡ levels_of bs
levels-read x c [] = refl
levels-read x c (b ∷ bs) = ap (λ l. b.level ∷ l) (levels-read x b.down bs)

lows-read : (x : Bool) (c : ℕ) (bs : List BitTimes) → map low_half (bits_read x c bs) ≡ low_times c bs
lows-read x c [] = refl
lows-read x c (b ∷ bs) = ap (λ l. (b.up - c) ∷ l) (lows-read x b.down bs)

highs-read : (x : Bool) (c : ℕ) (bs : List BitTimes) → map high_half (bits_read x c bs) ≡ high_times bs
highs-read x c [] = refl
highs-read x c (b ∷ bs) = ap (λ l. (b.down - b.up) ∷ l) (highs-read x b.down bs)

sent-is : (x : Bool) (o : Opening) (c : ℕ) (bs : List BitTimes) → length bs ≡ 8
    → sent o (bits_read x c bs) (last_low x c bs) ≡ record {
      opening = o;
      pull = c;
      bits = 8;
      byte = byte_of (levels_of bs);
      low = halves (low_times c bs);
      high = halves (high_times bs);
      last_pull = last_pull c bs;
    }
sent-is x o c bs h =
    let make : ℕ → ℕ → List Bool → List ℕ → List ℕ → Transfer = λ p n ls ns ms. record {
      opening = o;
      pull = p;
      bits = n;
      byte = byte_of ls;
      low = halves ns;
      high = halves ms;
      last_pull = last_pull c bs;
    } in
    let read : List Bit = bits_read x c bs in
    ap (λ (s : ClockPhase). make s.first.time (length read) (map level_of read) (map low_half read) (map high_half read)) (first-low-is x c bs)
    ∙ (ap (λ n. make c n (map level_of read) (map low_half read) (map high_half read)) (number-read x c bs ∙ h)
    ∙ (ap (λ l. make c 8 l (map low_half read) (map high_half read)) (levels-read x c bs)
    ∙ (ap (λ l. make c 8 (levels_of bs) l (map high_half read)) (lows-read x c bs)
    ∙ ap (λ l. make c 8 (levels_of bs) (low_times c bs) l) (highs-read x c bs))))

-- an opening with its bits and the acknowledgement
bits-said : (x : Bool) (p : ClockPhase) (o : Opening) (c : ℕ) (bs : List BitTimes) (ack : ℕ) (more : List Edge) → opening_of p ≡ Some o
    → AreClocked c bs → length bs ≡ 8
    → readings 0 (p ∷ stretches_from (low_at x c (first_level bs)) (edge_at c x false (first_level bs)) (tail_edges x bs ++ edge_at ack x false false ∷ more))
    ≡ Frame (sent o (bits_read x c bs) (last_low x c bs)) (frame.Acknowledged ack)
    ∷ to_come Waiting (longer (last_low x c bs) (edge_at ack x false false)) (edge_at ack x false false) more
bits-said x p o c bs ack more h k n =
    let a : Edge = edge_at ack x false false in
    let at : Edge = edge_at (last_pull c bs) x false true in
    let low : ClockPhase = last_low x c bs in
    let has : HasBegun p o (bits_read x c bs) 0 low = record {
      opens = h;
      uncalled = ap (λ (s : ClockPhase). s.attention) (first-low-is x c bs);
      bits = are-bits x c bs k;
      eight = number-more (bits_read x c bs) ∙ (number-read x c bs ∙ n);
      pulled = refl;
    } in
    let on : goes_on low.first at a ≡ true = ap not (no-call x) in
    ap (λ l. readings 0 (p ∷ l)) (bits-cut x c bs (a ∷ more))
    ∙ (acknowledged-gives p o (bits_read x c bs) low at a ack has on refl more
    ∙ ap (λ l. Frame (sent o (bits_read x c bs) low) (frame.Acknowledged ack) ∷ readings 0 l) (stretches-on low at a more on))

-- a walk over some edges, while no byte has begun: what they say, and where they lead
pub record Walk (s : ClockPhase) (last : Edge) (es : List Edge) (said : List Reading) (t : ClockPhase) (at : Edge) : Type 0 where
  pub comes : (more : List Edge) → to_come Waiting s last (es ++ more) ≡ said ++ to_come Waiting t at more

-- an edge that begins a stretch after one with CLOCK pulled
pub walk-off : (s : ClockPhase) (last e : Edge) → s.first.levels.clock ≡ false → goes_on s.first last e ≡ false
    → Walk s last (e ∷ []) [] (begun (calls last e) e) e
walk-off s last e h k = record {
  comes = λ more.
      ap (readings 0) (stretches-off s last e more k)
      ∙ nothing-begins s (stretches_from (begun (calls last e) e) e more) (low-opens-nothing s h);
}

-- an edge that goes on
pub walk-on : (s : ClockPhase) (last e : Edge) → goes_on s.first last e ≡ true → Walk s last (e ∷ []) [] (longer s e) e
walk-on s last e h = record { comes = λ more. ap (readings 0) (stretches-on s last e more h) }

-- one walk after another
pub walk-both : (s t u : ClockPhase) (a b c : Edge) (es fs : List Edge) (rs qs : List Reading) → Walk s a es rs t b → Walk t b fs qs u c
    → Walk s a (es ++ fs) (rs ++ qs) u c
walk-both s t u a b c es fs rs qs h k = record {
  comes = λ more.
      ap (to_come Waiting s a) (append_assoc es fs more)
      ∙ (h.comes (fs ++ more) ∙ (ap (λ l. rs ++ l) (k.comes more) ∙ sym (append_assoc rs qs (to_come Waiting u c more))));
}

-- what follows a frame
abbrev pub behind_frame : Bool → FrameTimes → ClockPhase
behind_frame x f = longer (last_low x f.pull f.bits) (edge_at f.ack x false false)

-- the opening of a frame
abbrev opened_by : Bool → ℕ → ℕ → ClockPhase
opened_by x look free = longer (begun false (edge_at look x true false)) (edge_at free x true true)

-- a frame without a pulse, and with one
plain-frame : (x : Bool) (look free pull ack : ℕ) (bits : List BitTimes) (more : List Edge) → AreClocked pull bits → length bits ≡ 8
    → readings 0 (stretches_from (begun false (edge_at look x true false)) (edge_at look x true false)
    (edge_at free x true true ∷ (bit_edges x pull bits ++ edge_at ack x false false ∷ more)))
    ≡ frame_read x look (record { free = free; pulse = None; pull = pull; bits = bits; ack = ack })
    ∷ to_come Waiting (longer (last_low x pull bits) (edge_at ack x false false)) (edge_at ack x false false) more
plain-frame x look free pull ack bits more k n =
    let l : Edge = edge_at look x true false in
    let d : Edge = edge_at free x true true in
    let a : Edge = edge_at ack x false false in
    let c : Edge = edge_at pull x false (first_level bits) in
    let o : Opening = record { command = not x; ready_to_send = look; ready_for_data = free; pulse = None } in
    let rest : List Edge = tail_edges x bits ++ a ∷ more in
    ap (readings 0)
    (goes-along x (begun false l) l d (bit_edges x pull bits ++ a ∷ more) refl refl refl
    ∙ (ap (λ y. stretches_from (opened_by x look free) d (y ++ a ∷ more)) (bit-edges-first x pull bits)
    ∙ turns-over x (opened_by x look free) d c rest refl refl refl))
    ∙ (bits-said x (opened_by x look free) o pull bits ack more refl k n
    ∙ ap (λ t. Frame t (frame.Acknowledged ack) ∷ to_come Waiting (longer (last_low x pull bits) a) a more) (sent-is x o pull bits n))

pulsed-frame : (look free pull ack : ℕ) (p : EoiAnswer) (bits : List BitTimes) (more : List Edge) → AreClocked pull bits → length bits ≡ 8
    → readings 0 (stretches_from (begun false (edge_at look true true false)) (edge_at look true true false)
    (edge_at free true true true ∷ edge_at p.pulled true true false ∷ edge_at p.released true true true
    ∷ (bit_edges true pull bits ++ edge_at ack true false false ∷ more)))
    ≡ frame_read true look (record { free = free; pulse = Some p; pull = pull; bits = bits; ack = ack })
    ∷ to_come Waiting (longer (last_low true pull bits) (edge_at ack true false false)) (edge_at ack true false false) more
pulsed-frame look free pull ack p bits more k n =
    let q : Edge = edge_at p.pulled true true false in
    let r : Edge = edge_at p.released true true true in
    let a : Edge = edge_at ack true false false in
    let c : Edge = edge_at pull true false (first_level bits) in
    let o : Opening = record { command = false; ready_to_send = look; ready_for_data = free; pulse = Some (record { pulled = p.pulled; released = p.released }) } in
    let opened : ClockPhase = longer (longer (opened_by true look free) q) r in
    let rest : List Edge = tail_edges true bits ++ a ∷ more in
    ap (readings 0)
    (ap (λ y. stretches_from opened r (y ++ a ∷ more)) (bit-edges-first true pull bits)
    ∙ turns-over true opened r c rest refl refl refl)
    ∙ (bits-said true opened o pull bits ack more refl k n
    ∙ ap (λ t. Frame t (frame.Acknowledged ack) ∷ to_come Waiting (longer (last_low true pull bits) a) a more) (sent-is true o pull bits n))

-- a frame is read
pub frame-walk : (x : Bool) (s : ClockPhase) (last : Edge) (look : ℕ) (f : FrameTimes) → s.first.levels.clock ≡ false → last.levels.atn ≡ x
    → IsFrame x look f
    → Walk s last (edge_at look x true false ∷ frame_edges x f) (frame_read x look f ∷ []) (behind_frame x f) (edge_at f.ack x false false)
frame-walk x s last look f h m w = record {
  comes = λ more.
      ap (readings 0) (turns-over x s last (edge_at look x true false) (frame_edges x f ++ more) m refl (ap (same true) h))
      ∙ (nothing-begins s (stretches_from (begun false (edge_at look x true false)) (edge_at look x true false) (frame_edges x f ++ more))
      (low-opens-nothing s h)
      ∙ by x f.free f.pulse f.pull f.bits f.ack more w.opened w.clocked w.eight);
}
  where
    by : (y : Bool) (free : ℕ) (pulse : Option EoiAnswer) (pull : ℕ) (bits : List BitTimes) (ack : ℕ) (more : List Edge)
        → IsOpened y free pulse pull → AreClocked pull bits → length bits ≡ 8
        → (let g : FrameTimes = record { free = free; pulse = pulse; pull = pull; bits = bits; ack = ack } in
        readings 0 (stretches_from (begun false (edge_at look y true false)) (edge_at look y true false) (frame_edges y g ++ more))
        ≡ frame_read y look g ∷ to_come Waiting (behind_frame y g) (edge_at ack y false false) more)
    by y free None pull bits ack more o k n =
        let l : Edge = edge_at look y true false in
        ap (λ z. readings 0 (stretches_from (begun false l) l (edge_at free y true true ∷ z)))
        (append_assoc (bit_edges y pull bits) (edge_at ack y false false ∷ []) more)
        ∙ plain-frame y look free pull ack bits more k n
    by true free (Some p) pull bits ack more o k n =
        let l : Edge = edge_at look true true false in
        ap (λ z. readings 0 (stretches_from (begun false l) l
        (edge_at free true true true ∷ edge_at p.pulled true true false ∷ edge_at p.released true true true ∷ z)))
        (append_assoc (bit_edges true pull bits) (edge_at ack true false false ∷ []) more)
        ∙ pulsed-frame look free pull ack p bits more k n
    by false free (Some p) pull bits ack more o k n = absurd (let q : false ≡ true = o.0 in cc)
