-- A line of a trace text, byte by byte: what has come spells an edge exactly if the line does.
use Rattle.std.proofs.Common.{◌≡◌, ℕ, ◌+◌, ◌-◌, ◌*◌, ◌<◌, ◌^◌, List, [], ◌∷◌, ◌++◌, length, refl, ap, subst, ◌∙◌, arith, Bool, true, false, Option, Some, None}
use Rattle.std.specs.List.{list_all}
use Rattle.std.specs.Prelude.{if◌then◌else◌, ◌==◌, ◌&&◌, nat_lt}
use Rattle.std.proofs.lemmas.Grind.{common_steps}
use Rattle.std.proofs.lemmas.Bool.{eqb-true}
use Rattle.pr_wire.specs.declared.Edge.{Edge}
use Rattle.pr_wire.specs.declared.line_part.LinePart.{LinePart}
use Rattle.pr_wire.specs.declared.line_part.LinePart.TheVariants.{Nothing, Time, Space, Atn, Clock, Whole, Returned, Bad}
use Rattle.pr_wire.specs.LineParts.{time_after, level_byte_after, part_after, part_with, edge_of_part, is_nothing}
use Rattle.pr_wire.specs.Levels.{edge_at}
use Rattle.pr_wire.specs.TextSteps.{level_in}
use Rattle.pr_wire.specs.TraceText.{level_digit, levels_text, Return, return_text, IsEdgeLine}
use Rattle.pr_base.specs.Digits.{is_digit, number_after}
use Rattle.pr_wire.specs.TraceText.Return.{WithReturn, Without}
use Rattle.pr_wire.proofs.LineLaws.{grows, level_read, level_digit_of}

-- one byte more
pub part_more : (p : LinePart) (bs : List ℕ) (b : ℕ) → part_with p (bs ++ b ∷ []) ≡ part_after (part_with p bs) b
part_more p [] b = refl
part_more p (c ∷ bs) b = part_more (part_after p c) bs b

-- a digit makes the time longer, where it stays small
digit_more : (t b : ℕ) → is_digit b ≡ true → 10 * t + (b - 48) < 2 ^ 64 → time_after t b ≡ Time (10 * t + (b - 48))
digit_more t b d small = grind (arith, common_steps)

-- a digit is no space
digit_no_space : (b : ℕ) → is_digit b ≡ true → (b == 32) ≡ false
digit_no_space b d = grind (arith, common_steps)

-- so do several digits
digits_with : (t : ℕ) (ds rest : List ℕ) → list_all is_digit ds ≡ true → number_after t ds < 2 ^ 64 → part_with (Time t) (ds ++ rest) ≡ part_with (Time (number_after t ds)) rest
digits_with t [] rest all small = refl
digits_with t (d ∷ ds) rest all small =
    let more : list_all is_digit ds ≡ true = grind (arith, common_steps) in
    let first : is_digit d ≡ true = grind (arith, common_steps) in
    let one : part_after (Time t) d ≡ Time (10 * t + (d - 48)) = rw (digit_no_space d first) (digit_more t d first (omega (arith, grows (10 * t + (d - 48)) ds))) in
    ap (λ p. part_with p (ds ++ rest)) one ∙ digits_with (10 * t + (d - 48)) ds rest more small

-- the levels after a time, and the line's end
levels_with_end : (e : Edge) (end : Return) → edge_of_part (part_with (Time e.time) (levels_text e ++ return_text end)) ≡ Some e
levels_with_end e WithReturn = rw (level_read e.levels.atn, level_read e.levels.clock, level_read e.levels.line) refl
levels_with_end e Without = rw (level_read e.levels.atn, level_read e.levels.clock, level_read e.levels.line) refl

-- an edge's line spells it byte by byte
pub line_part : (line : List ℕ) (e : Edge) → IsEdgeLine line e → edge_of_part (part_with Nothing line) ≡ Some e
line_part line e h = rw h.spelled (by h.digits h.some h.all h.time h.small)
  where
    by : (ds : List ℕ) → 0 < length ds → list_all is_digit ds ≡ true → number_after 0 ds ≡ e.time → e.time < 2 ^ 64
        → edge_of_part (part_with Nothing (ds ++ (levels_text e ++ return_text h.end))) ≡ Some e
    by [] some all time small = absurd (omega arith)
    by (d ∷ ds) some all time small =
        let rest = levels_text e ++ return_text h.end in
        let more : list_all is_digit ds ≡ true = grind (arith, common_steps) in
        let first : is_digit d ≡ true = grind (arith, common_steps) in
        let one : part_after Nothing d ≡ Time (10 * 0 + (d - 48)) = digit_more 0 d first (omega (arith, grows (10 * 0 + (d - 48)) ds)) in
        ap edge_of_part (ap (λ p. part_with p (ds ++ rest)) one ∙ (digits_with (10 * 0 + (d - 48)) ds rest more (omega arith) ∙ ap (λ t. part_with (Time t) rest) time))
        ∙ levels_with_end e h.end

-- digits after a time, its levels and the line's end
record IsTimed (t : ℕ) (line : List ℕ) (e : Edge) : Type 0 where
  digits : List ℕ
  all : list_all is_digit digits ≡ true
  time : number_after t digits ≡ e.time
  end : Return
  spelled : line ≡ digits ++ (levels_text e ++ return_text end)

-- what is still to come of a line for an edge
abbrev Lacks : LinePart → List ℕ → Edge → Type 0
Lacks Nothing line e = IsEdgeLine line e
Lacks (Time t) line e = IsTimed t line e
Lacks (Space t) line e =
    (end : Return) × (t ≡ e.time) × (line ≡ level_digit e.levels.atn ∷ level_digit e.levels.clock ∷ level_digit e.levels.line ∷ return_text end)
Lacks (Atn t a) line e = (end : Return) × (edge_at t a e.levels.clock e.levels.line ≡ e) × (line ≡ level_digit e.levels.clock ∷ level_digit e.levels.line ∷ return_text end)
Lacks (Clock t a c) line e = (end : Return) × (edge_at t a c e.levels.line ≡ e) × (line ≡ level_digit e.levels.line ∷ return_text end)
Lacks (Whole f) line e = (end : Return) × (f ≡ e) × (line ≡ return_text end)
Lacks (Returned f) line e = (f ≡ e) × (line ≡ [])
Lacks Bad line e = ⊥

-- a time is small
abbrev IsSmall : LinePart → Type 0
IsSmall (Time t) = t < 2 ^ 64
IsSmall (Space t) = t < 2 ^ 64
IsSmall (Atn t a) = t < 2 ^ 64
IsSmall (Clock t a c) = t < 2 ^ 64
IsSmall (Whole e) = e.time < 2 ^ 64
IsSmall (Returned e) = e.time < 2 ^ 64
IsSmall _ = Unit {0}

-- one byte more keeps it small
small_time : (t b : ℕ) → IsSmall (time_after t b)
small_time t b = by (is_digit b && nat_lt (10 * t + (b - 48)) 18446744073709551616) refl
  where
    by : (v : Bool) → (is_digit b && nat_lt (10 * t + (b - 48)) 18446744073709551616) ≡ v → IsSmall (if v then Time (10 * t + (b - 48)) else Bad)
    by true e = grind (arith, common_steps)
    by false e = tt

-- a level keeps it small
small_level : (p : LinePart) (l : Option Bool) → IsSmall p → IsSmall (level_byte_after p l)
small_level p None h = tt
small_level (Space t) (Some l) h = h
small_level (Atn t a) (Some l) h = h
small_level (Clock t a c) (Some l) h = h
small_level Nothing (Some l) h = tt
small_level (Time t) (Some l) h = tt
small_level (Whole e) (Some l) h = tt
small_level (Returned e) (Some l) h = tt
small_level Bad (Some l) h = tt

-- so does any byte
small_after : (p : LinePart) (b : ℕ) → IsSmall p → IsSmall (part_after p b)
small_after Nothing b h = small_time 0 b
small_after (Time t) b h = by (b == 32)
  where
    by : (v : Bool) → IsSmall (if v then Space t else time_after t b)
    by true = h
    by false = small_time t b
small_after (Space t) b h = small_level (Space t) (level_in b) h
small_after (Atn t a) b h = small_level (Atn t a) (level_in b) h
small_after (Clock t a c) b h = small_level (Clock t a c) (level_in b) h
small_after (Whole e) b h = by (b == 13)
  where
    by : (v : Bool) → IsSmall (if v then Returned e else Bad)
    by true = h
    by false = tt
small_after (Returned e) b h = tt
small_after Bad b h = tt

-- a digit before what a longer time lacks
digit_before : (t b : ℕ) (l : List ℕ) (e : Edge) → Lacks (time_after t b) l e → (is_digit b ≡ true) × IsTimed (10 * t + (b - 48)) l e
digit_before t b l e = by (is_digit b && nat_lt (10 * t + (b - 48)) 18446744073709551616) refl
  where
    by : (v : Bool) → (is_digit b && nat_lt (10 * t + (b - 48)) 18446744073709551616) ≡ v → Lacks (if v then Time (10 * t + (b - 48)) else Bad) l e
        → (is_digit b ≡ true) × IsTimed (10 * t + (b - 48)) l e
    by true d h = (grind (arith, common_steps), h)
    by false d h = absurd h

-- a digit in front of digits
all_digits : (b : ℕ) (ds : List ℕ) → is_digit b ≡ true → list_all is_digit ds ≡ true → list_all is_digit (b ∷ ds) ≡ true
all_digits b ds h k = rw (h, k) refl

-- a byte before what the part with it lacks
lacks_before : (p : LinePart) (b : ℕ) (l : List ℕ) (e : Edge) → e.time < 2 ^ 64 → Lacks (part_after p b) l e → Lacks p (b ∷ l) e
lacks_before Nothing b l e small h =
    let k = digit_before 0 b l e h in
    record { digits = b ∷ k.1.digits; some = omega arith; all = all_digits b k.1.digits k.0 k.1.all; time = k.1.time; small = small; end = k.1.end; spelled = ap (λ x. b ∷ x) k.1.spelled }
lacks_before (Time t) b l e small h = by (b == 32) refl h
  where
    by : (v : Bool) → (b == 32) ≡ v → Lacks (if v then Space t else time_after t b) l e → IsTimed t (b ∷ l) e
    by true s h = record { digits = []; all = refl; time = h.1; end = h.0; spelled = rw (eqb-true b 32 s, h.2) refl }
    by false s h =
        let k = digit_before t b l e h in
        record { digits = b ∷ k.1.digits; all = all_digits b k.1.digits k.0 k.1.all; time = k.1.time; end = k.1.end; spelled = ap (λ x. b ∷ x) k.1.spelled }
lacks_before (Space t) b l e small h = by (level_in b) refl h
  where
    by : (v : Option Bool) → level_in b ≡ v → Lacks (level_byte_after (Space t) v) l e → Lacks (Space t) (b ∷ l) e
    by None d h = absurd h
    by (Some a) d h =
        let k : a ≡ e.levels.atn = ap (λ (x : Edge). x.levels.atn) h.1 in
        (h.0, ap (λ (x : Edge). x.time) h.1, rw (level_digit_of b a d, k, h.2) refl)
lacks_before (Atn t a) b l e small h = by (level_in b) refl h
  where
    by : (v : Option Bool) → level_in b ≡ v → Lacks (level_byte_after (Atn t a) v) l e → Lacks (Atn t a) (b ∷ l) e
    by None d h = absurd h
    by (Some c) d h =
        let k : c ≡ e.levels.clock = ap (λ (x : Edge). x.levels.clock) h.1 in
        (h.0, subst (λ (x : Bool). edge_at t a x e.levels.line ≡ e) k h.1, rw (level_digit_of b c d, k, h.2) refl)
lacks_before (Clock t a c) b l e small h = by (level_in b) refl h
  where
    by : (v : Option Bool) → level_in b ≡ v → Lacks (level_byte_after (Clock t a c) v) l e → Lacks (Clock t a c) (b ∷ l) e
    by None d h = absurd h
    by (Some x) d h =
        let k : x ≡ e.levels.line = ap (λ (x : Edge). x.levels.line) h.1 in
        (h.0, subst (λ (x : Bool). edge_at t a c x ≡ e) k h.1, rw (level_digit_of b x d, k, h.2) refl)
lacks_before (Whole f) b l e small h = by (b == 13) refl h
  where
    by : (v : Bool) → (b == 13) ≡ v → Lacks (if v then Returned f else Bad) l e → Lacks (Whole f) (b ∷ l) e
    by true r h = (WithReturn, h.0, rw (eqb-true b 13 r, h.1) refl)
    by false r h = absurd h
lacks_before (Returned f) b l e small h = absurd h
lacks_before Bad b l e small h = absurd h

-- what came to an edge lacked it
part_lacks : (p : LinePart) (line : List ℕ) (e : Edge) → IsSmall p → edge_of_part (part_with p line) ≡ Some e → (e.time < 2 ^ 64) × Lacks p line e
part_lacks p (b ∷ l) e small h = let k = part_lacks (part_after p b) l e (small_after p b small) h in (k.0, lacks_before p b l e k.0 k.1)
part_lacks (Whole f) [] e small h = let k : f ≡ e = cc in (subst (λ (x : Edge). x.time < 2 ^ 64) k small, (Without, k, refl))
part_lacks (Returned f) [] e small h = let k : f ≡ e = cc in (subst (λ (x : Edge). x.time < 2 ^ 64) k small, (k, refl))
part_lacks Nothing [] e small h = absurd (cc)
part_lacks (Time t) [] e small h = absurd (cc)
part_lacks (Space t) [] e small h = absurd (cc)
part_lacks (Atn t a) [] e small h = absurd (cc)
part_lacks (Clock t a c) [] e small h = absurd (cc)
part_lacks Bad [] e small h = absurd (cc)

-- a line that came to an edge spells it
pub part_line : (line : List ℕ) (e : Edge) → edge_of_part (part_with Nothing line) ≡ Some e → IsEdgeLine line e
part_line line e h = (part_lacks Nothing line e tt h).1

-- a time with a byte is something
time_something : (t b : ℕ) → is_nothing (time_after t b) ≡ false
time_something t b = by (is_digit b && nat_lt (10 * t + (b - 48)) 18446744073709551616)
  where
    by : (v : Bool) → is_nothing (if v then Time (10 * t + (b - 48)) else Bad) ≡ false
    by true = refl
    by false = refl

-- so is any part with a byte
after_something : (p : LinePart) (b : ℕ) → is_nothing (part_after p b) ≡ false
after_something Nothing b = time_something 0 b
after_something (Time t) b = by (b == 32)
  where
    by : (v : Bool) → is_nothing (if v then Space t else time_after t b) ≡ false
    by true = refl
    by false = time_something t b
after_something (Space t) b = by (level_in b)
  where
    by : (v : Option Bool) → is_nothing (level_byte_after (Space t) v) ≡ false
    by None = refl
    by (Some l) = refl
after_something (Atn t a) b = by (level_in b)
  where
    by : (v : Option Bool) → is_nothing (level_byte_after (Atn t a) v) ≡ false
    by None = refl
    by (Some l) = refl
after_something (Clock t a c) b = by (level_in b)
  where
    by : (v : Option Bool) → is_nothing (level_byte_after (Clock t a c) v) ≡ false
    by None = refl
    by (Some l) = refl
after_something (Whole e) b = by (b == 13)
  where
    by : (v : Bool) → is_nothing (if v then Returned e else Bad) ≡ false
    by true = refl
    by false = refl
after_something (Returned e) b = refl
after_something Bad b = refl

-- and with more bytes
with_something : (p : LinePart) (b : ℕ) (bs : List ℕ) → is_nothing (part_with p (b ∷ bs)) ≡ false
with_something p b [] = after_something p b
with_something p b (c ∷ bs) = with_something (part_after p b) c bs

-- nothing has come of a line exactly if it has no byte
pub nothing_empty : (line : List ℕ) → is_nothing (part_with Nothing line) ≡ true → line ≡ []
nothing_empty [] h = refl
nothing_empty (b ∷ bs) h = absurd (let k = with_something Nothing b bs in cc)

-- something has come of a line that has a byte
pub something_some : (line : List ℕ) → is_nothing (part_with Nothing line) ≡ false → 0 < length line
something_some [] h = absurd (cc)
something_some (b ∷ bs) h = omega arith
