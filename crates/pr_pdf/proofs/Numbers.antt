-- Numbers one after another.
use Rattle.std.proofs.Common.{◌≡◌, ℕ, zero, suc, ◌+◌, ◌%◌, ◌≤◌, Bool, true, false, cond, List, [], ◌∷◌, ◌++◌, length, refl, ap, ◌∙◌, arith, decimal}
use Rattle.std.specs.Prelude.{filter, flat_map, map, slice_index_or}
use Rattle.std.proofs.lemmas.Grind.{common_steps, flat_map-append}
use Rattle.std.proofs.lemmas.List.{append-nil, length-append}
use Rattle.std.proofs.lemmas.List.Elements.{filter-append}
use Rattle.pr_pdf.specs.Fonts.{code_name, glyph_object, proc_pdf, used_among, used_before}
use Rattle.pr_pdf.specs.Parts.{reference}
use Rattle.pr_pdf.specs.Words.{numbers_from}

-- numbers and numbers
pub numbers_append : (first count more : ℕ) → numbers_from first (count + more) ≡ numbers_from first count ++ numbers_from (first + count) more
unfolding numbers_from
numbers_append first zero more =
    let e : zero + more ≡ more = omega arith in
    let f : first + zero ≡ first = omega arith in
    rw (e, f) refl
numbers_append first (suc count) more =
    let e : suc count + more ≡ suc (count + more) = omega arith in
    let f : first + 1 + count ≡ first + suc count = omega arith in
    rw (e, ← f) (ap (λ ns. first ∷ ns) (numbers_append (first + 1) count more))

-- one number more
pub numbers_more : (first count : ℕ) → numbers_from first (count + 1) ≡ numbers_from first count ++ (first + count) ∷ []
unfolding numbers_from
numbers_more first count = numbers_append first count 1

-- as many as asked for
pub numbers_length : (first count : ℕ) → length (numbers_from first count) ≡ count
unfolding numbers_from
numbers_length first zero = refl
numbers_length first (suc count) = grind (arith, common_steps, numbers_length (first + 1) count)

-- what is made of each number, with one number more
pub flat_more : {X : Type 0} (f : ℕ → List X) (count : ℕ) → flat_map f (numbers_from 0 (count + 1)) ≡ flat_map f (numbers_from 0 count) ++ f count
flat_more f count = grind (arith, common_steps, numbers_more 0 count)

-- what is made of none
pub flat_none : {X : Type 0} (f : ℕ → List X) → flat_map f (numbers_from 0 0) ≡ []
unfolding numbers_from
flat_none f = refl

-- the same, of one thing each
pub map_more : {X : Type 0} (f : ℕ → X) (count : ℕ) → map f (numbers_from 0 (count + 1)) ≡ map f (numbers_from 0 count) ++ f count ∷ []
map_more f count = grind (arith, common_steps, numbers_more 0 count)

pub map_none : {X : Type 0} (f : ℕ → X) → map f (numbers_from 0 0) ≡ []
unfolding numbers_from
map_none f = refl

-- no glyph among none
pub used_none : (used : List Bool) (first : ℕ) → used_among used first 0 ≡ []
unfolding numbers_from
used_none used first = refl

-- the glyphs of more numbers
pub used_append : (used : List Bool) (first count more : ℕ) → used_among used first (count + more) ≡ used_among used first count ++ used_among used (first + count) more
used_append used first count more =
    ap (filter (λ n. slice_index_or used n false)) (numbers_append first count more)
    ∙ filter-append (λ n. slice_index_or used n false) (numbers_from first count) (numbers_from (first + count) more)

-- of one number more
pub used_more : (used : List Bool) (first count n : ℕ) → n ≡ first + count → used_among used first (count + 1) ≡ used_among used first count ++ used_among used n 1
used_more used first count n at = rw at (used_append used first count 1)

-- one glyph that is used
pub used_one : (used : List Bool) (n : ℕ) → slice_index_or used n false ≡ true → used_among used n 1 ≡ n ∷ []
unfolding numbers_from
used_one used n is = rw is refl

-- one that is not
pub unused_one : (used : List Bool) (n : ℕ) → slice_index_or used n false ≡ false → used_among used n 1 ≡ []
unfolding numbers_from
unused_one used n is = rw is refl

-- no more glyphs are used than there are numbers
pub used_few : (used : List Bool) (first count : ℕ) → length (used_among used first count) ≤ count
unfolding numbers_from
used_few used first zero = omega arith
used_few used first (suc count) = by (slice_index_or used first false) (used_few used (first + 1) count)
  where
    by : (is : Bool) → length (used_among used (first + 1) count) ≤ count
        → length (cond is (first ∷ used_among used (first + 1) count) (used_among used (first + 1) count)) ≤ suc count
    by true few = omega (arith, few)
    by false few = omega (arith, few)

-- how many glyphs are used before the next number
pub before_none : (used : List Bool) → used_before used 0 ≡ 0
before_none used = ap length (used_none used 0)

pub before_used : (used : List Bool) (n : ℕ) → slice_index_or used n false ≡ true → used_before used (n + 1) ≡ used_before used n + 1
before_used used n is =
    let more : used_among used 0 (n + 1) ≡ used_among used 0 n ++ used_among used n 1 = used_more used 0 n n (omega arith) in
    rw (more, used_one used n is, length-append (used_among used 0 n) (n ∷ [])) refl

pub before_unused : (used : List Bool) (n : ℕ) → slice_index_or used n false ≡ false → used_before used (n + 1) ≡ used_before used n
before_unused used n is =
    let more : used_among used 0 (n + 1) ≡ used_among used 0 n ++ used_among used n 1 = used_more used 0 n n (omega arith) in
    rw (more, unused_one used n is, append-nil (used_among used 0 n)) refl

-- a glyph among those of its font
pub proc_is : (used : List Bool) (n object : ℕ) → object ≡ glyph_object used n → slice_index_or used n false ≡ true
    → flat_map (proc_pdf used) (used_among used n 1) ≡ code_name (n % 256) ++ decimal object ++ reference
unfolding proc_pdf
proc_is used n object at is = rw (used_one used n is, at) (append-nil (code_name (n % 256) ++ decimal (glyph_object used n) ++ reference))

-- and one more
pub procs_more : (used : List Bool) (first place : ℕ) → flat_map (proc_pdf used) (used_among used first (place + 1))
    ≡ flat_map (proc_pdf used) (used_among used first place) ++ flat_map (proc_pdf used) (used_among used (first + place) 1)
procs_more used first place =
    ap (flat_map (proc_pdf used)) (used_append used first place 1)
    ∙ flat_map-append (proc_pdf used) (used_among used first place) (used_among used (first + place) 1)

-- the next glyph's object after one that is used
pub object_more : (used : List Bool) (n object : ℕ) → object ≡ glyph_object used n → slice_index_or used n false ≡ true
    → object + 1 ≡ glyph_object used (n + 1)
object_more used n object at is =
    let more : used_before used (n + 1) ≡ used_before used n + 1 = before_used used n is in
    let next : glyph_object used n + 1 ≡ glyph_object used (n + 1) = omega (arith, more) in
    ap (λ k. k + 1) at ∙ next
