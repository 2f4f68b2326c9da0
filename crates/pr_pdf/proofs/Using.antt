-- Which glyphs marks use, mark by mark.
use Rattle.std.proofs.Common.{◌≡◌, ℕ, zero, suc, ◌+◌, ◌<◌, Bool, true, false, List, [], ◌∷◌, ◌++◌, refl, ◌∙◌, arith}
use Rattle.std.specs.Prelude.{◌==◌, ◌||◌, map, replicate, slice_set}
use Rattle.std.specs.List.{list_any}
use Rattle.std.proofs.lemmas.List.Folds.{list_any-append}
use Rattle.std.proofs.lemmas.Grind.{common_steps}
use Rattle.pr_page.specs.declared.paper.Mark.{Mark}
use Rattle.pr_pdf.specs.Fonts.{has_number, number_of, used_of}
use Rattle.pr_pdf.specs.Words.{numbers_from}

-- no glyph is used by no marks
none : (first count : ℕ) → replicate count false ≡ map (λ number. list_any (has_number number) []) (numbers_from first count)
unfolding numbers_from
none first zero = refl
none first (suc count) = grind (arith, common_steps, none (first + 1) count)

pub none_used : replicate 2304 false ≡ used_of []
unfolding used_of
none_used = none 0 2304

-- tests that differ for a number alone are the same after it
same_map : (f g : ℕ → Bool) (m first count : ℕ) → ((n : ℕ) → g n ≡ (f n || m == n)) → m < first
    → map f (numbers_from first count) ≡ map g (numbers_from first count)
unfolding numbers_from
same_map f g m first zero more before = refl
same_map f g m first (suc count) more before = grind (arith, common_steps, more first, before, same_map f g m (first + 1) count more)

-- and the number is set
set_map : (f g : ℕ → Bool) (m first count k : ℕ) → ((n : ℕ) → g n ≡ (f n || m == n)) → m ≡ first + k
    → slice_set (map f (numbers_from first count)) k true ≡ map g (numbers_from first count)
unfolding numbers_from
set_map f g m first zero k more is = refl
set_map f g m first (suc count) zero more is = grind (arith, common_steps, more first, is, same_map f g m (first + 1) count more)
set_map f g m first (suc count) (suc k) more is = grind (arith, common_steps, more first, is, set_map f g m (first + 1) count k more)

-- one mark more
one_seen : (marks : List Mark) (mark : Mark) → slice_set (used_of marks) (number_of mark) true ≡ used_of (marks ++ mark ∷ [])
unfolding used_of
one_seen marks mark =
    set_map (λ n. list_any (has_number n) marks) (λ n. list_any (has_number n) (marks ++ mark ∷ [])) (number_of mark) 0 2304 (number_of mark)
    (λ n. list_any-append (has_number n) marks (mark ∷ []) ∙ grind (arith, common_steps)) (omega arith)

-- the same of a table that says what marks use
pub seen_at : (items : List Bool) (marks : List Mark) (mark : Mark) (n : ℕ) → items ≡ used_of marks → n ≡ number_of mark
    → slice_set items n true ≡ used_of (marks ++ mark ∷ [])
seen_at items marks mark n is at = rw (is, at) (one_seen marks mark)
