-- The first interval outside its bounds, as readings come.
use Rattle.std.proofs.Common.{◌≡◌, ℕ, ◌+◌, ◌<◌, List, [], ◌∷◌, ◌++◌, length, get_or, drop, Option, Some, None, refl, sym, ap, ◌∙◌, append-nil}
use Rattle.std.proofs.lemmas.List.{append_assoc, drop_more}
use Rattle.pr_decode.specs.declared.reading.Reading.{Reading}
use Rattle.pr_report.specs.declared.detail.Bounds.{Bounds}
use Rattle.pr_report.specs.declared.interval.Interval.{Interval}
use Rattle.pr_report.specs.declared.outside.Outside.{Outside}
use Rattle.pr_report.specs.Intervals.{intervals, length_of}
use Rattle.pr_report.specs.Outside.{all_outside, first_of, outside_at, outside_in}
use Rattle.pr_report.specs.Steps.{earlier}

-- the first of two lists
pub first-append : (xs ys : List Outside) → first_of (xs ++ ys) ≡ earlier (first_of xs) (first_of ys)
first-append [] ys = refl
first-append (x ∷ xs) ys = refl

-- the next of some intervals, and those after it
next-found : (b : Bounds) (is : List Interval) (k : ℕ) (d : Interval) (r : Reading) → k < length is
    → first_of (outside_in b (drop k is) r)
    ≡ earlier (first_of (outside_at b r (get_or is k d) (length_of (get_or is k d) r))) (first_of (outside_in b (drop (k + 1) is) r))
next-found b is k d r within =
    ap (λ l. first_of (outside_in b l r)) (drop_more is k d within)
    ∙ first-append (outside_at b r (get_or is k d) (length_of (get_or is k d) r)) (outside_in b (drop (k + 1) is) r)

pub found-here : (b : Bounds) (is : List Interval) (k : ℕ) (d : Interval) (r : Reading) (all : Option Outside) (o : Outside) → k < length is
    → first_of (outside_in b (drop k is) r) ≡ all → first_of (outside_at b r (get_or is k d) (length_of (get_or is k d) r)) ≡ Some o → Some o ≡ all
found-here b is k d r all o within so_far here =
    sym (ap (λ f. earlier f (first_of (outside_in b (drop (k + 1) is) r))) here) ∙ (sym (next-found b is k d r within) ∙ so_far)

pub found-later : (b : Bounds) (is : List Interval) (k : ℕ) (d : Interval) (r : Reading) (all : Option Outside) → k < length is
    → first_of (outside_in b (drop k is) r) ≡ all → first_of (outside_at b r (get_or is k d) (length_of (get_or is k d) r)) ≡ None
    → first_of (outside_in b (drop (k + 1) is) r) ≡ all
found-later b is k d r all within so_far here =
    sym (ap (λ f. earlier f (first_of (outside_in b (drop (k + 1) is) r))) here) ∙ (sym (next-found b is k d r within) ∙ so_far)

-- one reading more
outside-push : (b : Bounds) (rs : List Reading) (r : Reading) → all_outside b (rs ++ r ∷ []) ≡ all_outside b rs ++ outside_in b intervals r
outside-push b [] r = append-nil (outside_in b intervals r)
outside-push b (s ∷ rs) r =
    ap (λ os. outside_in b intervals s ++ os) (outside-push b rs r)
    ∙ sym (append_assoc (outside_in b intervals s) (all_outside b rs) (outside_in b intervals r))

pub found-more : (b : Bounds) (rs : List Reading) (r : Reading) (before after : Option Outside)
    → before ≡ first_of (all_outside b rs) → after ≡ earlier before (first_of (outside_in b intervals r))
    → after ≡ first_of (all_outside b (rs ++ r ∷ []))
found-more b rs r before after was is =
    is
    ∙ (ap (λ o. earlier o (first_of (outside_in b intervals r))) was
    ∙ (sym (first-append (all_outside b rs) (outside_in b intervals r)) ∙ ap first_of (sym (outside-push b rs r))))
