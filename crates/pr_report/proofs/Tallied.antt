-- A tally with one length more, and what it says.
use Rattle.std.proofs.Common.{◌≡◌, ℕ, ◌+◌, ◌-◌, ◌*◌, ◌<◌, ◌≤◌, false, cond, min, max, List, [], ◌∷◌, ◌++◌, length, get_or, Option, Some, None, if◌then◌else◌, refl, sym, ap, ◌∙◌, subst, arith, append-nil}
use Rattle.std.specs.Prelude.{◌==◌, ◌^◌, codes}
use Rattle.std.specs.List.{count_by}
use Rattle.std.specs.Option.{option_to_list}
use Rattle.std.proofs.lemmas.Bool.Decides.{nat_tests}
use Rattle.std.proofs.lemmas.List.{append_assoc}
use Rattle.pr_decode.specs.declared.reading.Reading.{Reading}
use Rattle.pr_decode.specs.Readings.{greatest, least}
use Rattle.pr_report.specs.declared.detail.Bounds.{Bounds}
use Rattle.pr_report.specs.declared.interval.Interval.{Interval}
use Rattle.pr_report.specs.declared.tally.Tally.{Tally}
use Rattle.pr_report.specs.Intervals.{is_beyond, is_outside, length_of, lowest_of, name_of}
use Rattle.pr_report.specs.Steps.{Adds, counted, counter_with, first_half, known_text, least_with}
use Rattle.pr_report.specs.Summary.{figures_text, interval_line, least_of, lengths, lengths_text, middle, exact_below, exact_middle}
use Rattle.pr_report.specs.Taking.{HasTallied, Tallies, equal_to, greatest_of}
use Rattle.pr_report.proofs.Middle.{half-found, told_below}
use Rattle.pr_report.proofs.Sums.{below, counted-more, equal_to-few, equal_to-push, none-below, one-longer}

-- the least and the greatest with one length more
least-push : (n : ℕ) (ns : List ℕ) (m : ℕ) → least n (ns ++ m ∷ []) ≡ min (least n ns) m
least-push n [] m = refl
least-push n (k ∷ ks) m = least-push (min n k) ks m

greatest-push : (n : ℕ) (ns : List ℕ) (m : ℕ) → greatest n (ns ++ m ∷ []) ≡ max (greatest n ns) m
greatest-push n [] m = refl
greatest-push n (k ∷ ks) m = greatest-push (max n k) ks m

some-length : {X : Type 0} (x : X) (xs : List X) → (length (x ∷ xs) == 0) ≡ false
some-length x xs = grind (arith, nat_tests)

least_of-push : (ns : List ℕ) (m : ℕ) → least_of (ns ++ m ∷ []) ≡ least_with (length ns) (least_of ns) m
least_of-push [] m = refl
least_of-push (n ∷ ns) m = least-push n ns m ∙ ap (λ b. if b then m else min (least n ns) m) (sym (some-length n ns))

greatest_of-push : (ns : List ℕ) (m : ℕ) → greatest_of (ns ++ m ∷ []) ≡ max (greatest_of ns) m
greatest_of-push [] m = omega arith
greatest_of-push (n ∷ ns) m = greatest-push n ns m

-- the counter of k with a length more
counter-more : (n k e : ℕ) → e + 1 < 2 ^ 64 → counter_with n k e ≡ e + cond (n == k) 1 0
counter-more n k e small = grind (arith, nat_tests)

counters-more : (ns : List ℕ) (n k : ℕ) → length ns + 1 < 2 ^ 64 → counter_with n k (equal_to k ns) ≡ equal_to k (ns ++ n ∷ [])
counters-more ns n k few =
    let le : equal_to k ns ≤ length ns = equal_to-few k ns in
    counter-more n k (equal_to k ns) (omega arith) ∙ sym (equal_to-push k ns n)

pub more-tallied : (b : Bounds) (i : Interval) (ns : List ℕ) (n : ℕ) (old new : Tally) → length ns + 1 < 2 ^ 64 → HasTallied b i ns old → Adds n old new
    → HasTallied b i (ns ++ n ∷ []) new
more-tallied b i ns n old new few h a =
    let longer : length (ns ++ n ∷ []) ≡ length ns + 1 = one-longer ns n in
    let was : old.count ≡ length ns = h.count in
    let now : new.count ≡ min (old.count + 1) (2 ^ 64 - 1) = a.count in
    record {
      interval = a.interval ∙ h.interval;
      bounds = a.bounds ∙ h.bounds;
      lowest = a.lowest ∙ h.lowest;
      highest = a.highest ∙ h.highest;
      count = omega arith;
      least = a.least ∙ (ap (λ c. least_with c old.least n) h.count ∙ (ap (λ m. least_with (length ns) m n) h.least ∙ sym (least_of-push ns n)));
      greatest = a.greatest ∙ (ap (λ m. max m n) h.greatest ∙ sym (greatest_of-push ns n));
      outside = counted-more (is_outside b i) ns n old.outside new.outside few h.outside
          (a.outside ∙ (ap (λ l. counted (is_beyond n l old.highest) old.outside) h.lowest ∙ ap (λ g. counted (is_beyond n (lowest_of b i) g) old.outside) h.highest));
      room = a.room ∙ h.room;
      counters = λ k less.
          let within : k < length old.counters.items = subst (λ m. k < m) (sym h.room) less in
          a.counters k within ∙ (ap (counter_with n k) (h.counters k less) ∙ counters-more ns n k few);
    }

-- the lengths of one reading more
lengths-push : (i : Interval) (rs : List Reading) (r : Reading) → lengths i (rs ++ r ∷ []) ≡ lengths i rs ++ option_to_list (length_of i r)
lengths-push i [] r = append-nil (option_to_list (length_of i r))
lengths-push i (s ∷ rs) r =
    ap (λ ns. option_to_list (length_of i s) ++ ns) (lengths-push i rs r)
    ∙ sym (append_assoc (option_to_list (length_of i s)) (lengths i rs) (option_to_list (length_of i r)))

at-most-one : (o : Option ℕ) (ns : List ℕ) → length (option_to_list o ++ ns) ≤ length ns + 1
at-most-one None ns = omega arith
at-most-one (Some n) ns = omega arith

lengths-few : (i : Interval) (rs : List Reading) → length (lengths i rs) ≤ length rs
lengths-few i [] = omega arith
lengths-few i (r ∷ rs) =
    let rest : length (lengths i rs) ≤ length rs = lengths-few i rs in
    let here : length (option_to_list (length_of i r) ++ lengths i rs) ≤ length (lengths i rs) + 1 = at-most-one (length_of i r) (lengths i rs) in
    omega arith

pub tallied-none : (b : Bounds) (i : Interval) (rs : List Reading) (r : Reading) (t : Tally) → length_of t.interval r ≡ None → Tallies b i rs t
    → Tallies b i (rs ++ r ∷ []) t
tallied-none b i rs r t none h =
    let here : length_of i r ≡ None = ap (λ j. length_of j r) (sym h.interval) ∙ none in
    let same : lengths i (rs ++ r ∷ []) ≡ lengths i rs =
    lengths-push i rs r ∙ (ap (λ o. lengths i rs ++ option_to_list o) here ∙ append-nil (lengths i rs)) in
    subst (λ ns. HasTallied b i ns t) (sym same) h

pub tallied-more : (b : Bounds) (i : Interval) (rs : List Reading) (r : Reading) (n : ℕ) (old new : Tally) → length rs + 1 < 2 ^ 64
    → length_of old.interval r ≡ Some n → Adds n old new → Tallies b i rs old → Tallies b i (rs ++ r ∷ []) new
tallied-more b i rs r n old new few some a h =
    let here : length_of i r ≡ Some n = ap (λ j. length_of j r) (sym h.interval) ∙ some in
    let same : lengths i (rs ++ r ∷ []) ≡ lengths i rs ++ n ∷ [] =
    lengths-push i rs r ∙ ap (λ o. lengths i rs ++ option_to_list o) here in
    let le : length (lengths i rs) ≤ length rs = lengths-few i rs in
    subst (λ ns. HasTallied b i ns new) (sym same) (more-tallied b i (lengths i rs) n old new (omega arith) h a)

from-zero : (n : ℕ) → 0 + n ≡ n
from-zero n = omega arith

-- what a tally says is what its lengths say
middle-told : (b : Bounds) (i : Interval) (ns : List ℕ) (t : Tally) → length ns < 2 ^ 64 → 0 < length ns → HasTallied b i ns t
    → first_half t.count 0 0 t.counters.items ≡ exact_middle (middle ns)
middle-told b i ns t small some h =
    let none : below 0 ns ≡ 0 = none-below ns in
    let start : 0 ≡ below 0 ns = sym none in
    let few : 2 * below 0 ns < length ns = omega arith in
    let each : (k : ℕ) → k < length t.counters.items → get_or t.counters.items k 0 ≡ equal_to (0 + k) ns =
    λ k less. h.counters k (subst (λ m. k < m) h.room less) ∙ ap (λ m. equal_to m ns) (sym (from-zero k)) in
    let room : 0 + length t.counters.items ≡ exact_below = from-zero (length t.counters.items) ∙ h.room in
    ap (λ c. first_half c 0 0 t.counters.items) h.count
    ∙ (half-found ns t.counters.items 0 0 small start few each ∙ ap (λ m. told_below m (middle ns)) room)

figures-same : (s t : Bounds) (i j : Interval) (a b c d : ℕ) (o p : Option ℕ) (e f g h : ℕ) → s ≡ t → i ≡ j → a ≡ b → c ≡ d → o ≡ p → e ≡ f → g ≡ h
    → figures_text s i a c o e g ≡ figures_text t j b d p f h
figures-same s t i j a b c d o p e f g h at_s at_i at_a at_c at_o at_e at_g =
    ap (λ x. figures_text x i a c o e g) at_s
    ∙ (ap (λ x. figures_text t x a c o e g) at_i
    ∙ (ap (λ x. figures_text t j x c o e g) at_a
    ∙ (ap (λ x. figures_text t j b x o e g) at_c
    ∙ (ap (λ x. figures_text t j b d x e g) at_o ∙ (ap (λ x. figures_text t j b d p x g) at_e ∙ ap (λ x. figures_text t j b d p f x) at_g)))))

-- a text by a count that is 0, or is not
abbrev text_of : (count : ℕ) → List ℕ → List ℕ
text_of count told = if count == 0 then codes ": none" else told

known-told : (b : Bounds) (i : Interval) (ns : List ℕ) (t : Tally) → length ns < 2 ^ 64 → HasTallied b i ns t → known_text t ≡ lengths_text b i ns
known-told b i [] t small h =
    ap (λ c. text_of c (figures_text t.bounds t.interval t.count t.least (first_half t.count 0 0 t.counters.items) t.greatest t.outside)) h.count
known-told b i (n ∷ ns) t small h =
    let told : List ℕ = figures_text t.bounds t.interval t.count t.least (first_half t.count 0 0 t.counters.items) t.greatest t.outside in
    let some : (t.count == 0) ≡ false = ap (λ c. c == 0) h.count ∙ some-length n ns in
    ap (λ b. if b then codes ": none" else told) some
    ∙ figures-same t.bounds b t.interval i t.count (length (n ∷ ns)) t.least (least n ns) (first_half t.count 0 0 t.counters.items)
    (exact_middle (middle (n ∷ ns))) t.greatest (greatest n ns) t.outside (count_by (is_outside b i) (n ∷ ns)) h.bounds h.interval h.count h.least
    (middle-told b i (n ∷ ns) t small (omega arith) h) h.greatest h.outside

-- the line of a tally: its name, what it says, and the end
pub line-told : (b : Bounds) (i : Interval) (rs : List Reading) (t : Tally) (t0 t1 t2 t3 name : List ℕ) → length rs < 2 ^ 64 → Tallies b i rs t
    → name ≡ name_of t.interval → t1 ≡ t0 ++ name → t2 ≡ t1 ++ known_text t → t3 ≡ t2 ++ codes "\n" → t3 ≡ t0 ++ interval_line b i rs
line-told b i rs t t0 t1 t2 t3 name small h named e1 e2 e3 =
    let le : length (lengths i rs) ≤ length rs = lengths-few i rs in
    let told : List ℕ = lengths_text b i (lengths i rs) in
    let known : known_text t ≡ told = known-told b i (lengths i rs) t (omega arith) h in
    let is_name : name ≡ name_of i = named ∙ ap name_of h.interval in
    let first : t1 ≡ t0 ++ name_of i = e1 ∙ ap (λ (z : List ℕ). t0 ++ z) is_name in
    let second : t2 ≡ t0 ++ (name_of i ++ told) =
    e2 ∙ (ap (λ (z : List ℕ). z ++ known_text t) first
    ∙ (ap (λ (z : List ℕ). t0 ++ name_of i ++ z) known ∙ append_assoc t0 (name_of i) told)) in
    e3 ∙ (ap (λ (z : List ℕ). z ++ codes "\n") second ∙ append_assoc t0 (name_of i ++ told) (codes "\n"))
