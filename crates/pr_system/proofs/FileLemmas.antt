-- The files that are not on a device.
use Rattle.std.proofs.Common.{◌≡◌, ℕ, Bool, true, false, not, cond, ◌==◌, Some, None, [], ◌∷◌, ◌++◌, filter, refl, sym, ap, ◌∙◌, append-nil}
use Rattle.std.proofs.lemmas.List.Elements.{filter-append}
use Rattle.std.proofs.lemmas.Bool.{eqb-true}
use Rattle.pr_channels.specs.declared.file.File.{File}
use Rattle.pr_channels.specs.Files.{Files, file_at, without_file}
use Rattle.pr_channels.specs.Table.{IsOnce}
use Rattle.pr_system.specs.Without.{is_on}

-- the files that are not on the device
abbrev pub rest_of : ℕ → Files → Files
rest_of device files = filter (λ file. not (file.device == device)) files

-- a number that is not on the device names the same file among the rest, with one file more
rest_at_cons : (e n : ℕ) (x : File) (xs : Files) (a b : Bool) → (x.number == n) ≡ a → (x.device == e) ≡ b
    → is_on e (file_at (x ∷ xs) n) ≡ false → (is_on e (file_at xs n) ≡ false → file_at (rest_of e xs) n ≡ file_at xs n)
    → file_at (rest_of e (x ∷ xs)) n ≡ file_at (x ∷ xs) n
rest_at_cons e n x xs true true na nb off ih =
    let on : (x.device == e) ≡ false = ap (λ t. is_on e (cond t (Some x) (file_at xs n))) (sym na) ∙ off in
    let clash : true ≡ false = sym nb ∙ on in
    absurd (cc clash)
rest_at_cons e n x xs true false na nb off ih = simp (na, nb)
rest_at_cons e n x xs false true na nb off ih =
    let later = ap (λ t. is_on e (cond t (Some x) (file_at xs n))) (sym na) ∙ off in
    simp (na, nb) (ih later)
rest_at_cons e n x xs false false na nb off ih =
    let later = ap (λ t. is_on e (cond t (Some x) (file_at xs n))) (sym na) ∙ off in
    simp (na, nb) (ih later)

-- a number that is not on the device names the same file among the rest
pub rest_at : (e n : ℕ) (files : Files) → is_on e (file_at files n) ≡ false → file_at (rest_of e files) n ≡ file_at files n
rest_at e n [] off = refl
rest_at e n (x ∷ xs) off = rest_at_cons e n x xs (x.number == n) (x.device == e) refl refl off (rest_at e n xs)

-- two filters in either order, with one file more
filters_cons : (p q : File → Bool) (x : File) (xs : Files) (a b : Bool) → p x ≡ a → q x ≡ b → filter p (filter q xs) ≡ filter q (filter p xs) → filter p (filter q (x ∷ xs)) ≡ filter q (filter p (x ∷ xs))
filters_cons p q x xs true true na nb ih = simp (na, nb) (ap (λ ys. x ∷ ys) ih)
filters_cons p q x xs true false na nb ih = simp (na, nb) ih
filters_cons p q x xs false true na nb ih = simp (na, nb) ih
filters_cons p q x xs false false na nb ih = simp (na, nb) ih

-- two filters in either order
filters_commute : (p q : File → Bool) (xs : Files) → filter p (filter q xs) ≡ filter q (filter p xs)
filters_commute p q [] = refl
filters_commute p q (x ∷ xs) = filters_cons p q x xs (p x) (q x) refl refl (filters_commute p q xs)

-- closing a file among the rest
pub rest_without : (e n : ℕ) (files : Files) → without_file n (rest_of e files) ≡ rest_of e (without_file n files)
rest_without e n files = filters_commute (λ file. not (file.number == n)) (λ file. not (file.device == e)) files

-- closing a file that is not open, with one file more
absent_cons : (n : ℕ) (x : File) (xs : Files) (a : Bool) → (x.number == n) ≡ a → file_at (x ∷ xs) n ≡ None → (file_at xs n ≡ None → without_file n xs ≡ xs) → without_file n (x ∷ xs) ≡ x ∷ xs
absent_cons n x xs true na none ih =
    let clash : Some x ≡ None = ap (λ t. cond t (Some x) (file_at xs n)) (sym na) ∙ none in
    absurd (cc clash)
absent_cons n x xs false na none ih =
    let later = ap (λ t. cond t (Some x) (file_at xs n)) (sym na) ∙ none in
    simp na (ap (λ ys. x ∷ ys) (ih later))

-- closing a file that is not open
without_absent : (n : ℕ) (files : Files) → file_at files n ≡ None → without_file n files ≡ files
without_absent n [] none = refl
without_absent n (x ∷ xs) none = absent_cons n x xs (x.number == n) refl none (without_absent n xs)

-- a file on the device is not among the rest, with one file more
gone_cons : (e n : ℕ) (x : File) (xs : Files) (a b : Bool) → (x.number == n) ≡ a → (x.device == e) ≡ b → IsOnce (x ∷ xs) → is_on e (file_at (x ∷ xs) n) ≡ true
    → (IsOnce xs → is_on e (file_at xs n) ≡ true → rest_of e (without_file n xs) ≡ rest_of e xs)
    → rest_of e (without_file n (x ∷ xs)) ≡ rest_of e (x ∷ xs)
gone_cons e n x xs true true na nb once on ih =
    let none : file_at xs n ≡ None = ap (file_at xs) (sym (eqb-true x.number n na)) ∙ once.0 in
    simp (na, nb) (ap (rest_of e) (without_absent n xs none))
gone_cons e n x xs true false na nb once on ih =
    let off : (x.device == e) ≡ true = ap (λ t. is_on e (cond t (Some x) (file_at xs n))) (sym na) ∙ on in
    let clash : false ≡ true = sym nb ∙ off in
    absurd (cc clash)
gone_cons e n x xs false true na nb once on ih =
    let later = ap (λ t. is_on e (cond t (Some x) (file_at xs n))) (sym na) ∙ on in
    simp (na, nb) (ih once.1 later)
gone_cons e n x xs false false na nb once on ih =
    let later = ap (λ t. is_on e (cond t (Some x) (file_at xs n))) (sym na) ∙ on in
    simp (na, nb) (ap (λ ys. x ∷ ys) (ih once.1 later))

-- a file on the device is not among the rest
pub rest_gone : (e n : ℕ) (files : Files) → IsOnce files → is_on e (file_at files n) ≡ true → rest_of e (without_file n files) ≡ rest_of e files
rest_gone e n [] once on = refl
rest_gone e n (x ∷ xs) once on = gone_cons e n x xs (x.number == n) (x.device == e) refl refl once on (rest_gone e n xs)

-- one more file on the device
pub rest_push_on : (e : ℕ) (file : File) (files : Files) → (file.device == e) ≡ true → rest_of e (files ++ file ∷ []) ≡ rest_of e files
rest_push_on e file files on = filter-append (λ (f : File). not (f.device == e)) files (file ∷ []) ∙ ap (λ t. rest_of e files ++ cond (not t) (file ∷ []) []) on ∙ append-nil (rest_of e files)

-- one more file that is not on the device
pub rest_push_off : (e : ℕ) (file : File) (files : Files) → (file.device == e) ≡ false → rest_of e (files ++ file ∷ []) ≡ rest_of e files ++ file ∷ []
rest_push_off e file files off = filter-append (λ (f : File). not (f.device == e)) files (file ∷ []) ∙ ap (λ t. rest_of e files ++ cond (not t) (file ∷ []) []) off
