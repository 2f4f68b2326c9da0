use Rattle.std.proofs.Common.{◌≡◌, ◌⊎◌, inl, inr, ℕ, ◌+◌, ◌-◌, ◌*◌, ◌<◌, ◌≤◌, true, arith, refl, sym, ap, ◌∙◌, subst}
use Rattle.std.proofs.Common.{List, [], ◌∷◌, ◌++◌, length, replicate, get_or, sum_by, Some}
use Rattle.std.proofs.lemmas.Bool.{and_parts, cases_Bool}
use Rattle.std.proofs.lemmas.List.{get_or-append_right, get_or-replicate, get_or_append_left, get_or_past}
use Rattle.std.proofs.lemmas.List.{length-append, length-replicate}
use Rattle.std.proofs.lemmas.List.Folds.{sum_by-replicate}
use Rattle.std.proofs.lemmas.List.Sums.{get_or-le-sum_by, sum_by-append, sum_by-cons, sum_by-set, sum_by_push}
use Rattle.pr_interpreter.specs.declared.memory.Array.{Array}
use Rattle.pr_interpreter.specs.declared.memory.Variable.{Variable}
use Rattle.pr_interpreter.specs.declared.names.Kind.{Kind}
use Rattle.pr_interpreter.specs.declared.names.Kind.TheVariants.{Number as Numeric, Text as Letters, Whole as Short}
use Rattle.pr_interpreter.specs.declared.names.Name.{Name}
use Rattle.pr_interpreter.specs.declared.values.Value.{Value}
use Rattle.pr_interpreter.specs.Memory.{array_of, element_at, first_value, same_kind, same_name, variable_value}
use Rattle.pr_run.specs.Assignments.{array_with, declared, replaced, with_element, with_variable}
use Rattle.pr_run.specs.Memory.{string_bytes, strings_by}
use Rattle.pr_run.proofs.ArrayLemmas.{an_array}

-- ---- elements

-- first values have no bytes
fresh : (f : Value → ℕ) (first : Value) (n : ℕ) → f first ≡ 0 → sum_by f (replicate n first) ≡ 0
fresh f first n none =
    let product : n * f first ≡ n * 0 = ap (λ (k : ℕ). n * k) none in omega (arith, sum_by-replicate f n first, product)

-- elements up to a place
abbrev filled : Value → ℕ → List Value → List Value
filled first n es = es ++ replicate (n + 1 - length es) first

-- the place is among them
filled_size : (first : Value) (n : ℕ) (es : List Value) → n < length (filled first n es)
filled_size first n es =
    let all = length-append es (replicate (n + 1 - length es) first) in
    let more = length-replicate (n + 1 - length es) first in omega arith

-- and has the same value
filled_at : (first : Value) (n : ℕ) (es : List Value) → get_or (filled first n es) n first ≡ get_or es n first
filled_at first n es = go (within_or_past n (length es))
  where
    within_or_past : (i k : ℕ) → (i < k) ⊎ (k ≤ i)
    within_or_past i k = grind arith

    go : (n < length es) ⊎ (length es ≤ n) → get_or (filled first n es) n first ≡ get_or es n first
    go (inl within) = get_or_append_left es (replicate (n + 1 - length es) first) first n within
    go (inr past) =
        let less : n - length es < n + 1 - length es = omega arith in
        get_or-append_right es (replicate (n + 1 - length es) first) (length es) n first refl past
        ∙ (get_or-replicate (n + 1 - length es) (n - length es) first first less ∙ sym (get_or_past es n first past))

-- what is held is that of one place and the rest; with another value there the rest is the same
abbrev Parts : ℕ → ℕ → ℕ → ℕ → Type 0
Parts old new before after = (rest : ℕ) × (before ≡ old + rest) × (after ≡ new + rest)

-- an element has another value
element_parts : (f : Value → ℕ) (first v : Value) (n : ℕ) (es : List Value) → f first ≡ 0
    → Parts (f (get_or es n first)) (f v) (sum_by f es) (sum_by f (with_element first n v es))
element_parts f first v n es none =
    let within = filled_size first n es in
    let same : f (get_or (filled first n es) n first) ≡ f (get_or es n first) = ap f (filled_at first n es) in
    let put = sum_by-set f (filled first n es) n v first within in
    let most = get_or-le-sum_by f (filled first n es) n first within in
    let all = sum_by-append f es (replicate (n + 1 - length es) first) in
    let more = fresh f first (n + 1 - length es) none in
    (sum_by f es - f (get_or es n first), omega arith, omega arith)

-- ---- what variables and arrays hold

-- the bytes of values by the kind of their names
abbrev pub in_variables : (Kind → Value → ℕ) → List Variable → ℕ
in_variables g vs = sum_by (λ v. g v.name.kind v.value) vs

abbrev pub in_arrays : (Kind → Value → ℕ) → List Array → ℕ
in_arrays g list = sum_by (λ a. sum_by (g a.name.kind) a.elements) list

-- kinds that are the same are one
kind_is : (a b : Kind) → same_kind a b ≡ true → a ≡ b
kind_is Numeric Numeric e = refl
kind_is Numeric Short e = absurd (cc)
kind_is Numeric Letters e = absurd (cc)
kind_is Short Numeric e = absurd (cc)
kind_is Short Short e = refl
kind_is Short Letters e = absurd (cc)
kind_is Letters Numeric e = absurd (cc)
kind_is Letters Short e = absurd (cc)
kind_is Letters Letters e = refl

-- names that are the same have one kind
name_kind : (a b : Name) → same_name a b ≡ true → a.kind ≡ b.kind
unfolding same_name
name_kind a b e = kind_is a.kind b.kind (and_parts _ _ e).1

module _ (g : Kind → Value → ℕ) (none : (k : Kind) → g k (first_value k) ≡ 0) where
  -- a variable has another value
  pub variable_parts : (name : Name) (v : Value) (vs : List Variable)
      → Parts (g name.kind (variable_value name vs)) (g name.kind v) (in_variables g vs)
      (in_variables g (with_variable name v vs))
  unfolding with_variable
  variable_parts name v [] = let zero_bytes = none name.kind in (0, omega arith, omega arith)
  variable_parts name v (x ∷ xs) =
      let before = sum_by-cons (λ (y : Variable). g y.name.kind y.value) x xs in
      let new : Variable = record { name = name; value = v } in
      elim (cases_Bool (same_name name x.name)) [
        | inl hit ↦
            let kind : g name.kind x.value ≡ g x.name.kind x.value =
            ap (λ (k : Kind). g k x.value) (name_kind name x.name hit) in
            let after = sum_by-cons (λ (y : Variable). g y.name.kind y.value) new xs in
            rw hit (in_variables g xs, before ∙ omega arith, after)
        | inr miss ↦
            let r = variable_parts name v xs in
            let after = sum_by-cons (λ (y : Variable). g y.name.kind y.value) x (with_variable name v xs) in
            let rest = g x.name.kind x.value + r.0 in
            rw miss (rest, before ∙ omega (arith, r.1), after ∙ omega (arith, r.2))
      ]

  -- a variable that comes to be holds nothing
  pub declared_same : (name : Name) (vs : List Variable)
      → in_variables g (declared name vs) ≡ in_variables g vs
  unfolding declared
  declared_same name [] = let zero_bytes = none name.kind in omega arith
  declared_same name (x ∷ xs) =
      let before = sum_by-cons (λ (y : Variable). g y.name.kind y.value) x xs in
      elim (cases_Bool (same_name name x.name)) [
        | inl hit ↦ rw hit refl
        | inr miss ↦
            let after = sum_by-cons (λ (y : Variable). g y.name.kind y.value) x (declared name xs) in
            let more = declared_same name xs in
            rw miss (after ∙ (ap (λ (n : ℕ). g x.name.kind x.value + n) more ∙ sym before))
      ]

  -- the first array of the name has another element
  found_parts : (name : Name) (n : ℕ) (v : Value) (x : Array) (xs : List Array) → same_name name x.name ≡ true
      → Parts (g name.kind (element_at x n)) (g name.kind v) (in_arrays g (x ∷ xs))
      (in_arrays g (array_with n v x ∷ xs))
  found_parts name n v x xs hit =
      let before = sum_by-cons (λ (y : Array). sum_by (g y.name.kind) y.elements) x xs in
      let after = sum_by-cons (λ (y : Array). sum_by (g y.name.kind) y.elements) (array_with n v x) xs in
      let kind = name_kind name x.name hit in
      let old : g name.kind (element_at x n) ≡ g x.name.kind (element_at x n) =
      ap (λ (k : Kind). g k (element_at x n)) kind in
      let new : g name.kind v ≡ g x.name.kind v = ap (λ (k : Kind). g k v) kind in
      let r = element_parts (g x.name.kind) (first_value x.name.kind) v n x.elements (none x.name.kind) in
      (r.0 + in_arrays g xs, before ∙ omega (arith, r.1, old), after ∙ omega (arith, r.2, new))

  -- an element of the array of a name has another value
  pub array_parts : (name : Name) (n : ℕ) (v : Value) (a : Array) (list : List Array) → array_of name list ≡ Some a
      → Parts (g name.kind (element_at a n)) (g name.kind v) (in_arrays g list)
      (in_arrays g (replaced (λ x. same_name name x.name) (array_with n v a) list))
  array_parts name n v a [] e = absurd (cc)
  array_parts name n v a (x ∷ xs) e =
      elim (cases_Bool (same_name name x.name)) [
        | inl hit ↦
            let found : an_array x ≡ an_array a = rw hit at e in
            let same : x ≡ a = cc in
            rw hit (subst (λ (y : Array). Parts (g name.kind (element_at y n)) (g name.kind v)
            (in_arrays g (x ∷ xs)) (in_arrays g (array_with n v y ∷ xs))) same (found_parts name n v x xs hit))
        | inr miss ↦
            let found : array_of name xs ≡ an_array a = rw miss at e in
            let r = array_parts name n v a xs found in
            let put = replaced (λ (y : Array). same_name name y.name) (array_with n v a) xs in
            let before = sum_by-cons (λ (y : Array). sum_by (g y.name.kind) y.elements) x xs in
            let after = sum_by-cons (λ (y : Array). sum_by (g y.name.kind) y.elements) x put in
            let rest = sum_by (g x.name.kind) x.elements + r.0 in
            rw miss (rest, before ∙ omega (arith, r.1), after ∙ omega (arith, r.2))
      ]

-- an array that comes to be holds nothing
pub added_same : (g : Kind → Value → ℕ) (a : Array) (list : List Array) → a.elements ≡ []
    → in_arrays g (list ++ a ∷ []) ≡ in_arrays g list
added_same g a list e =
    let all = sum_by_push (λ (y : Array). sum_by (g y.name.kind) y.elements) list a in
    let zero_bytes : sum_by (g a.name.kind) a.elements ≡ 0 = ap (λ (es : List Value). sum_by (g a.name.kind) es) e in
    omega arith

-- ---- counting

-- the bytes of a value, and those of a string under a name of numbers
abbrev pub each_byte : Kind → Value → ℕ
each_byte k v = string_bytes v

abbrev pub odd_byte : Kind → Value → ℕ
odd_byte Letters v = 0
odd_byte Numeric v = string_bytes v
odd_byte Short v = string_bytes v

-- first values have neither
pub first_none : (k : Kind) → each_byte k (first_value k) ≡ 0
first_none Numeric = refl
first_none Short = refl
first_none Letters = refl

pub first_even : (k : Kind) → odd_byte k (first_value k) ≡ 0
first_even Numeric = refl
first_even Short = refl
first_even Letters = refl

-- the count goes with what is held: there is memory for it, or the new value is a number
pub count_goes : (k : Kind) (old new : Value) (strings held now odd odd_now : ℕ)
    → Parts (string_bytes old) (string_bytes new) held now → Parts (odd_byte k old) (odd_byte k new) odd odd_now
    → strings ≡ held → odd ≡ 0 → strings ≤ 65535 → odd_byte k new ≡ 0
    → (strings_by k strings (strings - string_bytes old + string_bytes new) < 65535) ⊎ (string_bytes new ≡ 0)
    → let after = strings_by k strings (strings - string_bytes old + string_bytes new) in
    (after ≡ now) × (odd_now ≡ 0) × (after ≤ 65535)
count_goes Letters old new strings held now odd odd_now all odds is none few kind (inl room) =
    (omega (arith, all.1, all.2), omega (arith, odds.1, odds.2), omega arith)
count_goes Letters old new strings held now odd odd_now all odds is none few kind (inr number) =
    (omega (arith, all.1, all.2), omega (arith, odds.1, odds.2), omega arith)
count_goes Numeric old new strings held now odd odd_now all odds is none few kind room =
    (omega (arith, all.1, all.2, odds.1), omega (arith, odds.1, odds.2), few)
count_goes Short old new strings held now odd odd_now all odds is none few kind room =
    (omega (arith, all.1, all.2, odds.1), omega (arith, odds.1, odds.2), few)
