use Rattle.std.proofs.Common.{◌≡◌, ℕ, suc, ◌+◌, ◌<◌, ◌≤◌, List, [], ◌∷◌, length, get_or, set, Option, Some, None, arith}
use Rattle.std.proofs.Common.{refl, sym, ap, inl, inr, ◌∙◌}
use Rattle.std.proofs.lemmas.Bool.{cases_Bool}
use Rattle.std.specs.List.{position_or_len}
use Rattle.pr_interpreter.specs.declared.memory.Array.{Array}
use Rattle.pr_interpreter.specs.declared.names.Name.{Name}
use Rattle.pr_interpreter.specs.declared.values.Value.{Value}
use Rattle.pr_interpreter.specs.Memory.{array_of, same_name}
use Rattle.pr_run.specs.Assignments.{array_with, with_element_of}
use Rattle.pr_run.proofs.ReplacedLemmas.{replaced_at}

abbrev pub an_array : Array → Option Array
an_array a = Some a

abbrev pub no_array : Option Array
no_array = None

-- how many arrays come before the one of a name
abbrev pub array_index : Name → List Array → ℕ
array_index name xs = position_or_len (λ x. same_name name x.name) xs

-- there is an array of a name
pub array_at : (name : Name) (xs : List Array) (d : Array) → array_index name xs < length xs
    → array_of name xs ≡ an_array (get_or xs (array_index name xs) d)
array_at name [] d h = absurd (omega arith)
array_at name (x ∷ xs) d h =
    elim (cases_Bool (same_name name x.name)) [
      | inl hit ↦ rw hit refl
      | inr miss ↦
          let within = rw miss at h in
          let less : array_index name xs < length xs = omega arith in
          let next : 1 + array_index name xs ≡ suc (array_index name xs) = omega arith in
          rw (miss, next) (array_at name xs d less)
    ]

-- there is none
pub array_none : (name : Name) (xs : List Array) → length xs ≤ array_index name xs → array_of name xs ≡ no_array
array_none name [] h = refl
array_none name (x ∷ xs) h =
    elim (cases_Bool (same_name name x.name)) [
      | inl hit ↦ let none = rw hit at h in absurd (omega arith)
      | inr miss ↦
          let beyond = rw miss at h in
          let all : length xs ≤ array_index name xs = omega arith in
          rw miss (array_none name xs all)
    ]

-- an element of an array has a value
pub set_found : (name : Name) (n : ℕ) (v : Value) (xs : List Array) (index : ℕ) (x new : Array)
    → index ≡ array_index name xs → index < length xs → x ≡ get_or xs index x → new ≡ array_with n v x
    → set xs index new ≡ with_element_of name n v (array_of name xs) xs
set_found name n v xs index x new place h is e =
    let within : array_index name xs < length xs = omega arith in
    let same : get_or xs (array_index name xs) x ≡ x = ap (λ (k : ℕ). get_or xs k x) (sym place) ∙ sym is in
    let there : array_of name xs ≡ an_array x = array_at name xs x within ∙ ap (λ (a : Array). an_array a) same in
    let put = replaced_at (λ (a : Array). same_name name a.name) (array_with n v x) xs within in
    rw (there, e, place) (sym put)

-- there is no such array
pub set_nowhere : (name : Name) (n : ℕ) (v : Value) (xs : List Array) → length xs ≤ array_index name xs
    → xs ≡ with_element_of name n v (array_of name xs) xs
set_nowhere name n v xs h = let none = array_none name xs h in rw none refl
