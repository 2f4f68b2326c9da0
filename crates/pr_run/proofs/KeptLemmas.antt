use Rattle.std.proofs.Common.{◌≡◌, ◌⊎◌, inl, inr, ℕ, ◌+◌, ◌<◌, ◌≤◌, Bool, true, false, arith, refl, ap, ◌∙◌, sym}
use Rattle.std.proofs.Common.{leb-true, List, [], ◌∷◌, ◌++◌, length, nat_le, if◌then◌else◌, Option, Some, None, Result}
use Rattle.std.proofs.Common.{Ok, Err, IfOk, ◌-◌, subst}
use Rattle.std.proofs.lemmas.Bool.{cases_Bool}
use Rattle.pr_interpreter.specs.declared.expressions.Placed.{Placed}
use Rattle.pr_interpreter.specs.declared.memory.Array.{Array}
use Rattle.pr_interpreter.specs.declared.memory.Arrays.{Arrays}
use Rattle.pr_interpreter.specs.declared.memory.Variable.{Variable}
use Rattle.pr_interpreter.specs.declared.names.Kind.{Kind}
use Rattle.pr_interpreter.specs.declared.names.Kind.TheVariants.{Number as Numeric, Text as Letters, Whole as Short}
use Rattle.pr_interpreter.specs.declared.names.Name.{Name}
use Rattle.pr_interpreter.specs.declared.statements.Target.{Target}
use Rattle.pr_interpreter.specs.declared.values.Halt.{Halt}
use Rattle.pr_interpreter.specs.declared.values.Stop.{Stop}
use Rattle.pr_interpreter.specs.declared.values.Value.{Value}
use Rattle.pr_interpreter.specs.declared.values.Value.TheVariants.{Number, Text}
use Rattle.pr_interpreter.specs.Evaluation.{Evaluation, evaluation}
use Rattle.pr_interpreter.specs.Memory.{array_of, element_at, place_of, same_name, undimensioned, undimensioned_bytes}
use Rattle.pr_interpreter.specs.Memory.{variable_value, with_array}
use Rattle.pr_interpreter.specs.Numbers.{Known, floor}
use Rattle.pr_run.specs.declared.ending.Ending.TheVariants.{Refused}
use Rattle.pr_run.specs.declared.ending.Refusal.TheVariants.{FullStack}
use Rattle.pr_run.specs.declared.programs.Program.{Program}
use Rattle.pr_run.specs.declared.uses.Use.{Use}
use Rattle.pr_run.specs.Assignments.{assigned, element_in, in_memory, index, indices, is_system, made_array, place_for}
use Rattle.pr_run.specs.Assignments.{place_in, place_or, stored, system_ending, target_place, with_element_of}
use Rattle.pr_run.specs.Assignments.{with_its_array, with_value_at, with_variable}
use Rattle.pr_run.specs.Memory.{bytes_for_arrays, bytes_without_arrays, fits, memory_limit, string_bytes, strings_with}
use Rattle.pr_run.specs.Memory.{element_value, strings_by}
use Rattle.pr_run.specs.States.{State}
use Rattle.pr_run.specs.Uses.{Valued, Worked, and_then, kept, line_at, number_of, number_value, short_of, short_value}
use Rattle.pr_run.specs.Uses.{truth_of, use_at, use_of, used, whole_of}
use Rattle.pr_run.specs.Worked.{each, every, number, scope, then_on, truth, valued, whole, worked, worked_out}
use Rattle.pr_run.proofs.GrownLemmas.{IfMade, StaysTrue, evaluation_stays, made_stays}
use Rattle.pr_run.proofs.HeldLemmas.{added_same, array_parts, count_goes, each_byte, first_even, first_none, in_arrays}
use Rattle.pr_run.proofs.HeldLemmas.{in_variables, odd_byte, variable_parts}

-- ---- what stays true

-- The bytes of strings are counted, names of numbers have none, and the count is in its bound.
pub record Counted (vs : List Variable) (list : List Array) (strings : ℕ) : Type 0 where
  pub all : strings ≡ in_variables each_byte vs + in_arrays each_byte list
  pub kinds : in_variables odd_byte vs + in_arrays odd_byte list ≡ 0
  pub few : strings ≤ 65535

-- there is an array of a name, if one is wanted
abbrev pub Has : Option Name → List Array → Type 0
Has None list = Unit {0}
Has (Some name) list = (a : Array) × (array_of name list ≡ Some a)

-- so of a state
abbrev pub Sound : Option Name → State → Type 0
Sound wanted s = Counted s.variables s.arrays.list s.strings × Has wanted s.arrays.list

-- one more array without elements holds nothing
added_counted : (vs : List Variable) (a : Array) (list : List Array) (strings : ℕ) → a.elements ≡ []
    → Counted vs list strings → Counted vs (list ++ a ∷ []) strings
added_counted vs a list strings e h = record {
  all = h.all ∙ ap (λ (n : ℕ). in_variables each_byte vs + n) (sym (added_same each_byte a list e));
  kinds = ap (λ (n : ℕ). in_variables odd_byte vs + n) (added_same odd_byte a list e) ∙ h.kinds;
  few = h.few;
}

-- the array of a name is still the first one
found_first : (name : Name) (a b : Array) (list : List Array) → array_of name list ≡ Some a
    → array_of name (list ++ b ∷ []) ≡ Some a
found_first name a b [] e = absurd (cc)
found_first name a b (x ∷ xs) e =
    elim (cases_Bool (same_name name x.name)) [
      | inl hit ↦ rw hit (rw hit at e)
      | inr miss ↦ rw miss (found_first name a b xs (rw miss at e))
    ]

added_has : (wanted : Option Name) (b : Array) (list : List Array) → Has wanted list → Has wanted (list ++ b ∷ [])
added_has None b list h = tt
added_has (Some name) b list h = (h.0, found_first name h.0 b list h.1)

-- what is true of a state's arrays
abbrev Rest : Option Name → State → List Array → Type 0
Rest wanted s list = Counted s.variables list s.strings × Has wanted list

rest_stays : (wanted : Option Name) (s : State) → StaysTrue (Rest wanted s)
rest_stays wanted s a list e h =
    (added_counted s.variables a list s.strings e h.0, added_has wanted a list h.1)

-- ---- what is worked out

-- what is true of what is worked out, and leads on
pub on_and : {A B : Type 0} (P : A → Type 0) (R : B → Type 0) (w : Worked A) (more : A → Worked B) → IfOk w P
    → ((a : A) → P a → IfOk (more a) R) → IfOk (and_then w more) R
on_and P R (Ok a) more h next = next a h
on_and P R (Err ending) more h next = tt

pub on_then : {A B : Type 0} (P : Valued A → Type 0) (R : B → Type 0) (w : Worked (Valued A))
    (more : A → State → Worked B) → IfOk w P → ((r : Valued A) → P r → IfOk (more r.value r.after) R)
    → IfOk (then_on w more) R
on_then P R (Ok r) more h next = next r h
on_then P R (Err ending) more h next = tt

pub on_if : {A : Type 0} (P : A → Type 0) (b : Bool) (x y : Worked A) → IfOk x P → IfOk y P
    → IfOk (if b then x else y) P
on_if P true x y hx hy = hx
on_if P false x y hx hy = hy

abbrev pub Anything : {A : Type 0} → A → Type 0
Anything a = Unit {0}

pub on_any : {A : Type 0} (w : Worked A) → IfOk w Anything
on_any (Ok a) = tt
on_any (Err ending) = tt

-- the state after it is sound
abbrev pub After : {A : Type 0} → Option Name → Valued A → Type 0
After wanted r = Sound wanted r.after

-- what is worked out of a value changes no state
pub valued_sound : {A : Type 0} (wanted : Option Name) (s : State) (w : Worked A) → Sound wanted s
    → IfOk (valued s w) (After wanted)
valued_sound wanted s (Ok a) h = h
valued_sound wanted s (Err ending) h = tt

out_sound : (wanted : Option Name) (line : ℕ) (s : State) (arrays : Arrays) (v : Result Value Halt)
    → Rest wanted s arrays.list → IfOk (worked_out line s arrays v) (After wanted)
out_sound wanted line s arrays (Ok v) h = h
out_sound wanted line s arrays (Err halt) h = tt

-- an expression at most makes arrays
pub worked_sound : (wanted : Option Name) (p : Program) (s : State) (nodes : List Placed) → Sound wanted s
    → IfOk (worked p s nodes) (After wanted)
unfolding worked
worked_sound wanted p s nodes h =
    let e : Evaluation = evaluation (scope p s) s.arrays nodes in
    out_sound wanted (line_at p s) s e.arrays e.value
    (evaluation_stays (Rest wanted s) (rest_stays wanted s) (scope p s) s.arrays nodes h)

pub number_sound : (p : Program) (s : State) (nodes : List Placed) → Sound None s
    → IfOk (number p s nodes) (After None)
unfolding number
number_sound p s nodes h =
    on_then (After None) (After None) (worked p s nodes) (λ v t. valued t (used (use_of p t nodes) (number_of v)))
    (worked_sound None p s nodes h)
    (λ r k. valued_sound None r.after (used (use_of p r.after nodes) (number_of r.value)) k)

pub whole_sound : (greatest : ℕ) (p : Program) (s : State) (nodes : List Placed) → Sound None s
    → IfOk (whole greatest p s nodes) (After None)
unfolding whole
whole_sound greatest p s nodes h =
    on_then (After None) (After None) (worked p s nodes)
    (λ v t. valued t (used (use_of p t nodes) (whole_of greatest v))) (worked_sound None p s nodes h)
    (λ r k. valued_sound None r.after (used (use_of p r.after nodes) (whole_of greatest r.value)) k)

pub truth_sound : (p : Program) (s : State) (nodes : List Placed) → Sound None s
    → IfOk (truth p s nodes) (After None)
unfolding truth
truth_sound p s nodes h =
    on_then (After None) (After None) (worked p s nodes) (λ v t. valued t (used (use_of p t nodes) (truth_of v)))
    (worked_sound None p s nodes h)
    (λ r k. valued_sound None r.after (used (use_of p r.after nodes) (truth_of r.value)) k)

pub each_sound : {A : Type 0} (f : State → A → Worked State) (s : State) (xs : List A)
    → ((t : State) (x : A) → Sound None t → IfOk (f t x) (Sound None)) → Sound None s
    → IfOk (each f s xs) (Sound None)
each_sound f s [] one h = h
each_sound f s (x ∷ xs) one h =
    on_and (Sound None) (Sound None) (f s x) (λ t. each f t xs) (one s x h) (λ t k. each_sound f t xs one k)

pub every_sound : {A B : Type 0} (f : State → A → Worked (Valued B)) (found : List B) (s : State) (xs : List A)
    → ((t : State) (x : A) → Sound None t → IfOk (f t x) (After None)) → Sound None s
    → IfOk (every f found s xs) (After None)
every_sound f found s [] one h = h
every_sound f found s (x ∷ xs) one h =
    on_then (After None) (After None) (f s x) (λ b t. every f (found ++ b ∷ []) t xs) (one s x h)
    (λ r k. every_sound f (found ++ r.value ∷ []) r.after xs one k)

-- ---- elements of arrays

index_sound : (p : Program) (u : Use) (s : State) (nodes : List Placed) → Sound None s
    → IfOk (index p u s nodes) (After None)
unfolding index
index_sound p u s nodes h =
    on_then (After None) (After None) (worked p s nodes) (λ v t. valued t (used u (whole_of 32767 v)))
    (worked_sound None p s nodes h) (λ r k. valued_sound None r.after (used u (whole_of 32767 r.value)) k)

pub indices_sound : (p : Program) (u : Use) (s : State) (is : List (List Placed)) → Sound None s
    → IfOk (indices p u s is) (After None)
unfolding indices
indices_sound p u s is h =
    on_if (After None) (nat_le (length is) 5) (every (index p u) [] s is) (Err (Refused FullStack u.place))
    (every_sound (index p u) [] s is (λ t x k. index_sound p u t x k) h) tt

pub made_sound : (u : Use) (s : State) (made : Option Arrays) → Sound None s → IfMade (Rest None s) made
    → IfOk (made_array u s made) (Sound None)
made_sound u s None h made = tt
made_sound u s (Some arrays) h made = made

-- one more array without elements
pub array_sound : (u : Use) (s : State) (room : ℕ) (a : Array) (bytes : ℕ) → a.elements ≡ [] → Sound None s
    → IfOk (made_array u s (with_array room a bytes s.arrays)) (Sound None)
array_sound u s room a bytes e h =
    made_sound u s (with_array room a bytes s.arrays) h
    (made_stays (Rest None s) (rest_stays None s) room a bytes s.arrays e h)

its_array_sound : (p : Program) (u : Use) (s : State) (name : Name) (count : ℕ) (found : Option Array)
    → Sound None s → IfOk (with_its_array p u s name count found) (Sound None)
its_array_sound p u s name count None h =
    array_sound u s (bytes_for_arrays p s) (undimensioned name count) (undimensioned_bytes name.kind count) refl h
its_array_sound p u s name count (Some a) h = h

-- the name of an array that a place wants
abbrev pub wanted_by : Name → Option ℕ → Option Name
wanted_by name None = None
wanted_by name (Some n) = Some name

-- the array of a place is there
abbrev pub HasPlace : Name → Valued (Option ℕ) → Type 0
HasPlace name r = Sound (wanted_by name r.value) r.after

or_sound : (name : Name) (u : Use) (s : State) (place : Option ℕ) → Sound (Some name) s
    → IfOk (place_or u s place) (HasPlace name)
or_sound name u s None h = tt
or_sound name u s (Some n) h = h

in_sound : (name : Name) (u : Use) (s : State) (is : List ℕ) (found : Option Array)
    → array_of name s.arrays.list ≡ found → Sound None s → IfOk (place_in u s is found) (HasPlace name)
in_sound name u s is None e h = tt
in_sound name u s is (Some a) e h = or_sound name u s (place_of 0 a.bounds is) (h.0, (a, e))

element_sound : (p : Program) (u : Use) (s : State) (name : Name) (is : List ℕ) → Sound None s
    → IfOk (element_in p u s name is) (HasPlace name)
unfolding element_in
element_sound p u s name is h =
    on_and (Sound None) (HasPlace name) (with_its_array p u s name (length is) (array_of name s.arrays.list))
    (λ t. place_in u t is (array_of name t.arrays.list))
    (its_array_sound p u s name (length is) (array_of name s.arrays.list) h)
    (λ t k. in_sound name u t is (array_of name t.arrays.list) refl k)

place_sound : (p : Program) (s : State) (t : Target) (is : List (List Placed)) → Sound None s
    → IfOk (place_for p s t is) (HasPlace t.name)
place_sound p s t [] h = h
place_sound p s t (i ∷ is) h =
    let u = use_at p s t.place in
    on_then (After None) (HasPlace t.name) (indices p u s (i ∷ is)) (λ found r. element_in p u r t.name found)
    (indices_sound p u s (i ∷ is) h) (λ r k. element_sound p u r.after t.name r.value k)

pub target_sound : (p : Program) (s : State) (t : Target) → Sound None s
    → IfOk (target_place p s t) (HasPlace t.name)
unfolding target_place
target_sound p s t h =
    on_if (HasPlace t.name) (is_system t.name t.indices) (Err (system_ending (use_at p s t.place) t.name.kind))
    (place_for p s t t.indices) tt (place_sound p s t t.indices h)

-- ---- what is kept

-- there is memory for a state's strings
strings_fit : (p : Program) (s : State) → fits p s ≡ true → s.strings < 65535
unfolding bytes_without_arrays
strings_fit p s e =
    let within : bytes_without_arrays p s + s.arrays.bytes ≤ memory_limit = leb-true _ _ e in omega arith

stored_fits : (p : Program) (name : Name) (at : Option ℕ) (v : Value) (s : State) → fits p (stored name at v s) ≡ true
    → strings_with name at v s < 65535
stored_fits p name None v s e = strings_fit p (stored name None v s) e
stored_fits p name (Some n) v s e = strings_fit p (stored name (Some n) v s) e

-- a value that is a number, or that there is memory for
abbrev Room : ℕ → Value → Type 0
Room strings v = (strings < 65535) ⊎ (string_bytes v ≡ 0)

abbrev counted_on : Name → Value → Value → ℕ → ℕ
counted_on name old v strings = strings_by name.kind strings (strings - string_bytes old + string_bytes v)

-- a variable has another value
variable_stored : (name : Name) (v : Value) (vs : List Variable) (list : List Array) (strings : ℕ)
    → Counted vs list strings → odd_byte name.kind v ≡ 0 → Room (counted_on name (variable_value name vs) v strings) v
    → Counted (with_variable name v vs) list (counted_on name (variable_value name vs) v strings)
variable_stored name v vs list strings h kind room =
    let all = variable_parts each_byte first_none name v vs in
    let odds = variable_parts odd_byte first_even name v vs in
    let more = in_arrays each_byte list in
    let odd_more = in_arrays odd_byte list in
    let r = count_goes name.kind (variable_value name vs) v strings (in_variables each_byte vs + more)
    (in_variables each_byte (with_variable name v vs) + more) (in_variables odd_byte vs + odd_more)
    (in_variables odd_byte (with_variable name v vs) + odd_more)
    (all.0 + more, omega (arith, all.1), omega (arith, all.2))
    (odds.0 + odd_more, omega (arith, odds.1), omega (arith, odds.2)) h.all h.kinds h.few kind room in
    record { all = r.0; kinds = r.1; few = r.2 }

-- an element has another value
element_stored : (name : Name) (n : ℕ) (v : Value) (vs : List Variable) (list : List Array) (strings : ℕ) (a : Array)
    → array_of name list ≡ Some a → Counted vs list strings → odd_byte name.kind v ≡ 0
    → Room (counted_on name (element_at a n) v strings) v
    → Counted vs (with_element_of name n v (Some a) list) (counted_on name (element_at a n) v strings)
element_stored name n v vs list strings a e h kind room =
    let all = array_parts each_byte first_none name n v a list e in
    let odds = array_parts odd_byte first_even name n v a list e in
    let put = with_element_of name n v (Some a) list in
    let more = in_variables each_byte vs in
    let odd_more = in_variables odd_byte vs in
    let r = count_goes name.kind (element_at a n) v strings (more + in_arrays each_byte list)
    (more + in_arrays each_byte put) (odd_more + in_arrays odd_byte list) (odd_more + in_arrays odd_byte put)
    (all.0 + more, omega (arith, all.1), omega (arith, all.2))
    (odds.0 + odd_more, omega (arith, odds.1), omega (arith, odds.2)) h.all h.kinds h.few kind room in
    record { all = r.0; kinds = r.1; few = r.2 }

-- an array of a name, or none, has another element
abbrev StoresIn : Name → ℕ → Value → State → Option Array → Type 0
StoresIn name n v s found = Room (counted_on name (element_value name n found) v s.strings) v
    → Counted s.variables (with_element_of name n v found s.arrays.list)
    (counted_on name (element_value name n found) v s.strings)

-- a value is kept
pub stored_sound : (name : Name) (at : Option ℕ) (v : Value) (s : State) → Sound (wanted_by name at) s
    → odd_byte name.kind v ≡ 0 → Room (strings_with name at v s) v → Sound None (stored name at v s)
unfolding with_value_at
stored_sound name None v s h kind room =
    (variable_stored name v s.variables s.arrays.list s.strings h.0 kind room, tt)
stored_sound name (Some n) v s h kind room =
    let stores = subst (λ (found : Option Array). StoresIn name n v s found) (sym h.1.1)
    (element_stored name n v s.variables s.arrays.list s.strings h.1.0 h.1.1 h.0 kind) in
    (stores room, tt)

-- what is kept under a name of numbers is a number
pub number_even : (k : Kind) (n : Known) → odd_byte k (Number n) ≡ 0
number_even Numeric n = refl
number_even Short n = refl
number_even Letters n = refl

short_even : (u : Use) (r : Result Known Stop) → IfOk (used u (number_value r)) (λ v. odd_byte Short v ≡ 0)
short_even u (Ok n) = refl
short_even u (Err stop) = tt

kept_even : (u : Use) (k : Kind) (v : Value) → IfOk (used u (kept k v)) (λ w. odd_byte k w ≡ 0)
unfolding kept short_value
kept_even u Numeric (Number n) = refl
kept_even u Short (Number n) = short_even u (short_of n (floor n))
kept_even u Letters (Text t) = refl
kept_even u Numeric (Text t) = tt
kept_even u Short (Text t) = tt
kept_even u Letters (Number n) = tt

-- the run goes on only where there is memory
pub memory_sound : (p : Program) (u : Use) (s : State) → (fits p s ≡ true → Sound None s)
    → IfOk (in_memory p u s) (Sound None)
memory_sound p u s h =
    elim (cases_Bool (fits p s)) [
      | inl hit ↦ rw hit (h hit)
      | inr miss ↦ rw miss tt
    ]

-- a value is assigned
pub assigned_sound : (p : Program) (u : Use) (name : Name) (at : Option ℕ) (v : Value) (s : State)
    → Sound (wanted_by name at) s → IfOk (assigned p u name at v s) (Sound None)
assigned_sound p u name at v s h =
    on_and (λ w. odd_byte name.kind w ≡ 0) (Sound None) (used u (kept name.kind v))
    (λ w. in_memory p u (stored name at w s)) (kept_even u name.kind v)
    (λ w kind. memory_sound p u (stored name at w s)
    (λ room. stored_sound name at w s h kind (inl (stored_fits p name at w s room))))
