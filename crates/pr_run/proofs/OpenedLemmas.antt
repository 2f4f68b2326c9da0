use Rattle.std.proofs.Common.{◌≡◌, ℕ, ◌+◌, ◌-◌, ◌<◌, ◌≤◌, true, false, nat_le, List, [], ◌∷◌, ◌++◌, length, take, drop}
use Rattle.std.proofs.Common.{reverse, get_or, Option, Some, None, arith, refl, sym, ap, add-one, drop-cons}
use Rattle.std.proofs.Math.Seq.{take-suc}
use Rattle.std.proofs.lemmas.List.{drop_all, reverse-append}
use Rattle.std.proofs.lemmas.Bool.{lt-leb}
use Rattle.pr_interpreter.specs.declared.names.Name.{Name}
use Rattle.pr_run.specs.declared.opened.Loop.{Loop}
use Rattle.pr_run.specs.declared.opened.Open.{Open}
use Rattle.pr_run.specs.declared.opened.Open.TheVariants.{Calling, Looping}
use Rattle.pr_run.specs.declared.place.Place.{Place}
use Rattle.pr_run.specs.Opened.{Caller, Inner, caller_of, is_wanted, loop_of, open_size, stack_left}
use Rattle.pr_run.specs.Opened.{stack_size}

-- what was opened last is the first, seen from the end
pub last_first : (xs : List Open) (k : ℕ) (d : Open) → k < length xs
    → reverse (take (k + 1) xs) ≡ get_or xs k d ∷ reverse (take k xs)
last_first xs k d h = rw (add-one, take-suc xs k d h) (reverse-append (take k xs) (get_or xs k d ∷ []))

abbrev pub found_loop : Loop → List Open → Option Inner
found_loop l before = Some (record { current = l; before = before })

abbrev pub no_loop : Option Inner
no_loop = None

-- the loop is the one that is wanted
pub loop_is : (wanted : Option Name) (xs : List Open) (k : ℕ) (d : Open) (l : Loop) → k < length xs
    → get_or xs k d ≡ Looping l → is_wanted wanted l.variable ≡ true
    → loop_of wanted (reverse (take (k + 1) xs)) ≡ found_loop l (reverse (take k xs))
loop_is wanted xs k d l h e is = rw (last_first xs k d h, e, is) refl

-- it is another one
pub loop_other : (wanted : Option Name) (xs : List Open) (k : ℕ) (d : Open) (l : Loop) → k < length xs
    → get_or xs k d ≡ Looping l → is_wanted wanted l.variable ≡ false
    → loop_of wanted (reverse (take (k + 1) xs)) ≡ loop_of wanted (reverse (take k xs))
loop_other wanted xs k d l h e is = rw (last_first xs k d h, e, is) refl

-- a call of GOSUB hides what was opened before
pub loop_hidden : (wanted : Option Name) (xs : List Open) (k : ℕ) (d : Open) (p : Place) → k < length xs
    → get_or xs k d ≡ Calling p → loop_of wanted (reverse (take (k + 1) xs)) ≡ no_loop
loop_hidden wanted xs k d p h e = rw (last_first xs k d h, e) refl

-- ---- calls

pub popped : (old new : List Open) (o : Open) → old ≡ new ++ o ∷ [] → reverse old ≡ o ∷ reverse new
popped old new o e = rw e (reverse-append new (o ∷ []))

abbrev pub found_caller : Place → List Open → Option Caller
found_caller p before = Some (record { back = p; before = before })

pub caller_is : (old new : List Open) (p : Place) → old ≡ new ++ Calling p ∷ []
    → caller_of (reverse old) ≡ found_caller p (reverse new)
caller_is old new p e = rw (popped old new (Calling p) e) refl

pub caller_before : (old new : List Open) (l : Loop) → old ≡ new ++ Looping l ∷ []
    → caller_of (reverse old) ≡ caller_of (reverse new)
caller_before old new l e = rw (popped old new (Looping l) e) refl

-- ---- the machine's stack

pub size_append : (xs ys : List Open) → stack_size (xs ++ ys) ≡ stack_size xs + stack_size ys
size_append [] ys = omega arith
size_append (x ∷ xs) ys = let e = size_append xs ys in omega arith

pub size_reverse : (xs : List Open) → stack_size (reverse xs) ≡ stack_size xs
size_reverse [] = refl
size_reverse (x ∷ xs) =
    let e = size_reverse xs in
    let both : stack_size (reverse (x ∷ xs)) ≡ stack_size (reverse xs) + stack_size (x ∷ []) =
    rw (reverse-append (x ∷ []) xs) (size_append (reverse xs) (x ∷ [])) in
    omega arith

-- what something takes is counted
pub room_taken : (more : ℕ) (o : Open) (xs : List Open) (i size n : ℕ) → i < length xs → o ≡ get_or xs i o
    → n ≡ open_size o → size + stack_size (drop i xs) ≡ more + stack_size xs
    → size + n + stack_size (drop (i + 1) xs) ≡ more + stack_size xs
room_taken more o xs i size n h item taken all =
    let cut : drop i xs ≡ get_or xs i o ∷ drop (i + 1) xs = rw add-one (drop-cons xs i o h) in
    let sizes : stack_size (drop i xs) ≡ open_size (get_or xs i o) + stack_size (drop (i + 1) xs) = rw cut refl in
    let same : open_size (get_or xs i o) ≡ open_size o = ap (λ (p : Open). open_size p) (sym item) in
    omega arith

-- there is no room
pub room_full : (more : ℕ) (xs : List Open) (i size : ℕ) → size + stack_size (drop i xs) ≡ more + stack_size xs
    → 162 < size → nat_le (more + stack_size (reverse xs)) 162 ≡ false
room_full more xs i size all large = let back = size_reverse xs in lt-leb _ _ (omega arith)

-- nothing is left to count
pub room_left : (more : ℕ) (xs : List Open) (i size : ℕ) → length xs ≤ i
    → size + stack_size (drop i xs) ≡ more + stack_size xs
    → nat_le size 162 ≡ nat_le (more + stack_size (reverse xs)) 162
room_left more xs i size h all =
    let none : stack_size (drop i xs) ≡ 0 = rw (drop_all i xs h) refl in
    let back = size_reverse xs in
    let whole : size ≡ more + stack_size (reverse xs) = omega arith in
    ap (λ (n : ℕ). nat_le n 162) whole

-- what something takes is not left
pub left_taken : (o : Open) (xs : List Open) (i left n : ℕ) → i < length xs → o ≡ get_or xs i o → n ≡ open_size o
    → left - stack_size (drop i xs) ≡ 162 - stack_size xs
    → left - n - stack_size (drop (i + 1) xs) ≡ 162 - stack_size xs
left_taken o xs i left n h item taken all =
    let cut : drop i xs ≡ get_or xs i o ∷ drop (i + 1) xs = rw add-one (drop-cons xs i o h) in
    let sizes : stack_size (drop i xs) ≡ open_size (get_or xs i o) + stack_size (drop (i + 1) xs) = rw cut refl in
    let same : open_size (get_or xs i o) ≡ open_size o = ap (λ (p : Open). open_size p) (sym item) in
    omega arith

pub left_is : (xs : List Open) (i left : ℕ) → length xs ≤ i → left - stack_size (drop i xs) ≡ 162 - stack_size xs
    → left ≡ stack_left (reverse xs)
unfolding stack_left
left_is xs i left h all =
    let none : stack_size (drop i xs) ≡ 0 = rw (drop_all i xs h) refl in
    let back = size_reverse xs in
    omega arith
