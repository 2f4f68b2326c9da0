-- What one more item does to the listeners, and what is answered after other items.
use Rattle.std.proofs.Common.{◌≡◌, ℕ, suc, ◌+◌, ◌-◌, ◌≤◌, Bool, true, false, not, cond, ◌||◌, List, [], ◌∷◌, ◌++◌, length, drop, map, refl, sym, ap, arith, ◌∙◌, append_assoc, append-nil, length-append}
use Rattle.std.specs.List.{after_last, suffix_len, list_any}
use Rattle.std.proofs.lemmas.List.{reverse-append, map-append, drop-append-le}
use Rattle.std.proofs.lemmas.List.Folds.{list_any-append}
use Rattle.std.proofs.Math.Seq.{drop-length, drop-append_seam}
use Rattle.std.proofs.Math.Bool.{or-false}
use Rattle.pr_serial.specs.declared.Present.{Present}
use Rattle.pr_serial.specs.declared.Item.{Item}
use Rattle.pr_page.specs.Before.{with_before}
use Rattle.pr_serial.specs.Answers.{is_unlisten, is_listen, is_listener, is_answered, is_lacking}
use Rattle.pr_serial.specs.Steps.{answers_after}

-- how many elements at the end pass the test, with one more
suffix_len-push : {X : Type 0} (p : X → Bool) (xs : List X) (x : X) → suffix_len p (xs ++ x ∷ []) ≡ cond (p x) (1 + suffix_len p xs) 0
suffix_len-push p xs x = rw (reverse-append xs (x ∷ []))

-- what follows the last that passes, with one more that does or does not
after_last_at : {X : Type 0} (p : X → Bool) (xs : List X) (x : X) (b : Bool) → p x ≡ b → after_last p (xs ++ x ∷ []) ≡ cond b [] (after_last p xs ++ x ∷ [])
after_last_at p xs x true e =
    let none : suffix_len (λ y. not (p y)) (xs ++ x ∷ []) ≡ 0 = suffix_len-push (λ y. not (p y)) xs x ∙ ap (λ b. cond (not b) (1 + suffix_len (λ y. not (p y)) xs) 0) e in
    let all : length (xs ++ x ∷ []) - suffix_len (λ y. not (p y)) (xs ++ x ∷ []) ≡ length (xs ++ x ∷ []) = omega (arith, none) in
    ap (λ n. drop n (xs ++ x ∷ [])) all ∙ drop-length (xs ++ x ∷ [])
after_last_at p xs x false e =
    let one : suffix_len (λ y. not (p y)) (xs ++ x ∷ []) ≡ 1 + suffix_len (λ y. not (p y)) xs = suffix_len-push (λ y. not (p y)) xs x ∙ ap (λ b. cond (not b) (1 + suffix_len (λ y. not (p y)) xs) 0) e in
    let same : length (xs ++ x ∷ []) - suffix_len (λ y. not (p y)) (xs ++ x ∷ []) ≡ length xs - suffix_len (λ y. not (p y)) xs = omega (arith, one, length-append xs (x ∷ [])) in
    let within : length xs - suffix_len (λ y. not (p y)) xs ≤ length xs = omega arith in
    ap (λ n. drop n (xs ++ x ∷ [])) same ∙ drop-append-le _ xs (x ∷ []) within

-- the same with its test
after_last-push : {X : Type 0} (p : X → Bool) (xs : List X) (x : X) → after_last p (xs ++ x ∷ []) ≡ cond (p x) [] (after_last p xs ++ x ∷ [])
after_last-push p xs x = after_last_at p xs x (p x) refl

-- an UNLISTEN ends listening, a LISTEN to the device begins it
pub is_listener-push : (device : ℕ) (items : List Item) (item : Item) → is_listener device (items ++ item ∷ []) ≡ cond (is_unlisten item) false (is_listener device items || is_listen device item)
is_listener-push device items item =
    let since = after_last is_unlisten items in
    ap (list_any (is_listen device)) (after_last-push is_unlisten items item)
    ∙ elim (is_unlisten item) as (λ b. list_any (is_listen device) (cond b [] (after_last is_unlisten items ++ item ∷ [])) ≡ cond b false (is_listener device items || is_listen device item)) [
      | true ↦ refl
      | false ↦ list_any-append (is_listen device) (after_last is_unlisten items) (item ∷ []) ∙ ap (λ z. is_listener device items || z) (or-false (is_listen device item))
    ]

-- the items before each, for two parts
pub with_before-append : (before xs ys : List Item) → with_before before (xs ++ ys) ≡ with_before before xs ++ with_before (before ++ xs) ys
with_before-append before [] ys = rw append-nil
with_before-append before (x ∷ xs) ys = rw (with_before-append (before ++ x ∷ []) xs ys, append_assoc)

-- an answer for each item
length-answers_after : (present : Present) (xs ys : List Item) → length (answers_after present xs ys) ≡ length ys
length-answers_after present xs [] = refl
length-answers_after present xs (y ∷ ys) = ap suc (length-answers_after present (xs ++ y ∷ []) ys)

-- the answers of two parts
answers_after-append : (present : Present) (xs ys zs : List Item) → answers_after present xs (ys ++ zs) ≡ answers_after present xs ys ++ answers_after present (xs ++ ys) zs
answers_after-append present xs ys zs = ap (map (λ p. is_answered present p.0 p.1)) (with_before-append xs ys zs) ∙ map-append _ (with_before xs ys) (with_before (xs ++ ys) zs)

-- what is lacking after the first items is determined by the later ones
pub is_lacking-append : (present : Present) (xs ys : List Item) → is_lacking present (length xs) (xs ++ ys) ≡ list_any not (answers_after present xs ys)
is_lacking-append present xs ys =
    ap (λ bs. list_any not (drop (length xs) bs)) (answers_after-append present [] xs ys)
    ∙ ap (λ n. list_any not (drop n (answers_after present [] xs ++ answers_after present xs ys))) (sym (length-answers_after present [] xs))
    ∙ ap (list_any not) (drop-append_seam (answers_after present [] xs) (answers_after present xs ys))

-- an item of two parts lacks an answer if one of the first or one of the second does
pub is_lacking-grow : (present : Present) (xs ys zs : List Item) → is_lacking present (length xs) ((xs ++ ys) ++ zs) ≡ (is_lacking present (length xs) (xs ++ ys) || is_lacking present (length (xs ++ ys)) ((xs ++ ys) ++ zs))
is_lacking-grow present xs ys zs =
    ap (is_lacking present (length xs)) (append_assoc xs ys zs)
    ∙ is_lacking-append present xs (ys ++ zs)
    ∙ ap (list_any not) (answers_after-append present xs ys zs)
    ∙ list_any-append not (answers_after present xs ys) (answers_after present (xs ++ ys) zs)
    ∙ ap (λ b. b || list_any not (answers_after present (xs ++ ys) zs)) (sym (is_lacking-append present xs ys))
    ∙ ap (λ b. is_lacking present (length xs) (xs ++ ys) || b) (sym (is_lacking-append present (xs ++ ys) zs))

-- one more item is lacking exactly if it is not answered
pub is_lacking_one : (present : Present) (xs : List Item) (x : Item) → is_lacking present (length xs) (xs ++ x ∷ []) ≡ not (is_answered present xs x)
is_lacking_one present xs x = is_lacking-append present xs (x ∷ []) ∙ or-false (not (is_answered present xs x))

-- no more item is lacking
pub is_lacking_none : (present : Present) (xs : List Item) → is_lacking present (length xs) xs ≡ false
is_lacking_none present xs = ap (is_lacking present (length xs)) (sym (append-nil xs)) ∙ is_lacking-append present xs []
