-- The items of bytes, one by one.
use Rattle.std.proofs.Common.{◌≡◌, ℕ, suc, ◌<◌, Bool, true, false, List, [], ◌∷◌, ◌++◌, length, get_or, take, drop, refl, ap, sym, ◌∙◌, arith, append_assoc, append-nil, one-add}
use Rattle.std.specs.Prelude.{decimal}
use Rattle.std.specs.List.{prefix_len}
use Rattle.pr_basic.specs.Grammar.{Item, Quote, Code}
use Rattle.pr_listing.specs.Listing.{is_held}
use Rattle.pr_programs.specs.Scripts.{item_text, items_of, joined, onto_string}
use Rattle.pr_programs.specs.Seen.{IsItemAdded}

-- a byte that a string can have
held : (b : ℕ) (bs : List ℕ) → is_held b ≡ true → items_of (b ∷ bs) ≡ onto_string b (items_of bs)
unfolding items_of
held b bs e = rw e refl

-- a byte that none can have
not_held : (b : ℕ) (bs : List ℕ) → is_held b ≡ false → items_of (b ∷ bs) ≡ Code (decimal b) ∷ items_of bs
unfolding items_of
not_held b bs e = rw e refl

-- bytes up to the first that no string can have
abbrev run : ℕ → List ℕ → List Item
run n bs = Quote (take n bs) ∷ items_of (drop n bs)

one_more : (b : ℕ) (bs : List ℕ) → is_held b ≡ true → prefix_len is_held (b ∷ bs) ≡ suc (prefix_len is_held bs)
one_more b bs e = rw (e, one-add) refl

none_more : (b : ℕ) (bs : List ℕ) → is_held b ≡ false → prefix_len is_held (b ∷ bs) ≡ 0
none_more b bs e = rw e refl

-- bytes that a string can have are one string
held_run : (b : ℕ) (bs : List ℕ) → is_held b ≡ true → items_of (b ∷ bs) ≡ run (suc (prefix_len is_held bs)) (b ∷ bs)
unfolding items_of
held_run b [] e = held b [] e
held_run b (c ∷ cs) e = step (is_held c) refl (λ k. held_run c cs k)
  where
    step : (t : Bool) → is_held c ≡ t → (is_held c ≡ true
        → items_of (c ∷ cs) ≡ run (suc (prefix_len is_held cs)) (c ∷ cs))
        → items_of (b ∷ c ∷ cs) ≡ run (suc (prefix_len is_held (c ∷ cs))) (b ∷ c ∷ cs)
    step true k more =
        held b (c ∷ cs) e ∙ (ap (onto_string b) (more k) ∙ sym (ap (λ n. run (suc n) (b ∷ c ∷ cs)) (one_more c cs k)))
    step false k more =
        held b (c ∷ cs) e
        ∙ (ap (onto_string b) (not_held c cs k)
        ∙ (ap (λ is. Quote (b ∷ []) ∷ is) (sym (not_held c cs k))
        ∙ sym (ap (λ n. run (suc n) (b ∷ c ∷ cs)) (none_more c cs k))))

-- the first item is a string
pub string_first : (bytes : List ℕ) (n : ℕ) → n ≡ prefix_len is_held bytes → 0 < n → items_of bytes ≡ run n bytes
string_first [] n e h = absurd (omega arith)
string_first (b ∷ bs) n e h = step (is_held b) refl
  where
    step : (t : Bool) → is_held b ≡ t → items_of (b ∷ bs) ≡ run n (b ∷ bs)
    step true k = held_run b bs k ∙ sym (ap (λ m. run m (b ∷ bs)) (e ∙ one_more b bs k))
    step false k = let none : n ≡ 0 = e ∙ none_more b bs k in absurd (omega arith)

-- the first item is a CHR$
pub code_first : (bytes : List ℕ) (n : ℕ) → n ≡ prefix_len is_held bytes → 0 < length bytes → n ≡ 0
    → items_of bytes ≡ Code (decimal (get_or bytes 0 0)) ∷ items_of (drop 1 bytes)
code_first [] n e h k = absurd (omega arith)
code_first (b ∷ bs) n e h k = step (is_held b) refl
  where
    step : (t : Bool) → is_held b ≡ t → items_of (b ∷ bs) ≡ Code (decimal b) ∷ items_of bs
    step true f = let some : n ≡ suc (prefix_len is_held bs) = e ∙ one_more b bs f in absurd (omega arith)
    step false f = not_held b bs f

-- bytes have items
some_items : (bs : List ℕ) → 0 < length bs → (j : Item) × (js : List Item) × (items_of bs ≡ j ∷ js)
some_items [] h = absurd (omega arith)
some_items (b ∷ bs) h = step (is_held b) refl
  where
    step : (t : Bool) → is_held b ≡ t → (j : Item) × (js : List Item) × (items_of (b ∷ bs) ≡ j ∷ js)
    step true e = (
      Quote (take (suc (prefix_len is_held bs)) (b ∷ bs)),
      items_of (drop (prefix_len is_held bs) bs),
      held_run b bs e,
    )
    step false e = (Code (decimal b), items_of bs, not_held b bs e)

-- the last item is added
pub last_item : (bytes rest old new : List ℕ) → IsItemAdded bytes rest old new → length rest ≡ 0
    → new ++ joined (items_of rest) ≡ old ++ joined (items_of bytes)
unfolding items_of
last_item bytes [] old new h e = append-nil new ∙ (h.is_text ∙ ap (λ is. old ++ joined is) (sym h.first))
last_item bytes (b ∷ rest) old new h e = absurd (omega arith)

-- an item is added, and a semicolon before the next one
pub next_item : (bytes rest old mid new : List ℕ) → IsItemAdded bytes rest old mid → 0 < length rest
    → new ≡ mid ++ 59 ∷ [] → new ++ joined (items_of rest) ≡ old ++ joined (items_of bytes)
next_item bytes rest old mid new h k e = added (some_items rest k)
  where
    added : (j : Item) × (js : List Item) × (items_of rest ≡ j ∷ js)
        → new ++ joined (items_of rest) ≡ old ++ joined (items_of bytes)
    added (j, js, is) =
        let all : joined (items_of bytes) ≡ item_text h.item ++ 59 ∷ joined (j ∷ js) =
        ap joined (h.first ∙ ap (λ more. h.item ∷ more) is) in
        let said : new ≡ (old ++ item_text h.item) ++ 59 ∷ [] = e ∙ ap (λ v. v ++ 59 ∷ []) h.is_text in
        let here : new ++ joined (items_of rest) ≡ ((old ++ item_text h.item) ++ 59 ∷ []) ++ joined (j ∷ js) =
        ap (λ v. v ++ joined (items_of rest)) said
        ∙ ap (λ v. ((old ++ item_text h.item) ++ 59 ∷ []) ++ joined v) is in
        let moved : ((old ++ item_text h.item) ++ 59 ∷ []) ++ joined (j ∷ js) ≡ old ++
        (item_text h.item ++ 59 ∷ joined (j ∷ js)) =
        append_assoc (old ++ item_text h.item) (59 ∷ []) (joined (j ∷ js))
        ∙ append_assoc old (item_text h.item) (59 ∷ joined (j ∷ js))
        in
        here ∙ (moved ∙ ap (λ v. old ++ v) (sym all))

-- no bytes have no items
pub no_items : (text bs : List ℕ) → length bs ≡ 0 → text ++ joined (items_of bs) ≡ text
unfolding items_of
no_items text [] h = append-nil text
no_items text (b ∷ bs) h = absurd (omega arith)

-- three parts are added
pub three_added : (old a s b p q new : List ℕ) → p ≡ old ++ a → q ≡ p ++ s → new ≡ q ++ b → new ≡ old ++ ((a ++ s) ++ b)
three_added old a s b p q new e f g =
    g ∙ (ap (λ v. v ++ b) (f ∙ (ap (λ v. v ++ s) e ∙ append_assoc old a s)) ∙ append_assoc old (a ++ s) b)
