use Rattle.std.proofs.Common.{◌≡◌, ℕ, zero, suc, ◌+◌, ◌-◌, ◌<◌, ◌≤◌, ◌==◌, false, List, [], ◌∷◌, ◌++◌, length, take}
use Rattle.std.proofs.Common.{drop, get_or, min, arith, refl, ap, ◌∙◌, sym, add-one, drop-cons, append_assoc}
use Rattle.std.proofs.Common.{append-nil, length-append, slice_get, zero-add}
use Rattle.std.proofs.lemmas.Bool.{ne_eqb}
use Rattle.std.proofs.lemmas.List.{drop-drop, drop_all, length-drop, take_all, take_min}
use Rattle.pr_run.specs.declared.data.DataItem.{DataItem}
use Rattle.std.specs.Prelude.{slice_range}
use Rattle.pr_run.specs.Data.{end_of, front_item, front_size, items, last_end, more_items}

-- an end behind a list is that of the list
pub clamped : (xs : List ℕ) (start end : ℕ) → slice_range xs start (min end (length xs)) ≡ slice_range xs start end
clamped xs start end =
    let e : min end (length xs) - start ≡ min (end - start) (length (drop start xs)) =
    omega (arith, length-drop start xs) in
    rw e (take_min (end - start) (drop start xs))

-- nothing is left before a start
pub clamped_none : (xs : List ℕ) (start end : ℕ) → min end (length xs) ≤ start → slice_range xs start end ≡ []
clamped_none xs start end h =
    let e : min end (length xs) - start ≡ 0 = omega arith in
    let none : slice_range xs start (min end (length xs)) ≡ [] = rw e refl in
    sym (clamped xs start end) ∙ none

-- the bytes from a place to the end
pub rest_taken : (n : ℕ) (xs : List ℕ) → take (length xs - n) (drop n xs) ≡ drop n xs
rest_taken n xs = take_all (length xs - n) (drop n xs) (omega (arith, length-drop n xs))

-- ---- items

-- the bytes that are left of an item are passed
pub items_skip : (line k place : ℕ) (bs : List ℕ) → k ≤ length bs
    → more_items line k place bs ≡ more_items line 0 (place + k) (drop k bs)
unfolding more_items
items_skip line zero place bs h =
    let same : place ≡ place + 0 = omega arith in ap (λ (n : ℕ). more_items line 0 n bs) same
items_skip line (suc k) place [] h = absurd (omega arith)
items_skip line (suc k) place (b ∷ bs) h =
    let less : k ≤ length bs = omega arith in
    let same : place + 1 + k ≡ place + suc k = omega arith in
    items_skip line k (place + 1) bs less ∙ ap (λ (n : ℕ). more_items line 0 n (drop k bs)) same

-- a comma begins one more
pub items_goes : (line place : ℕ) (b : ℕ) (bs : List ℕ) → b ≡ 44
    → more_items line 0 place (b ∷ bs) ≡ front_item line (place + 1) bs ∷ more_items line (front_size bs) (place + 1) bs
unfolding more_items
items_goes line place b bs e = rw e refl

-- another byte ends them
pub items_stop : (line place : ℕ) (b : ℕ) (bs : List ℕ) → (b == 44) ≡ false → more_items line 0 place (b ∷ bs) ≡ []
unfolding more_items
items_stop line place b bs e = rw e refl

pub items_none : (line place : ℕ) → more_items line 0 place [] ≡ []
unfolding more_items
items_none line place = refl

-- an item and what follows it come after those before
put_item : (i : DataItem) (old new more : List DataItem) → new ≡ old ++ i ∷ [] → new ++ more ≡ old ++ (i ∷ more)
put_item i old new more put = rw put (append_assoc old (i ∷ []) more)

-- the first item of a DATA statement
pub items_begin : (line place n : ℕ) (bytes : List ℕ) (old new : List DataItem) (i : DataItem)
    → i ≡ front_item line place bytes → n ≡ front_size bytes → n ≤ length bytes → new ≡ old ++ i ∷ []
    → new ++ more_items line 0 (place + n) (drop n bytes) ≡ old ++ items line place bytes
unfolding items
items_begin line place n bytes old new i e size fits put =
    let more : more_items line 0 (place + n) (drop n bytes) ≡ more_items line (front_size bytes) place bytes =
    sym (items_skip line n place bytes fits) ∙ ap (λ (k : ℕ). more_items line k place bytes) size in
    let here : new ++ more_items line 0 (place + n) (drop n bytes)
    ≡ old ++ (i ∷ more_items line 0 (place + n) (drop n bytes)) =
    put_item i old new _ put in
    here ∙ rw (e, more) refl

-- one more item follows a comma
pub items_on : (line place t n d : ℕ) (bytes : List ℕ) (old new whole : List DataItem) (i : DataItem)
    → t < length bytes → get_or bytes t d ≡ 44 → i ≡ front_item line (place + (t + 1)) (drop (t + 1) bytes)
    → n ≡ front_size (drop (t + 1) bytes) → n ≤ length (drop (t + 1) bytes) → new ≡ old ++ i ∷ []
    → old ++ more_items line 0 (place + t) (drop t bytes) ≡ whole
    → new ++ more_items line 0 (place + (t + 1 + n)) (drop (t + 1 + n) bytes) ≡ whole
items_on line place t n d bytes old new whole i h comma e size fits put all =
    let rest = drop (t + 1) bytes in
    let cut : drop t bytes ≡ get_or bytes t d ∷ drop (t + 1) bytes = rw add-one (drop-cons bytes t d h) in
    let next : place + t + 1 ≡ place + (t + 1) = omega arith in
    let far : place + t + 1 + n ≡ place + (t + 1 + n) = omega arith in
    let begun : more_items line 0 (place + t) (drop t bytes)
    ≡ front_item line (place + t + 1) rest ∷ more_items line (front_size rest) (place + t + 1) rest =
    ap (λ (bs : List ℕ). more_items line 0 (place + t) bs) cut ∙ items_goes line (place + t) _ rest comma in
    let skipped : more_items line n (place + t + 1) rest
    ≡ more_items line 0 (place + t + 1 + n) (drop (t + 1 + n) bytes) =
    items_skip line n (place + t + 1) rest fits
    ∙ ap (λ (bs : List ℕ). more_items line 0 (place + t + 1 + n) bs) (drop-drop n (t + 1) bytes) in
    let sized : more_items line (front_size rest) (place + t + 1) rest ≡ more_items line n (place + t + 1) rest =
    ap (λ (k : ℕ). more_items line k (place + t + 1) rest) (sym size) in
    let moved : more_items line 0 (place + t + 1 + n) (drop (t + 1 + n) bytes)
    ≡ more_items line 0 (place + (t + 1 + n)) (drop (t + 1 + n) bytes) =
    ap (λ (k : ℕ). more_items line 0 k (drop (t + 1 + n) bytes)) far in
    let front : front_item line (place + t + 1) rest ≡ i =
    ap (λ (k : ℕ). front_item line k rest) next ∙ sym e in
    let here : new ++ more_items line 0 (place + (t + 1 + n)) (drop (t + 1 + n) bytes)
    ≡ old ++ (i ∷ more_items line 0 (place + (t + 1 + n)) (drop (t + 1 + n) bytes)) =
    put_item i old new _ put in
    let found : more_items line 0 (place + t) (drop t bytes)
    ≡ i ∷ more_items line 0 (place + (t + 1 + n)) (drop (t + 1 + n) bytes) =
    begun ∙ (ap (λ (f : DataItem). f ∷ more_items line (front_size rest) (place + t + 1) rest) front
    ∙ ap (λ (ds : List DataItem). i ∷ ds) (sized ∙ (skipped ∙ moved))) in
    here ∙ (ap (λ (ds : List DataItem). old ++ ds) (sym found) ∙ all)

-- another byte ends the items
pub items_end : (line place t d : ℕ) (bytes : List ℕ) (old whole : List DataItem) → t < length bytes
    → (get_or bytes t d ≡ 44 → ⊥) → old ++ more_items line 0 (place + t) (drop t bytes) ≡ whole
    → old ≡ whole
items_end line place t d bytes old whole h other all =
    let cut : drop t bytes ≡ get_or bytes t d ∷ drop (t + 1) bytes = rw add-one (drop-cons bytes t d h) in
    let apart : (get_or bytes t d == 44) ≡ false = ne_eqb (get_or bytes t d) 44 other in
    let none : more_items line 0 (place + t) (drop t bytes) ≡ [] =
    ap (λ (bs : List ℕ). more_items line 0 (place + t) bs) cut ∙ items_stop line (place + t) _ _ apart in
    sym (append-nil old) ∙ (ap (λ (ds : List DataItem). old ++ ds) (sym none) ∙ all)

-- so does the end of the statement
pub items_all : (line place t : ℕ) (bytes : List ℕ) (old whole : List DataItem) → length bytes ≤ t
    → old ++ more_items line 0 (place + t) (drop t bytes) ≡ whole → old ≡ whole
items_all line place t bytes old whole h all =
    let none : more_items line 0 (place + t) (drop t bytes) ≡ [] =
    ap (λ (bs : List ℕ). more_items line 0 (place + t) bs) (drop_all t bytes h) ∙ items_none line (place + t) in
    sym (append-nil old) ∙ (ap (λ (ds : List DataItem). old ++ ds) (sym none) ∙ all)

-- ---- the last item

get_behind : (xs zs : List DataItem) (k : ℕ) → slice_get (xs ++ zs) (length xs + k) ≡ slice_get zs k
get_behind [] zs k = rw zero-add refl
get_behind (x ∷ xs) zs k =
    let next : length (x ∷ xs) + k ≡ suc (length xs + k) = omega arith in
    rw next (get_behind xs zs k)

last_of_two : (xs ys : List DataItem) (y : DataItem) → last_end (xs ++ (y ∷ ys)) ≡ last_end (y ∷ ys)
last_of_two xs ys y =
    let at : length (xs ++ (y ∷ ys)) - 1 ≡ length xs + (length (y ∷ ys) - 1) =
    omega (arith, length-append xs (y ∷ ys)) in
    rw at (ap end_of (get_behind xs (y ∷ ys) (length (y ∷ ys) - 1)))

-- the last of items that come after others
pub last_joined : (old new : List DataItem) (line place : ℕ) (bytes : List ℕ) → new ≡ old ++ items line place bytes
    → last_end new ≡ last_end (items line place bytes)
unfolding items
last_joined old new line place bytes e =
    rw e (last_of_two old (more_items line (front_size bytes) place bytes) (front_item line place bytes))
