-- Elements added in parts.
use Rattle.std.proofs.Common.{◌≡◌, ℕ, Bool, true, false, cond, ◌||◌, List, [], ◌++◌, length, refl, sym, ap, ◌∙◌, append_assoc, append-nil}
use Rattle.pr_serial.specs.declared.Present.{Present}
use Rattle.pr_serial.specs.declared.Item.{Item}
use Rattle.pr_serial.specs.Elements.{Element}
use Rattle.pr_serial.specs.Items.{items_of}
use Rattle.pr_serial.specs.Answers.{is_lacking}
use Rattle.pr_serial.specs.Laws.{ItemsOnlyGrow, LackingInTwoParts, LackingInNone}
use Rattle.pr_channels.specs.Seen.{Seen}
use Rattle.pr_channels.specs.Calls.{adding}

-- the later answer and the earlier one in one
later_first : (first second : Bool) (m n : ℕ) → cond second m (cond first m n) ≡ cond (first || second) m n
later_first true true m n = refl
later_first true false m n = refl
later_first false true m n = refl
later_first false false m n = refl

-- two answers in turn, given by both parts at once
after_two : LackingInTwoParts → (present : Present) (xs ys zs : List Item) (m n : ℕ)
    → cond (is_lacking present (length (xs ++ ys)) ((xs ++ ys) ++ zs)) m (cond (is_lacking present (length xs) (xs ++ ys)) m n) ≡ cond (is_lacking present (length xs) ((xs ++ ys) ++ zs)) m n
after_two two_parts present xs ys zs m n =
    later_first (is_lacking present (length xs) (xs ++ ys)) (is_lacking present (length (xs ++ ys)) ((xs ++ ys) ++ zs)) m n
    ∙ ap (λ b. cond b m n) (sym (two_parts present xs ys zs))

-- channels with other items, elements and status are determined by these
same_adding : (old : Seen) (sent sent' : List Item) (elements elements' : List Element) (status status' : ℕ) → sent ≡ sent' → elements ≡ elements' → status ≡ status'
    → record old { sent = sent; elements = elements; status = status } ≡ record old { sent = sent'; elements = elements'; status = status' }
same_adding old sent sent' elements elements' status status' same_sent same_elements same_status =
    ap (λ x. record old { sent = x; elements = elements; status = status }) same_sent
    ∙ ap (λ x. record old { sent = sent'; elements = x; status = status }) same_elements
    ∙ ap (λ x. record old { sent = sent'; elements = elements'; status = x }) same_status

-- elements added one after another are added at once
pub adding_more : ItemsOnlyGrow → LackingInTwoParts → (es fs : List Element) (old : Seen) → old.sent ≡ items_of old.elements → adding fs (adding es old) ≡ adding (es ++ fs) old
adding_more grow two_parts es fs old in_step =
    let first = grow old.elements es in
    let then = grow (old.elements ++ es) fs in
    let one : items_of (old.elements ++ es) ≡ old.sent ++ first.0 = first.1 ∙ ap (λ xs. xs ++ first.0) (sym in_step) in
    let two : items_of ((old.elements ++ es) ++ fs) ≡ (old.sent ++ first.0) ++ then.0 = then.1 ∙ ap (λ xs. xs ++ then.0) one in
    let together : items_of (old.elements ++ (es ++ fs)) ≡ (old.sent ++ first.0) ++ then.0 = ap items_of (sym (append_assoc old.elements es fs)) ∙ two in
    let status : (adding fs (adding es old)).status ≡ (adding (es ++ fs) old).status =
    ap (λ xs. cond (is_lacking old.present (length xs) (items_of ((old.elements ++ es) ++ fs))) 128 (cond (is_lacking old.present (length old.sent) xs) 128 old.status)) one
    ∙ ap (λ xs. cond (is_lacking old.present (length (old.sent ++ first.0)) xs) 128 (cond (is_lacking old.present (length old.sent) (old.sent ++ first.0)) 128 old.status)) two
    ∙ after_two two_parts old.present old.sent first.0 then.0 128 old.status
    ∙ ap (λ xs. cond (is_lacking old.present (length old.sent) xs) 128 old.status) (sym together)
    in
    same_adding old _ _ _ _ _ _ (ap items_of (append_assoc old.elements es fs)) (append_assoc old.elements es fs) status

-- nothing more leaves all as it is
pub adding_none : LackingInNone → (old : Seen) → old.sent ≡ items_of old.elements → adding [] old ≡ old
adding_none none old in_step =
    let same : items_of (old.elements ++ []) ≡ old.sent = ap items_of (append-nil old.elements) ∙ sym in_step in
    let status : (adding [] old).status ≡ old.status =
    ap (λ xs. cond (is_lacking old.present (length old.sent) xs) 128 old.status) same
    ∙ ap (λ b. cond b 128 old.status) (none old.present old.sent)
    in
    same_adding old _ _ _ _ _ _ same (append-nil old.elements) status
