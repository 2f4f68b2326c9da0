-- What one more element sends, and what more elements send.
use Rattle.std.proofs.Common.{◌≡◌, true, false, Some, None, List, [], ◌∷◌, ◌++◌, refl, sym, ap, ◌∙◌, append_assoc, append-nil}
use Rattle.pr_serial.specs.declared.Item.{Item}
use Rattle.pr_serial.specs.declared.Item.TheVariants.{Attention, Sent}
use Rattle.pr_serial.specs.Elements as element
use Rattle.pr_serial.specs.Elements.{Element}
use Rattle.pr_serial.specs.Items.{items_of}
use Rattle.pr_serial.specs.Steps.{flushed, sent_at_once, held_at, held_of}

-- one more element sends the byte held back and, if it is an attention, itself
pub items_of-push : (es : List Element) (e : Element) → items_of (es ++ e ∷ []) ≡ items_of es ++ (flushed (held_of es) e ++ sent_at_once e)
items_of-push [] (element.Attention f s) = refl
items_of-push [] (element.Byte b) = refl
items_of-push (element.Attention f s ∷ []) (element.Attention g t) = refl
items_of-push (element.Attention f s ∷ []) (element.Byte b) = refl
items_of-push (element.Byte a ∷ []) (element.Attention g t) = refl
items_of-push (element.Byte a ∷ []) (element.Byte b) = refl
items_of-push (element.Attention f s ∷ x ∷ es) e = ap (λ xs. Attention f s ∷ xs) (items_of-push (x ∷ es) e)
items_of-push (element.Byte a ∷ element.Attention f s ∷ es) e = ap (λ xs. Sent a true ∷ xs) (items_of-push (element.Attention f s ∷ es) e)
items_of-push (element.Byte a ∷ element.Byte b ∷ es) e = ap (λ xs. Sent a false ∷ xs) (items_of-push (element.Byte b ∷ es) e)

-- after one more element only that one may be held back
pub held_of-push : (es : List Element) (e : Element) → held_of (es ++ e ∷ []) ≡ held_at e
held_of-push [] (element.Attention f s) = refl
held_of-push [] (element.Byte b) = refl
held_of-push (x ∷ []) (element.Attention f s) = refl
held_of-push (x ∷ []) (element.Byte b) = refl
held_of-push (x ∷ y ∷ es) e = held_of-push (y ∷ es) e

-- more elements only send more items
pub items_of-grow : (es fs : List Element) → (more : List Item) × (items_of (es ++ fs) ≡ items_of es ++ more)
items_of-grow es [] = ([], ap items_of (append-nil es) ∙ sym (append-nil (items_of es)))
items_of-grow es (f ∷ fs) =
    let now = flushed (held_of es) f ++ sent_at_once f in
    let rest = items_of-grow (es ++ f ∷ []) fs in (
      now ++ rest.0,
      ap items_of (sym (append_assoc es (f ∷ []) fs)) ∙ rest.1 ∙ ap (λ xs. xs ++ rest.0) (items_of-push es f) ∙ append_assoc (items_of es) now rest.0,
    )

-- with nothing held back, more elements send just their own items
pub items_of-append : (es fs : List Element) → held_of es ≡ None → items_of (es ++ fs) ≡ items_of es ++ items_of fs
items_of-append [] fs quiet = refl
items_of-append (element.Attention f s ∷ []) fs quiet = refl
items_of-append (element.Byte b ∷ []) fs quiet = let clash : Some b ≡ None = quiet in absurd (cc clash)
items_of-append (element.Attention f s ∷ e ∷ es) fs quiet = ap (λ xs. Attention f s ∷ xs) (items_of-append (e ∷ es) fs quiet)
items_of-append (element.Byte a ∷ element.Attention f s ∷ es) fs quiet = ap (λ xs. Sent a true ∷ xs) (items_of-append (element.Attention f s ∷ es) fs quiet)
items_of-append (element.Byte a ∷ element.Byte b ∷ es) fs quiet = ap (λ xs. Sent a false ∷ xs) (items_of-append (element.Byte b ∷ es) fs quiet)
