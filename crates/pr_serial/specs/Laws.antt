-- Laws: what follows from the definitions. The functions of src/laws.rt prove them, and callers take them from there.
use Rattle.std.specs.Prelude.{◌≡◌, ℕ, ◌*◌, ◌≤◌, false, not, ◌||◌, None, List, [], ◌∷◌, ◌++◌, length, if◌then◌else◌}
use Rattle.std.specs.List.{list_any}
use Rattle.pr_serial.specs.declared.Present.{Present}
use Rattle.pr_serial.specs.declared.Item.{Item}
use Rattle.pr_serial.specs.Elements.{Element}
use Rattle.pr_serial.specs.Items.{items_of}
use Rattle.pr_serial.specs.Answers.{is_unlisten, is_listen, is_listener, is_answered, is_lacking}
use Rattle.pr_serial.specs.Heard.{is_present, inputs_at, heard_by}
use Rattle.pr_serial.specs.Steps.{flushed, sent_at_once, held_at, answers_after, IsNotCalled, held_of}

-- one more element sends the byte held back and, if it is an attention, itself
abbrev pub ItemsOfOneMore : Type 0
ItemsOfOneMore =
    (es : List Element) (e : Element) → items_of (es ++ e ∷ []) ≡ items_of es
    ++ (flushed (held_of es) e ++ sent_at_once e)

-- after one more element only that one may be held back
abbrev pub HeldAfterOneMore : Type 0
HeldAfterOneMore = (es : List Element) (e : Element) → held_of (es ++ e ∷ []) ≡ held_at e

-- more elements only send more items
abbrev pub ItemsOnlyGrow : Type 0
ItemsOnlyGrow = (es fs : List Element) → (more : List Item) × (items_of (es ++ fs) ≡ items_of es ++ more)

-- with nothing held back, more elements send just their own items
abbrev pub ItemsOfTwoParts : Type 0
ItemsOfTwoParts = (es fs : List Element) → held_of es ≡ None → items_of (es ++ fs) ≡ items_of es ++ items_of fs

-- an UNLISTEN ends listening, a LISTEN to the device begins it, and nothing else changes it
abbrev pub ListenerAfterOneMore : Type 0
ListenerAfterOneMore = (device : ℕ) (items : List Item) (item : Item) →
    is_listener device (items ++ item ∷ [])
    ≡ (if is_unlisten item then false else (is_listener device items || is_listen device item))

-- whether a later item lacks an answer is determined by the answers to the later ones
abbrev pub LackingAmongLater : Type 0
LackingAmongLater = (present : Present) (xs ys : List Item) →
    is_lacking present (length xs) (xs ++ ys) ≡ list_any not (answers_after present xs ys)

-- an item of two parts lacks an answer if one of the first part or one of the second does
abbrev pub LackingInTwoParts : Type 0
LackingInTwoParts = (present : Present) (xs ys zs : List Item) →
    is_lacking present (length xs) ((xs ++ ys) ++ zs)
    ≡ (is_lacking present (length xs) (xs ++ ys) || is_lacking present (length (xs ++ ys)) ((xs ++ ys) ++ zs))

-- where nothing more is sent, nothing lacks an answer
abbrev pub LackingInNone : Type 0
LackingInNone = (present : Present) (xs : List Item) → is_lacking present (length xs) xs ≡ false

-- one more item lacks an answer exactly if it is not answered
abbrev pub LackingInOne : Type 0
LackingInOne = (present : Present) (xs : List Item) (x : Item) →
    is_lacking present (length xs) (xs ++ x ∷ []) ≡ not (is_answered present xs x)

-- what a device that is present hears of one more item is what that gives after those before it
abbrev pub HeardOfOneMore : Type 0
HeardOfOneMore = (present : Present) (device : ℕ) (items : List Item) (item : Item) →
    heard_by present device (items ++ item ∷ [])
    ≡ heard_by present device items ++ (if is_present present device then inputs_at device items item else [])

-- with the device not listening in between, the second part is heard as if it came first
abbrev pub HeardOfTwoParts : Type 0
HeardOfTwoParts = (present : Present) (device : ℕ) (xs ys : List Item) → is_listener device xs ≡ false →
    heard_by present device (xs ++ ys) ≡ heard_by present device xs ++ heard_by present device ys

-- a device that is never called hears nothing
abbrev pub HeardUncalled : Type 0
HeardUncalled =
    (present : Present) (device : ℕ) (items : List Item) → IsNotCalled device items → heard_by present device items ≡ []

-- an item gives a device at most two inputs
abbrev pub InputsOfAnItem : Type 0
InputsOfAnItem = (device : ℕ) (items : List Item) (item : Item) → length (inputs_at device items item) ≤ 2

-- a device hears at most two inputs for each item
abbrev pub HeardIsBounded : Type 0
HeardIsBounded =
    (present : Present) (device : ℕ) (items : List Item) → length (heard_by present device items) ≤ 2 * length items
