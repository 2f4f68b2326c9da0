-- What one more item gives a device, and what a device hears of later items alone.
use Rattle.std.proofs.Common.{◌≡◌, ℕ, ◌+◌, ◌*◌, ◌≤◌, Bool, true, false, cond, ◌||◌, ◌==◌, Option, Some, None, List, [], ◌∷◌, ◌++◌, length, refl, sym, ap, arith, ◌∙◌, append-nil, length-append}
use Rattle.std.specs.List.{flat_map}
use Rattle.std.proofs.lemmas.Grind.{flat_map-append}
use Rattle.pr_serial.specs.declared.Present.{Present}
use Rattle.pr_serial.specs.declared.Item.{Item}
use Rattle.pr_serial.specs.declared.Item.TheVariants.{Attention, Sent}
use Rattle.pr_page.specs.declared.input.Input.{Input}
use Rattle.pr_page.specs.declared.input.Input.TheVariants.{Select, Byte}
use Rattle.pr_page.specs.Before.{with_before}
use Rattle.pr_serial.specs.Answers.{is_unlisten, is_listen, is_listener}
use Rattle.pr_serial.specs.Heard.{is_present, inputs_at, heard_by}
use Rattle.pr_serial.specs.Steps.{IsNotCalled}
use Rattle.pr_serial.proofs.AnswerLemmas.{is_listener-push, with_before-append}

-- what is heard of one more item, whether the device is present or not
heard_at : (present : Present) (device : ℕ) (items : List Item) (item : Item) (there : Bool) → is_present present device ≡ there → heard_by present device (items ++ item ∷ []) ≡ heard_by present device items ++ cond there (inputs_at device items item) []
heard_at present device items item true e =
    let hears = λ (p : List Item × Item). inputs_at device p.0 p.1 in
    ap (λ b. cond b (flat_map hears (with_before [] (items ++ item ∷ []))) []) e
    ∙ ap (flat_map hears) (with_before-append [] items (item ∷ []))
    ∙ flat_map-append hears (with_before [] items) (with_before items (item ∷ []))
    ∙ ap (λ z. flat_map hears (with_before [] items) ++ z) (append-nil (inputs_at device items item))
    ∙ ap (λ b. cond b (flat_map hears (with_before [] items)) [] ++ inputs_at device items item) (sym e)
heard_at present device items item false e =
    let hears = λ (p : List Item × Item). inputs_at device p.0 p.1 in
    ap (λ b. cond b (flat_map hears (with_before [] (items ++ item ∷ []))) []) e
    ∙ ap (λ b. cond b (flat_map hears (with_before [] items)) [] ++ []) (sym e)

-- one more item gives what it gives after those before it
pub heard_by-push : (present : Present) (device : ℕ) (items : List Item) (item : Item) → heard_by present device (items ++ item ∷ []) ≡ heard_by present device items ++ cond (is_present present device) (inputs_at device items item) []
heard_by-push present device items item = heard_at present device items item (is_present present device) refl

-- what is heard of items after others
abbrev heard_after : ℕ → List Item → List Item → List Input
heard_after device before items = flat_map (λ p. inputs_at device p.0 p.1) (with_before before items)

-- devices that listen alike are given alike
inputs_at_same : (device : ℕ) (xs ys : List Item) (item : Item) → is_listener device xs ≡ is_listener device ys → inputs_at device xs item ≡ inputs_at device ys item
inputs_at_same device xs ys (Attention first second) same = refl
inputs_at_same device xs ys (Sent b eoi) same = ap (λ t. cond t (Byte b ∷ []) []) same

-- devices that listen alike hear alike
heard_after_same : (device : ℕ) (xs ys items : List Item) → is_listener device xs ≡ is_listener device ys → heard_after device xs items ≡ heard_after device ys items
heard_after_same device xs ys [] same = refl
heard_after_same device xs ys (item ∷ items) same =
    let next : is_listener device (xs ++ item ∷ []) ≡ is_listener device (ys ++ item ∷ []) =
    is_listener-push device xs item ∙ ap (λ b. cond (is_unlisten item) false (b || is_listen device item)) same ∙ sym (is_listener-push device ys item) in
    ap (λ z. z ++ heard_after device (xs ++ item ∷ []) items) (inputs_at_same device xs ys item same)
    ∙ ap (λ z. inputs_at device ys item ++ z) (heard_after_same device (xs ++ item ∷ []) (ys ++ item ∷ []) items next)

-- an item gives nothing to a device that neither listens nor is called
nothing_at : (device : ℕ) (before : List Item) (item : Item) → is_listener device before ≡ false → is_listen device item ≡ false → inputs_at device before item ≡ []
nothing_at device before (Attention first None) quiet none = ap (λ b. cond b (Select false ∷ []) []) none
nothing_at device before (Attention first (Some s)) quiet none = ap (λ b. cond b (Select false ∷ cond (s == 103) (Select true ∷ []) []) []) none
nothing_at device before (Sent b eoi) quiet none = ap (λ t. cond t (Byte b ∷ []) []) quiet

-- a device that does not listen, and to which no LISTEN goes, hears nothing
heard_nothing : (device : ℕ) (before items : List Item) → is_listener device before ≡ false → IsNotCalled device items → heard_after device before items ≡ []
heard_nothing device before [] quiet none = refl
heard_nothing device before (item ∷ items) quiet none =
    let next : is_listener device (before ++ item ∷ []) ≡ false =
    is_listener-push device before item
    ∙ ap (λ b. cond (is_unlisten item) false (b || is_listen device item)) quiet
    ∙ ap (λ b. cond (is_unlisten item) false b) none.0
    ∙ elim (is_unlisten item) as (λ b. cond b false false ≡ false) [ true ↦ refl | false ↦ refl ] in
    ap (λ z. z ++ heard_after device (before ++ item ∷ []) items) (nothing_at device before item quiet none.0)
    ∙ heard_nothing device (before ++ item ∷ []) items next none.1

-- what is heard of two parts: with nobody listening in between, the second part is heard as if it came first
pub heard_by-append : (present : Present) (device : ℕ) (xs ys : List Item) → is_listener device xs ≡ false → heard_by present device (xs ++ ys) ≡ heard_by present device xs ++ heard_by present device ys
heard_by-append present device xs ys quiet =
    let parts : heard_after device [] (xs ++ ys) ≡ heard_after device [] xs ++ heard_after device [] ys =
    ap (flat_map (λ (p : List Item × Item). inputs_at device p.0 p.1)) (with_before-append [] xs ys)
    ∙ flat_map-append (λ (p : List Item × Item). inputs_at device p.0 p.1) (with_before [] xs) (with_before xs ys)
    ∙ ap (λ z. heard_after device [] xs ++ z) (heard_after_same device xs [] ys quiet) in
    elim (is_present present device) as (λ b. cond b (heard_after device [] (xs ++ ys)) [] ≡ cond b (heard_after device [] xs) [] ++ cond b (heard_after device [] ys) []) [
      | true ↦ parts
      | false ↦ refl
    ]

-- the same from the beginning, where no device listens
pub heard_by-uncalled : (present : Present) (device : ℕ) (items : List Item) → IsNotCalled device items → heard_by present device items ≡ []
heard_by-uncalled present device items none =
    elim (is_present present device) as (λ b. cond b (heard_after device [] items) [] ≡ []) [
      | true ↦ heard_nothing device [] items refl none
      | false ↦ refl
    ]

-- at most two inputs come of a LISTEN
length-inputs_at_listen : (b c : Bool) (second : Option ℕ) → length (cond b (Select false ∷ cond c (Select true ∷ []) []) []) ≤ 2
length-inputs_at_listen true true second = omega arith
length-inputs_at_listen true false second = omega arith
length-inputs_at_listen false c second = omega arith

-- at most one comes of a byte
length-inputs_at_byte : (b : Bool) (byte : ℕ) → length (cond b (Byte byte ∷ []) []) ≤ 2
length-inputs_at_byte true byte = omega arith
length-inputs_at_byte false byte = omega arith

-- an item gives at most two inputs
pub length-inputs_at : (device : ℕ) (before : List Item) (item : Item) → length (inputs_at device before item) ≤ 2
length-inputs_at device before (Attention first None) = length-inputs_at_listen (first == 32 + device) false None
length-inputs_at device before (Attention first (Some s)) = length-inputs_at_listen (first == 32 + device) (s == 103) None
length-inputs_at device before (Sent b eoi) = length-inputs_at_byte (is_listener device before) b

-- at most two inputs for each item, after others
length-heard_from : (device : ℕ) (before items : List Item) → length (flat_map (λ p. inputs_at device p.0 p.1) (with_before before items)) ≤ 2 * length items
length-heard_from device before [] = omega arith
length-heard_from device before (item ∷ items) = omega (arith, length-inputs_at device before item, length-heard_from device (before ++ item ∷ []) items, length-append (inputs_at device before item) (flat_map (λ p. inputs_at device p.0 p.1) (with_before (before ++ item ∷ []) items)))

-- at most two inputs for each item, from the beginning
pub length-heard_by : (present : Present) (device : ℕ) (items : List Item) → length (heard_by present device items) ≤ 2 * length items
length-heard_by present device items =
    elim (is_present present device) as (λ b. length (cond b (flat_map (λ p. inputs_at device p.0 p.1) (with_before [] items)) []) ≤ 2 * length items) [
      | true ↦ length-heard_from device [] items
      | false ↦ omega arith
    ]

-- what is heard of the later items is no more than what is heard of all
pub length-heard_since : (present : Present) (device : ℕ) (before items : List Item) (since now : List Input) → now ≡ since → heard_by present device before ++ since ≡ heard_by present device items → length now ≤ 2 * length items
length-heard_since present device before items since now same heard =
    omega (arith, ap length same, ap length heard, length-append (heard_by present device before) since, length-heard_by present device items)
