-- Words of calls: what a device heard since the mark. Who uses a `Bus` by itself believes them; no
-- claim about a run rests on them.
use Rattle.std.specs.Prelude.{◌≡◌, ⊤, ℕ, ◌*◌, ◌≤◌, ◌++◌, false, Option, Some, None, List, [], length, take}
use Rattle.pr_serial.specs.declared.Present.{Present}
use Rattle.pr_serial.specs.declared.Item.{Item}
use Rattle.pr_page.specs.declared.input.Input.{Input}
use Rattle.pr_serial.specs.Heard.{is_present, heard_by}

-- the items before a mark
abbrev pub items_before : Option ℕ → List Item → List Item
items_before None items = []
items_before (Some n) items = take n items

-- the items have come to the mark: it is not past them
abbrev pub IsReached : Option ℕ → List Item → Type 0
IsReached None items = ⊤
IsReached (Some n) items = n ≤ length items

-- the inputs are what the device heard of the items after the mark: none if it is absent, and with
-- those before the mark at most two for each item
pub record IsHeardSinceMark (present : Present) (mark : Option ℕ) (items : List Item) (device : ℕ)
    (inputs : List Input) : Type 0 where
  pub heard : heard_by present device (items_before mark items) ++ inputs ≡ heard_by present device items
  pub absent : is_present present device ≡ false → inputs ≡ []
  pub bounded : length (heard_by present device items) ≤ 2 * length items
  pub short : length inputs ≤ 2 * length items
