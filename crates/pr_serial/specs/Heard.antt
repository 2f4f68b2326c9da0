-- Trusted: what each device hears.
use Rattle.std.specs.Prelude.{ℕ, Bool, true, false, ◌&&◌, ◌||◌, ◌==◌, ◌+◌, Option, Some, None, List, [], ◌∷◌, if◌then◌else◌}
use Rattle.std.specs.List.{flat_map}
use Rattle.pr_page.specs.Before.{with_before}
use Rattle.pr_page.specs.declared.input.Input.{Input}
use Rattle.pr_page.specs.declared.input.Input.TheVariants.{Select, Byte}
use Rattle.pr_base.specs.Bytes as command
use Rattle.pr_serial.specs.declared.Present.{Present}
use Rattle.pr_serial.specs.declared.Item.{Item}
use Rattle.pr_serial.specs.declared.Item.TheVariants.{Attention, Sent}
use Rattle.pr_serial.specs.Answers.{is_listener}

-- a printer with this number is present
abbrev pub is_present : Present → ℕ → Bool
is_present present device = (present.four && device == 4) || (present.five && device == 5)

-- what an item gives a device: a LISTEN to it selects the graphic/upper case set, and then
-- secondary address 7, as its second command, the lower/upper case set; a byte comes if the device
-- listens
abbrev pub inputs_at : ℕ → List Item → Item → List Input
inputs_at device before (Attention first second) =
    if first == command.listen + device then Select false ∷ select_lower second else []
  where
    select_lower : Option ℕ → List Input
    select_lower None = []
    select_lower (Some s) = if s == command.secondary + 7 then Select true ∷ [] else []
inputs_at device before (Sent b eoi) = if is_listener device before then Byte b ∷ [] else []

-- what a device hears of the items, in order; an absent device hears nothing
abbrev pub heard_by : Present → ℕ → List Item → List Input
heard_by present device items =
    if is_present present device
    then flat_map (λ p. inputs_at device p.0 p.1) (with_before [] items)
    else []
