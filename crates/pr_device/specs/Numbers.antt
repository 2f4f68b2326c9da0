-- Trusted: the raw numbers of delays with which the timed trace has the delays of devices.
use Rattle.std.specs.Prelude.{ℕ, ◌-◌, cond, if◌then◌else◌, List, [], ◌∷◌, ◌++◌, Option, Some, None}
use Rattle.pr_serial.specs.declared.Present.{Present}
use Rattle.pr_serial.specs.declared.Item.{Item}
use Rattle.pr_serial.specs.declared.Item.TheVariants as item
use Rattle.pr_serial.specs.Answers.{is_listener}
use Rattle.pr_serial.specs.Bus.{DelayNumbers}
use Rattle.pr_wire.specs.declared.delay.Kind.{Kind}
use Rattle.pr_wire.specs.declared.delay.Kind.TheVariants.{At, H, Ye, Ei, F, Dr}
use Rattle.pr_wire.specs.Delays.{bounds_of}
use Rattle.pr_device.specs.declared.timing.Timing.{Timing}
use Rattle.pr_device.specs.Course.{Party}

-- the raw number of a delay
abbrev pub number_for : Kind → ℕ → ℕ
number_for kind delay = delay - (bounds_of kind).0

-- the numbers that a printer takes for a second command
abbrev pub second_numbers : Timing → Option ℕ → List ℕ
second_numbers t None = []
second_numbers t (Some byte) = number_for H t.hold ∷ (number_for F t.accept ∷ [])

-- and in an item, after the items before it
abbrev pub item_numbers : Party → List Item → Item → List ℕ
item_numbers p before (item.Attention byte second) =
    number_for At p.timing.attention ∷ (number_for H p.timing.hold ∷ (number_for F p.timing.accept
    ∷ (second_numbers p.timing second
    ++ (if is_listener p.device (before ++ item.Attention byte second ∷ []) then []
    else number_for Dr p.timing.leave ∷ []))))
item_numbers p before (item.Sent byte eoi) =
    if is_listener p.device before
    then number_for H p.timing.hold ∷ (number_for Ye p.timing.wait
    ∷ (if eoi then number_for Ei p.timing.answer ∷ (number_for F p.timing.accept ∷ [])
    else number_for F p.timing.accept ∷ []))
    else []

-- the numbers that it takes in items
abbrev pub numbers_for : Party → List Item → List Item → List ℕ
numbers_for p before [] = []
numbers_for p before (x ∷ xs) = item_numbers p before x ++ numbers_for p (before ++ x ∷ []) xs

-- devices 4 and 5 with these delays
abbrev pub device_four : Timing → Party
device_four t = record { device = 4; timing = t }

abbrev pub device_five : Timing → Party
device_five t = record { device = 5; timing = t }

-- those that are present
abbrev pub devices_of : Present → Timing → Timing → List Party
devices_of present four five =
    cond present.four (device_four four ∷ []) [] ++ cond present.five (device_five five ∷ []) []

-- the numbers of the computer, and those of both devices
abbrev pub delays_for : List ℕ → Timing → Timing → List Item → DelayNumbers
delays_for computer four five items = record {
  computer = computer;
  four = numbers_for (device_four four) [] items;
  five = numbers_for (device_five five) [] items;
}
