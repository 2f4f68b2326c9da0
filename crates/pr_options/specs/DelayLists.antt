-- Trusted: the value of --delays: at most three lists of raw delay numbers, for the computer, printer 4 and printer 5.
use Rattle.std.specs.Prelude.{◌≡◌, ℕ, ◌==◌, ◌&&◌, Bool, List, [], ◌∷◌, length, map, Option, Some, None, nat_le, if◌then◌else◌}
use Rattle.std.specs.List.{list_all, slice_split}
use Rattle.pr_base.specs.Digits.{is_digit, number_of}
use Rattle.pr_serial.specs.Bus.{DelayNumbers}
use Rattle.pr_wire.specs.Choices.{left}
use Rattle.pr_bus.specs.declared.wires.Delays.{Delays}

-- one to five digits that spell at most 65535
abbrev pub is_raw_number : List ℕ → Bool
is_raw_number text =
    nat_le 1 (length text) && (nat_le (length text) 5 && (list_all is_digit text && nat_le (number_of text) 65535))

-- the words of a list, separated by commas; an empty list has none
abbrev pub words_of : List ℕ → List (List ℕ)
words_of [] = []
words_of (b ∷ bs) = slice_split (λ x. x == 44) (b ∷ bs)

-- a list of which each word is a number
abbrev pub is_number_list : List ℕ → Bool
is_number_list text = list_all is_raw_number (words_of text)

-- the numbers of a list
abbrev pub numbers_in : List ℕ → List ℕ
numbers_in text = map number_of (words_of text)

-- the numbers of three lists, if all are lists of numbers
abbrev pub three_lists : List ℕ → List ℕ → List ℕ → Option DelayNumbers
three_lists computer four five =
    if is_number_list computer && (is_number_list four && is_number_list five)
    then Some (record { computer = numbers_in computer; four = numbers_in four; five = numbers_in five })
    else None

-- one to three lists; those that are missing are empty
abbrev pub up_to_three : List (List ℕ) → Option DelayNumbers
up_to_three (computer ∷ []) = three_lists computer [] []
up_to_three (computer ∷ four ∷ []) = three_lists computer four []
up_to_three (computer ∷ four ∷ five ∷ []) = three_lists computer four five
up_to_three _ = None

-- the numbers of a value of --delays, with slashes between its lists
abbrev pub delays_of : List ℕ → Option DelayNumbers
delays_of text = up_to_three (slice_split (λ x. x == 47) text)

-- no number has been taken
abbrev pub IsFresh : Delays → Type 0
IsFresh delays = (left delays.computer ≡ delays.computer.numbers)
    × (left delays.four ≡ delays.four.numbers) × (left delays.five ≡ delays.five.numbers)
