-- Machine steps: how the first line of a text is read. No reader needs to believe them.
use Rattle.std.specs.Prelude.{ℕ, ◌+◌, ◌==◌, ◌&&◌, Bool, true, false, List, [], ◌∷◌, length, take, drop, Option, Some, None, nat_lt, if◌then◌else◌}
use Rattle.std.specs.List.{prefix_len}
use Rattle.pr_wire.specs.declared.Levels.{Levels}
use Rattle.pr_wire.specs.declared.line.EdgeLine.{EdgeLine}
use Rattle.pr_base.specs.Digits.{is_digit, number_after}

-- the time that some digits spell, where there are any and it is below 2^64
unfoldable pub time_in : List ℕ → Option ℕ
time_in digits =
    if nat_lt 0 (length digits) && nat_lt (number_after 0 digits) 18446744073709551616
    then Some (number_after 0 digits) else None

abbrev pub level_in : ℕ → Option Bool
level_in b = if b == 48 then Some false else (if b == 49 then Some true else None)

abbrev pub levels_with : Option Bool → Option Bool → Option Bool → Option Levels
levels_with (Some atn) (Some clock) (Some line) = Some (record { atn = atn; clock = clock; line = line })
levels_with (Some atn) (Some clock) None = None
levels_with (Some atn) None line = None
levels_with None clock line = None

-- the length of a line's end in front
abbrev pub end_after_return : List ℕ → Option ℕ
end_after_return [] = Some 1
end_after_return (b ∷ bs) = if b == 10 then Some 2 else None

unfoldable pub end_in : List ℕ → Option ℕ
end_in [] = Some 0
end_in (b ∷ bs) = if b == 10 then Some 1 else (if b == 13 then end_after_return bs else None)

abbrev pub line_with : Option ℕ → Option Levels → Option ℕ → ℕ → Option EdgeLine
line_with (Some time) (Some levels) (Some end) digits =
    Some (record { edge = record { time = time; levels = levels }; len = digits + 4 + end })
line_with (Some time) (Some levels) None digits = None
line_with (Some time) None end digits = None
line_with None levels end digits = None

-- what follows the digits of a line, and the edge with their time
unfoldable pub tail_in : Option ℕ → ℕ → List ℕ → Option EdgeLine
tail_in time digits (s ∷ a ∷ c ∷ d ∷ end) =
    if s == 32 then line_with time (levels_with (level_in a) (level_in c) (level_in d)) (end_in end) digits else None
tail_in time digits bs = None

-- the edge of a text's first line, and the line's length
unfoldable pub line_in : List ℕ → Option EdgeLine
line_in text =
    tail_in (time_in (take (prefix_len is_digit text) text)) (prefix_len is_digit text)
    (drop (prefix_len is_digit text) text)

-- what follows the digits of a line that ends with byte 10 alone, and the edge with their time
unfoldable pub ended_in : Option ℕ → ℕ → List ℕ → Option EdgeLine
ended_in time digits (s ∷ a ∷ c ∷ d ∷ end ∷ more) =
    if s == 32 && end == 10 then line_with time (levels_with (level_in a) (level_in c) (level_in d)) (Some 1) digits
    else None
ended_in time digits bs = None

-- the edge of a text's first line, which ends with byte 10 alone, and the line's length
unfoldable pub ended_line_in : List ℕ → Option EdgeLine
ended_line_in text =
    ended_in (time_in (take (prefix_len is_digit text) text)) (prefix_len is_digit text)
    (drop (prefix_len is_digit text) text)
