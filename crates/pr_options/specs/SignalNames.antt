-- Trusted: the value of --names: the names of the signals of ATN, CLOCK and DATA, separated by commas.
use Rattle.std.specs.Prelude.{ℕ, ◌==◌, ◌-◌, ◌&&◌, Bool, false, List, [], ◌∷◌, codes, length, map, not, Option, Some, None, if◌then◌else◌, take, drop}
use Rattle.std.specs.Char.{is_ascii_whitespace}
use Rattle.std.specs.List.{prefix_len, slice_split, suffix_len}
use Rattle.std.specs.Str.{str_eq_ignore_ascii_case}
use Rattle.pr_capture.specs.declared.signals.Signals.{Signals}

-- the names of the three signals
pub record Names : Type 0 where
  pub atn : List ℕ
  pub clock : List ℕ
  pub line : List ℕ

-- a text without the white space in front of it
abbrev pub without_front : List ℕ → List ℕ
without_front text = drop (prefix_len is_ascii_whitespace text) text

-- a text without the white space after it
abbrev pub without_end : List ℕ → List ℕ
without_end text = take (length text - suffix_len is_ascii_whitespace text) text

-- a text without the white space around it
abbrev pub trimmed : List ℕ → List ℕ
trimmed text = without_end (without_front text)

-- a name is not empty, and has no quotation mark in front: the names in a recording are read without them
abbrev pub is_name : List ℕ → Bool
is_name [] = false
is_name (b ∷ bs) = not (b == 34)

-- one name is CLOCK and the other CLK, which CLOCK may also have, in upper or lower case
abbrev pub is_clock_twice : List ℕ → List ℕ → Bool
is_clock_twice a b = str_eq_ignore_ascii_case a (codes "CLOCK") && str_eq_ignore_ascii_case b (codes "CLK")

-- no signal can have both names: they differ, also apart from case, and they are not CLOCK and CLK
abbrev pub differ : List ℕ → List ℕ → Bool
differ a b = not (str_eq_ignore_ascii_case a b) && (not (is_clock_twice a b) && not (is_clock_twice b a))

-- three names, of which no two can name one signal
abbrev pub are_names : (atn clock line : List ℕ) → Bool
are_names atn clock line =
    (is_name atn && (is_name clock && is_name line)) && (differ atn clock && (differ atn line && differ clock line))

-- the names of three texts
abbrev pub three_names : List (List ℕ) → Option Names
three_names (atn ∷ clock ∷ line ∷ []) =
    if are_names atn clock line then Some (record { atn = atn; clock = clock; line = line }) else None
three_names _ = None

-- the names of a value of --names: white space around a name does not count
abbrev pub names_of : List ℕ → Option Names
names_of text = three_names (map trimmed (slice_split (λ b. b == 44) text))

-- the names that a recording's signals are compared with
abbrev pub names_of_signals : Signals → Names
names_of_signals s = record { atn = s.atn.now; clock = s.clock.now; line = s.line.now }
