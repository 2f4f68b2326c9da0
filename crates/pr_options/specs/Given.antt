-- Trusted: what the words of a command line give an option, by the rows of clap's matches.
use Rattle.std.specs.Prelude.{◌-◌, ◌&&◌, ◌||◌, ◌==◌, ◌∷◌, Bool, true, false, List, Option, Some, None, codes, drop, find, if◌then◌else◌, length, nat_le, option_and_then, option_map, unwrap_or}
use Rattle.std.specs.Option.{option_map_or, option_or}
use Rattle.std.specs.Str.{bytes_eq, str_eq_ignore_ascii_case}
use Rattle.clap.specs.Words.{Row, Text, first_of}
use Rattle.clap.specs.declared.parser.matches.ValueSource.{ValueSource}
use Rattle.clap.specs.declared.parser.matches.ValueSource.TheVariants.{CommandLine, DefaultValue}
use Rattle.pr_options.specs.Rows.{OptionRow, foreign, row}
use Rattle.pr_options.specs.declared.options.Opt.{Opt}
use Rattle.pr_options.specs.declared.options.Opt.TheVariants as opt

-- a value comes from the words, not from a default
abbrev pub is_of_words : Option ValueSource → Bool
is_of_words None = false
is_of_words (Some DefaultValue) = false
is_of_words (Some CommandLine) = true

-- the words have an option of this name
abbrev pub is_named : Text → List Row → Bool
is_named name rows =
    option_map_or (λ row. is_of_words row.source) (find (λ row. bytes_eq row.id name) rows) false

-- the words have this option or flag
abbrev pub is_given : Opt → List Row → Bool
is_given o rows = is_named (row o).name rows

-- a file's name ends so, in capitals or not
abbrev pub has_ending : Text → Text → Bool
has_ending name ending = nat_le (length ending) (length name)
    && str_eq_ignore_ascii_case (drop (length name - length ending) name) ending

-- the value of the first of these endings that the name has
abbrev pub value_by_ending : List (Text × Text) → Text → Option Text
value_by_ending endings name = option_map (λ e. e.1) (find (λ e. has_ending name e.0) endings)

-- the same by the endings of an option, or else by those that no format has
abbrev pub value_by_name : (endings foreign : List (Text × Text)) → Text → Option Text
value_by_name endings foreign name = option_or (value_by_ending endings name) (value_by_ending foreign name)

-- the name of a file; `-` is none
abbrev pub named : Text → Option Text
named name = if bytes_eq name (codes "-") then None else Some name

-- the file that words give by this argument; without one, standard input or standard output serves
abbrev pub file_in : Text → List Row → Option Text
file_in argument rows = option_and_then named (first_of argument rows)

-- the value that the ending of a file's name gives, where words do not give the option itself
abbrev pub ending_value : OptionRow → (foreign : List (Text × Text)) → List Row → Option Text
ending_value option foreign rows = if is_named option.name rows then None
    else option_and_then (value_by_name option.endings foreign) (file_in option.file rows)

-- the value of an option: the one that words give; else the one that a file's name gives; else its default, which
-- serves in a subcommand that does not have the option too
abbrev pub value_in : Opt → List Row → Text
value_in o rows = unwrap_or (ending_value (row o) (foreign o) rows) (unwrap_or (first_of (row o).name rows) (row o).default)

-- the file of characters that words name, whatever its name
abbrev pub characters_in : List Row → Option Text
characters_in rows = first_of (row opt.Characters).name rows

-- a word begins with `-q`
abbrev pub begins_with_letter : Text → Bool
begins_with_letter (first ∷ second ∷ rest) = (first == 45) && (second == 113)
begins_with_letter _ = false

-- a word asks for no notes: the flag, or its letter with or without others behind it
abbrev pub is_quiet_word : Text → Bool
is_quiet_word word = bytes_eq word (codes "--quiet") || begins_with_letter word
