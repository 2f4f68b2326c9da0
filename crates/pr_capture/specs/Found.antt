-- Trusted: the format of a recording by its first bytes.
use Rattle.std.specs.Prelude.{◌==◌, ◌||◌, ℕ, Bool, codes, drop, false, List, Option, find, if◌then◌else◌, nat_eq, not}
use Rattle.std.specs.Char.{is_ascii_whitespace}
use Rattle.std.specs.List.{prefix_len, starts_with}
use Rattle.std.specs.Option.{option_map_or}
use Rattle.pr_capture.specs.declared.format.InputFormat.{InputFormat}
use Rattle.pr_capture.specs.declared.format.InputFormat.TheVariants.{Csv, Vcd}
use Rattle.pr_capture.specs.Csv.{is_archive, is_inner, is_separator, is_wide}

-- the first line is the one that sigrok-cli puts in front of a dump and of a table
abbrev pub has_meta : List ℕ → Bool
has_meta bytes = starts_with nat_eq bytes (codes "META samplerate:")

-- without that line, if it is there
abbrev pub behind_meta : List ℕ → List ℕ
behind_meta bytes = if has_meta bytes then drop (prefix_len is_inner bytes) bytes else bytes

-- the first byte after it that is no blank
abbrev pub front : List ℕ → Option ℕ
front bytes = find (λ b. not (is_ascii_whitespace b)) (behind_meta bytes)

-- a dump begins with `$` (36)
abbrev pub begins_as_dump : List ℕ → Bool
begins_as_dump bytes = option_map_or (λ b. b == 36) (front bytes) false

-- a separator comes before the first line's end
abbrev pub has_separator : List ℕ → Bool
has_separator bytes = option_map_or is_separator (find (λ b. is_separator b || b == 10) bytes) false

-- a table begins with `;` (59), `#` (35) or sigrok-cli's line, or has a separator in its first line; text of 16 bits a
-- letter and zip archives, such as .sr, .sal and .dsl files, are left to the reader of tables, which refuses them by name
abbrev pub begins_as_table : List ℕ → Bool
begins_as_table bytes =
    is_wide bytes || is_archive bytes || has_meta bytes
    || option_map_or (λ b. b == 59 || b == 35) (front bytes) false || has_separator bytes

-- the format that the first bytes of a recording show, or else this one
abbrev pub found_format : InputFormat → List ℕ → InputFormat
found_format source bytes =
    if begins_as_dump bytes then Vcd else (if begins_as_table bytes then Csv else source)
