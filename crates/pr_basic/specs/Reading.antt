-- Linking words: the statement, or the first fault and its place, of the lexemes of a part, as the reader takes them. The laws of the
-- crate tie them to the grammar and to the table of faults. No reader needs to believe them.
use Rattle.std.specs.Prelude.{ℕ, ◌+◌, ◌-◌, ◌&&◌, List, [], ◌∷◌, length, ◌++◌, Bool, true, false, Option, Some, None, Result, Ok, Err, nat_le, nat_lt, if◌then◌else◌}
use Rattle.std.specs.List.{prefix_len}
use Rattle.pr_basic.specs.Limits.{byte_limit}
use Rattle.pr_basic.specs.Text.{Text}
use Rattle.pr_basic.specs.Lexemes.{Lexeme, Word, Remark, Digits, Quoted, Comma, Semicolon, OpenParen, CloseParen}
use Rattle.pr_basic.specs.Grammar.{is_printable}
use Rattle.pr_basic.specs.FaultRules.{Placed, start_of, within}
use Rattle.pr_base.specs.Digits.{number_of}
use Rattle.pr_basic.specs.declared.lexemes.Keyword.TheVariants as word
use Rattle.pr_basic.specs.declared.fault.LineFault.{LineFault}
use Rattle.pr_basic.specs.declared.fault.LineFault.TheVariants.{UnknownWord, BadNumber, BadDevice, BadSecond, BadByte, TooLong}
use Rattle.pr_basic.specs.declared.statement.Statement.{Statement}
use Rattle.pr_basic.specs.declared.statement.Statement.TheVariants.{OpenFile, CloseFile, Cmd, PrintTo, Print, Rem}

infixl 10 ◌>>=◌
abbrev pub ◌>>=◌ : {A B E : Type 0} → Result A E → (A → Result B E) → Result B E
(Ok x) >>= f = f x
(Err e) >>= f = Err e

-- a number within bounds, and the lexemes after it; the faults of a missing number and of one outside
unfoldable pub number_in : ℕ → ℕ → LineFault → LineFault → List Lexeme → Result (ℕ × List Lexeme) Placed
number_in low high missing outside (Digits ds ∷ ls) =
    if nat_le low (number_of ds) && nat_le (number_of ds) high then Ok (number_of ds, ls)
    else Err (outside, start_of (Digits ds ∷ ls))
number_in low high missing outside ls = Err (missing, start_of ls)

-- a comma, or the fault of a missing one
unfoldable pub comma_in : LineFault → List Lexeme → Result (List Lexeme) Placed
comma_in missing (Comma ∷ ls) = Ok ls
comma_in missing ls = Err (missing, start_of ls)

-- nothing may follow
unfoldable pub ended : Statement → List Lexeme → Result Statement Placed
ended s [] = Ok s
ended s (l ∷ ls) = Err (UnknownWord, start_of (l ∷ ls))

-- after the device, an optional comma and secondary address
unfoldable pub second_in : List Lexeme → Result (Option ℕ × List Lexeme) Placed
second_in (Comma ∷ ls) = number_in 0 15 BadSecond BadSecond ls >>= λ second. Ok (Some second.0, second.1)
second_in ls = Ok (None, ls)

-- file, device, and perhaps a secondary address
unfoldable pub open_in : List Lexeme → Result Statement Placed
open_in ls = do
  file ← number_in 0 255 BadNumber BadNumber ls
  rest ← comma_in BadDevice file.1
  device ← number_in 4 30 BadDevice BadDevice rest
  second ← second_in device.1
  ended (OpenFile file.0 device.0 second.0) second.1

-- a file
unfoldable pub close_in : List Lexeme → Result Statement Placed
close_in ls = do
  file ← number_in 0 255 BadNumber BadNumber ls
  ended (CloseFile file.0) file.1

-- one more byte of a list, which has at most 255, by the item at the front of some lexemes
unfoldable pub byte_added : List Lexeme → List ℕ → ℕ → Result (List ℕ) Placed
byte_added at bytes b = if nat_lt (length bytes) byte_limit then Ok (bytes ++ b ∷ []) else Err (TooLong, start_of at)

-- the bytes of a string, which is at the front of some lexemes: the first that may not be in one comes before the list's last byte, or
-- after it, or not at all
unfoldable pub string_added : List Lexeme → List ℕ → List ℕ → Result (List ℕ) Placed
string_added at bytes s =
    if nat_lt byte_limit (length bytes + prefix_len is_printable s)
    then Err (TooLong, within at (1 + (byte_limit - length bytes)))
    else (if nat_lt (prefix_len is_printable s) (length s)
    then Err (BadByte, within at (1 + prefix_len is_printable s)) else Ok (bytes ++ s))

-- `)` after a number
unfoldable pub closed_in : ℕ → List Lexeme → Result (ℕ × List Lexeme) Placed
closed_in n (CloseParen ∷ ls) = Ok (n, ls)
closed_in n ls = Err (UnknownWord, start_of ls)

-- `(`, a number and `)`
unfoldable pub chr_in : List Lexeme → Result (ℕ × List Lexeme) Placed
chr_in (OpenParen ∷ ls) = number_in 0 255 BadNumber BadByte ls >>= λ n. closed_in n.0 n.1
chr_in ls = Err (UnknownWord, start_of ls)

-- the byte of a CHR$, which is at the front of some lexemes, and the lexemes after it
unfoldable pub chr_added : List Lexeme → List ℕ → List Lexeme → Result (List ℕ × List Lexeme) Placed
chr_added at bytes ls = chr_in ls >>= λ n. byte_added at bytes n.0 >>= λ more. Ok (more, n.1)

-- the list that goes on after these bytes; `ends` unless the last lexeme was a semicolon
unfoldable pub line_in : List ℕ → Bool → List Lexeme → Result Text Placed
line_in bytes ends [] = Ok (record { bytes = bytes; ends = ends })
line_in bytes ends (Semicolon ∷ ls) = line_in bytes false ls
line_in bytes ends (Quoted s ∷ ls) = string_added (Quoted s ∷ ls) bytes s >>= λ more. line_in more true ls
line_in bytes ends (Word word.Chr ∷ OpenParen ∷ Digits ds ∷ CloseParen ∷ ls) =
    if nat_le (number_of ds) 255
    then byte_added (Word word.Chr ∷ OpenParen ∷ Digits ds ∷ CloseParen ∷ ls) bytes (number_of ds)
    >>= (λ more. line_in more true ls)
    else Err (BadByte, start_of (Digits ds ∷ CloseParen ∷ ls))
line_in bytes ends (Word word.Chr ∷ OpenParen ∷ Digits ds ∷ ls) =
    if nat_le (number_of ds) 255 then Err (UnknownWord, start_of ls) else Err (BadByte, start_of (Digits ds ∷ ls))
line_in bytes ends (Word word.Chr ∷ OpenParen ∷ ls) = Err (BadNumber, start_of ls)
line_in bytes ends (Word word.Chr ∷ ls) = Err (UnknownWord, start_of ls)
line_in bytes ends (l ∷ ls) = Err (UnknownWord, start_of (l ∷ ls))

-- an optional list after a file; a comma needs a list that is not empty
unfoldable pub optional_line_in : List Lexeme → Result Text Placed
optional_line_in [] = Ok (record { bytes = []; ends = true })
optional_line_in (Comma ∷ []) = Err (UnknownWord, start_of [])
optional_line_in (Comma ∷ l ∷ ls) = line_in [] true (l ∷ ls)
optional_line_in (l ∷ ls) = Err (UnknownWord, start_of (l ∷ ls))

-- CMD: a file and perhaps a list
unfoldable pub cmd_in : List Lexeme → Result Statement Placed
cmd_in ls = do
  file ← number_in 0 255 BadNumber BadNumber ls
  line ← optional_line_in file.1
  Ok (Cmd file.0 line)

-- PRINT#: the same
unfoldable pub print_to_in : List Lexeme → Result Statement Placed
print_to_in ls = do
  file ← number_in 0 255 BadNumber BadNumber ls
  line ← optional_line_in file.1
  Ok (PrintTo file.0 line)

-- PRINT: a list
unfoldable pub print_in : List Lexeme → Result Statement Placed
print_in ls = line_in [] true ls >>= λ line. Ok (Print line)

-- the statement that a part of a line spells, none where it has no lexeme, or its first fault
unfoldable pub statement_in : List Lexeme → Result (Option Statement) Placed
statement_in [] = Ok None
statement_in (Remark ∷ ls) = Ok (Some Rem)
statement_in (Word word.Open ∷ ls) = open_in ls >>= λ s. Ok (Some s)
statement_in (Word word.Close ∷ ls) = close_in ls >>= λ s. Ok (Some s)
statement_in (Word word.Cmd ∷ ls) = cmd_in ls >>= λ s. Ok (Some s)
statement_in (Word word.PrintTo ∷ ls) = print_to_in ls >>= λ s. Ok (Some s)
statement_in (Word word.Print ∷ ls) = print_in ls >>= λ s. Ok (Some s)
statement_in (l ∷ ls) = Err (UnknownWord, start_of (l ∷ ls))
