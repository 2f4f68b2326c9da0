-- Trusted: how the lexemes of a line are its statements.
use Rattle.std.specs.Prelude.{ℕ, zero, suc, ◌+◌, ◌-◌, ◌==◌, ◌||◌, ◌&&◌, Bool, true, false, not, List, [], ◌∷◌, ◌++◌}
use Rattle.std.specs.Prelude.{length, drop, nat_le, if◌then◌else◌, Option, Some, None, Result, Ok, Err}
use Rattle.std.specs.List.{prefix_len}
use Rattle.pr_interpreter.specs.declared.constants.Constant.{Constant}
use Rattle.pr_interpreter.specs.declared.constants.Tens.{Tens}
use Rattle.pr_interpreter.specs.declared.constants.Tens.TheVariants.{Over, Times}
use Rattle.pr_interpreter.specs.declared.expressions.Placed.{Placed}
use Rattle.pr_interpreter.specs.declared.fault.ProgramFault.{ProgramFault}
use Rattle.pr_interpreter.specs.declared.fault.ProgramFault.TheVariants.{NoStatement, NotTaken}
use Rattle.pr_interpreter.specs.declared.lexemes.Lexeme.{Lexeme}
use Rattle.pr_interpreter.specs.declared.lexemes.Word.{Word}
use Rattle.pr_interpreter.specs.declared.lexemes.Word.TheVariants.{Code, Comparison, Constant as Digits, Items, Named}
use Rattle.pr_interpreter.specs.declared.lexemes.Word.TheVariants.{Remark, Text}
use Rattle.pr_interpreter.specs.declared.names.Name.{Name}
use Rattle.pr_interpreter.specs.declared.statements.Item.{Item}
use Rattle.pr_interpreter.specs.declared.statements.Part.{Part}
use Rattle.pr_interpreter.specs.declared.statements.Part.TheVariants.{Comma, Semicolon, Spaces, Tab, Value}
use Rattle.pr_interpreter.specs.declared.statements.PlacedStatement.{PlacedStatement}
use Rattle.pr_interpreter.specs.declared.statements.Statement.{Statement}
use Rattle.pr_interpreter.specs.declared.statements.Statement.TheVariants.{Clear, Close, Command, Define, Dim, End, For}
use Rattle.pr_interpreter.specs.declared.statements.Statement.TheVariants.{Go, If, Let, Next, NoStatement as SyntaxError}
use Rattle.pr_interpreter.specs.declared.statements.Statement.TheVariants.{Nothing, NotTaken as Refused, On, Open, Poke}
use Rattle.pr_interpreter.specs.declared.statements.Statement.TheVariants.{Print, PrintFile, Read as Reads, Restore}
use Rattle.pr_interpreter.specs.declared.statements.Statement.TheVariants.{Return, Stop}
use Rattle.pr_interpreter.specs.declared.statements.Target.{Target}
use Rattle.pr_interpreter.specs.declared.statements.Way.{Way}
use Rattle.pr_interpreter.specs.declared.statements.Way.TheVariants.{Gosub, Goto}
use Rattle.pr_interpreter.specs.Expressions.{expression}
use Rattle.pr_interpreter.specs.Reading.{Read, after, after_value, and_then, at_end, front_code, front_place, list_of}
use Rattle.pr_interpreter.specs.Reading.{longer, made, no_statement, not_taken, or_fault, others_of, repeated, word_code}

-- ---- line numbers

abbrev pub is_unscaled : Tens → Bool
is_unscaled (Times n) = n == 0
is_unscaled (Over n) = false

-- the line number that digits alone make, if it is at most 63999
abbrev pub constant_line : Constant → Option ℕ
constant_line c = if c.plain && is_unscaled c.tens && nat_le c.digits 63999 then Some c.digits else None

abbrev pub word_line : Word → Option ℕ
word_line (Digits c) = constant_line c
word_line (Code c) = None
word_line (Comparison o) = None
word_line (Named name) = None
word_line (Text start end) = None
word_line (Items start end) = None
word_line Remark = None

-- the line number at the front
abbrev pub front_line : List Lexeme → Option ℕ
front_line [] = None
front_line (l ∷ ls) = word_line l.word

-- a word that begins with digits, or may do so
abbrev pub has_digits : Word → Bool
has_digits (Digits c) = true
has_digits (Code c) = c == 0
has_digits (Comparison o) = false
has_digits (Named name) = false
has_digits (Text start end) = false
has_digits (Items start end) = false
has_digits Remark = false

abbrev pub begins_digits : List Lexeme → Bool
begins_digits [] = false
begins_digits (l ∷ ls) = has_digits l.word

-- what begins with digits and is no line number, as 10.5, is not taken: the machine reads the digits alone
abbrev pub line_or : Option ℕ → ℕ → List Lexeme → Read ℕ
line_or None end ls = not_taken end ls
line_or (Some n) end ls = Ok (n, 1)

-- a line number; it is 0 where there are no digits
unfoldable pub line : ℕ → List Lexeme → Read ℕ
line end ls = if begins_digits ls then line_or (front_line ls) end ls else Ok (0, 0)

-- ---- variables

abbrev pub word_name : Word → Option Name
word_name (Named name) = Some name
word_name (Code c) = None
word_name (Comparison o) = None
word_name (Digits c) = None
word_name (Text start end) = None
word_name (Items start end) = None
word_name Remark = None

-- the name at the front
abbrev pub front_name : List Lexeme → Option Name
front_name [] = None
front_name (l ∷ ls) = word_name l.word

abbrev pub name_or : Option Name → ℕ → List Lexeme → Read Name
name_or None end ls = no_statement end ls
name_or (Some n) end ls = Ok (n, 1)

unfoldable pub variable : ℕ → List Lexeme → Read Name
variable end ls = name_or (front_name ls) end ls

-- a parenthesis closes
abbrev pub closing : {A : Type 0} → A → ℕ → List Lexeme → Read A
closing a end ls = if front_code ls == 41 then Ok (a, 1) else not_taken end ls

abbrev pub target_at : Name → ℕ → List (List Placed) → Target
target_at name place indices = record { name = name; place = place; indices = indices }

-- the indices of an element whose name is at a place, and the parenthesis after them
unfoldable pub element : Name → ℕ → ℕ → List Lexeme → Read Target
element name place end ls =
    and_then (list_of expression end ls) ls (λ indices rest. closing (target_at name place indices) end rest)

-- what follows a name at a place: a parenthesis opens the indices of an element
unfoldable pub indexed : Name → ℕ → ℕ → List Lexeme → Read Target
indexed name place end ls =
    if front_code ls == 40 then longer 1 (element name place end (drop 1 ls)) else Ok (target_at name place [], 0)

-- a variable or an element of an array
unfoldable pub target : ℕ → List Lexeme → Read Target
target end ls = and_then (variable end ls) ls (λ name rest. indexed name (front_place end ls) end rest)

abbrev pub is_some : Option Name → Bool
is_some None = false
is_some (Some name) = true

-- one of several after the first, which the machine has come to by then
unfoldable pub further_target : ℕ → List Lexeme → Read Target
further_target end ls = if is_some (front_name ls) then target end ls else not_taken end ls

-- one or several, separated by commas
abbrev pub targets : ℕ → List Lexeme → Read (List Target)
targets end ls = and_then (target end ls) ls (λ t rest. others_of further_target (t ∷ []) end rest)

-- ---- LET, FOR and others with variables

-- what follows what takes a value: the machine works the indices of an element out before it looks at `=`
unfoldable pub assigned : Target → ℕ → List Lexeme → Read Statement
assigned t end ls =
    if front_code ls == 178 then longer 1 (made (expression end (drop 1 ls)) (λ value. Let t value))
    else if length t.indices == 0 then no_statement end ls
    else not_taken end ls

unfoldable pub assignment : ℕ → List Lexeme → Read Statement
assignment end ls = and_then (target end ls) ls (λ t rest. assigned t end rest)

-- STEP may be left out
unfoldable pub step : ℕ → List Lexeme → Read (Option (List Placed))
step end ls = if front_code ls == 169 then made (after 169 expression end ls) (λ value. Some value) else Ok (None, 0)

unfoldable pub for_to : Name → List Placed → ℕ → List Lexeme → Read Statement
for_to v from end ls =
    and_then (after_value 164 expression end ls) ls (λ to rest. made (step end rest) (λ s. For v from to s))

unfoldable pub for_from : Name → ℕ → List Lexeme → Read Statement
for_from v end ls = and_then (after 178 expression end ls) ls (λ from rest. for_to v from end rest)

unfoldable pub for_statement : ℕ → List Lexeme → Read Statement
for_statement end ls = and_then (variable end ls) ls (λ v rest. for_from v end rest)

unfoldable pub next_statement : ℕ → List Lexeme → Read Statement
next_statement end ls = if at_end ls then Ok (Next [], 0) else made (targets end ls) (λ vs. Next vs)

-- the machine looks at the kind of each name before it goes on
unfoldable pub define_value : Name → Name → ℕ → List Lexeme → Read Statement
define_value name v end ls =
    if front_code ls == 41
    then longer 1 (made (after_value 178 expression end (drop 1 ls)) (λ value. Define name v value))
    else not_taken end ls

abbrev pub further_name : Option Name → ℕ → List Lexeme → Read Name
further_name None end ls = not_taken end ls
further_name (Some n) end ls = Ok (n, 1)

-- the variable of a function
unfoldable pub parameter : ℕ → List Lexeme → Read Name
parameter end ls = further_name (front_name ls) end ls

unfoldable pub define_of : Name → ℕ → List Lexeme → Read Statement
define_of name end ls = and_then (after_value 40 parameter end ls) ls (λ v rest. define_value name v end rest)

unfoldable pub define_statement : ℕ → List Lexeme → Read Statement
define_statement end ls = and_then (after 165 variable end ls) ls (λ name rest. define_of name end rest)

-- ---- IF, ON and others with line numbers

abbrev pub line_size : Option ℕ → ℕ
line_size None = 0
line_size (Some n) = 1

-- after a condition comes GOTO, which is a statement of its own, or THEN with a line number or statements
unfoldable pub then_part : List Placed → ℕ → List Lexeme → Read Statement
then_part condition end ls =
    if front_code ls == 137 then Ok (If condition None, 0)
    else if front_code ls == 167
    then Ok (If condition (front_line (drop 1 ls)), 1 + line_size (front_line (drop 1 ls)))
    else not_taken end ls

unfoldable pub if_statement : ℕ → List Lexeme → Read Statement
if_statement end ls = and_then (expression end ls) ls (λ condition rest. then_part condition end rest)

abbrev pub way_of : ℕ → Option Way
way_of c = if c == 137 then Some Goto else if c == 141 then Some Gosub else None

abbrev pub on_way : Option Way → List Placed → ℕ → List Lexeme → Read Statement
on_way None choice end ls = not_taken end ls
on_way (Some way) choice end ls = longer 1 (made (list_of line end (drop 1 ls)) (λ lines. On choice way lines))

unfoldable pub on_lines : List Placed → ℕ → List Lexeme → Read Statement
on_lines choice end ls = on_way (way_of (front_code ls)) choice end ls

unfoldable pub on_statement : ℕ → List Lexeme → Read Statement
on_statement end ls = and_then (expression end ls) ls (λ choice rest. on_lines choice end rest)

-- ---- PRINT and other output

unfoldable pub bracketed : ℕ → List Lexeme → Read (List Placed)
bracketed end ls = and_then (expression end ls) ls (λ value rest. closing value end rest)

-- the part at the front: TAB( and SPC( have a token with their parenthesis
unfoldable pub part : ℕ → List Lexeme → Read Part
part end ls =
    if front_code ls == 163 then longer 1 (made (bracketed end (drop 1 ls)) (λ value. Tab value))
    else if front_code ls == 166 then longer 1 (made (bracketed end (drop 1 ls)) (λ value. Spaces value))
    else if front_code ls == 44 then Ok (Comma, 1)
    else if front_code ls == 59 then Ok (Semicolon, 1)
    else made (expression end ls) (λ value. Value value)

unfoldable pub item : ℕ → List Lexeme → Read Item
item end ls = made (part end ls) (λ p. record { part = p; place = front_place end ls })

-- parts may be side by side
abbrev pub has_item : List Lexeme → Bool
has_item ls = not (at_end ls)

unfoldable pub items : ℕ → List Lexeme → Read (List Item)
items end ls = repeated has_item (item end) [] 0 0 ls

-- what is written to a file, after its number
unfoldable pub file_items : ℕ → List Lexeme → Read (List Item)
file_items end ls = if at_end ls then Ok ([], 0) else after_value 44 items end ls

unfoldable pub print_file : ℕ → List Lexeme → Read Statement
print_file end ls =
    and_then (expression end ls) ls (λ file rest. made (file_items end rest) (λ parts. PrintFile file parts))

unfoldable pub command : ℕ → List Lexeme → Read Statement
command end ls =
    and_then (expression end ls) ls (λ file rest. made (file_items end rest) (λ parts. Command file parts))

-- at most four values, and nothing after them
unfoldable pub four_values : ℕ → List Lexeme → Read (List (List Placed))
four_values end ls =
    and_then (list_of expression end ls) ls
    (λ values rest. if nat_le (length values) 4 && at_end rest then Ok (values, 0) else not_taken end rest)

unfoldable pub poke_value : List Placed → ℕ → List Lexeme → Read Statement
poke_value address end ls = made (after_value 44 expression end ls) (λ value. Poke address value)

unfoldable pub poke_statement : ℕ → List Lexeme → Read Statement
poke_statement end ls = and_then (expression end ls) ls (λ address rest. poke_value address end rest)

-- ---- statements by their keyword

-- keywords of statements that a run does not take, and 0, which may be anything
abbrev pub is_not_taken : ℕ → Bool
is_not_taken c =
    c == 0 || c == 132 || c == 133 || c == 138 || (nat_le 146 c && nat_le c 149) || c == 154 || c == 155 || c == 158
    || c == 161 || c == 162

-- a statement that has nothing after its keyword: the machine looks at that first
abbrev pub alone : Statement → ℕ → List Lexeme → Read Statement
alone s end ls = if at_end ls then Ok (s, 0) else no_statement end ls

-- a keyword at a place that needs nothing after it, or begins no statement
unfoldable pub bare_statement : ℕ → ℕ → ℕ → List Lexeme → Read Statement
bare_statement place c end ls =
    if c == 128 then alone End end ls else if c == 140 then Ok (Restore, 0)
    else if c == 142 then alone Return end ls else if c == 144 then alone Stop end ls
    else if c == 156 then alone Clear end ls
    else if is_not_taken c then Err (NotTaken place) else Err (NoStatement place)

unfoldable pub output_statement : ℕ → ℕ → ℕ → List Lexeme → Read Statement
output_statement place c end ls =
    if c == 153 then made (items end ls) (λ parts. Print parts)
    else if c == 152 then print_file end ls
    else if c == 157 then command end ls
    else if c == 159 then made (four_values end ls) (λ values. Open values)
    else if c == 160 then made (four_values end ls) (λ values. Close values)
    else if c == 151 then poke_statement end ls
    else bare_statement place c end ls

unfoldable pub line_statement : ℕ → ℕ → ℕ → List Lexeme → Read Statement
line_statement place c end ls =
    if c == 137 then made (line end ls) (λ n. Go Goto n)
    else if c == 141 then made (line end ls) (λ n. Go Gosub n)
    else if c == 203 then made (after 164 line end ls) (λ n. Go Goto n)
    else if c == 139 then if_statement end ls
    else if c == 145 then on_statement end ls
    else output_statement place c end ls

-- what follows a keyword at a place
unfoldable pub keyword_statement : ℕ → ℕ → ℕ → List Lexeme → Read Statement
keyword_statement place c end ls =
    if c == 136 then assignment end ls
    else if c == 129 then for_statement end ls
    else if c == 130 then next_statement end ls
    else if c == 134 then made (targets end ls) (λ arrays. Dim arrays)
    else if c == 135 then made (targets end ls) (λ variables. Reads variables)
    else if c == 150 then define_statement end ls
    else line_statement place c end ls

-- a statement by its first word; after THEN the machine takes digits for a line number
abbrev pub word_statement : Word → ℕ → ℕ → List Lexeme → Read Statement
word_statement (Named name) place end ls = assignment end ls
word_statement (Code c) place end ls = longer 1 (keyword_statement place c end (drop 1 ls))
word_statement (Items from to) place end ls = Ok (Nothing, 1)
word_statement Remark place end ls = Ok (Nothing, 1)
word_statement (Digits c) place end ls = not_taken end ls
word_statement (Comparison o) place end ls = no_statement end ls
word_statement (Text from to) place end ls = no_statement end ls

unfoldable pub statement : ℕ → List Lexeme → Read Statement
statement end [] = no_statement end []
statement end (l ∷ ls) = word_statement l.word l.place end (l ∷ ls)

-- ---- the statements of a line

-- other statements of the line follow THEN without a colon
abbrev pub opens_more : Statement → Bool
opens_more (If condition None) = true
opens_more _ = false

-- a line is gone to, and the machine passes what follows its number
abbrev pub leaves : Statement → Bool
leaves (Go way n) = true
leaves (If condition (Some n)) = true
leaves _ = false

abbrev pub is_remark : Word → Bool
is_remark Remark = true
is_remark _ = false

-- it passes all up to a colon, and there may be one in a remark
abbrev pub is_passed : Lexeme → Bool
is_passed l = not (word_code l.word == 58) && not (is_remark l.word)

-- how many lexemes it passes
abbrev pub passed_size : Statement → List Lexeme → ℕ
passed_size s ls = if leaves s then prefix_len is_passed ls else 0

-- after these the machine may pass what follows
abbrev pub may_pass : Statement → Bool
may_pass (Go way n) = true
may_pass (If condition line) = true
may_pass (On choice way lines) = true
may_pass (Define name v value) = true
may_pass _ = false

abbrev pub placed : Statement → ℕ → PlacedStatement
placed s place = record { statement = s; place = place }

-- what a run comes to after a statement that ends neither with a colon nor with its line
abbrev pub flaw_after : Statement → Statement
flaw_after s = if may_pass s then Refused else SyntaxError

-- a statement with its end, and how many lexemes that has; after a flaw the line is not read
unfoldable pub ended : PlacedStatement → ℕ → List Lexeme → List PlacedStatement × ℕ
ended s end ls =
    if opens_more s.statement then (s ∷ [], 0)
    else if front_code ls == 58 then (s ∷ [], 1)
    else if at_end ls then (s ∷ [], 0)
    else (s ∷ placed (flaw_after s.statement) (front_place end ls) ∷ [], length ls)

-- the same after what the machine passes
unfoldable pub finished : PlacedStatement → ℕ → List Lexeme → List PlacedStatement × ℕ
finished s end ls = let n = passed_size s.statement ls in
    ((ended s end (drop n ls)).0, n + (ended s end (drop n ls)).1)

-- what a run comes to in place of a statement that cannot be read, if the program has one
abbrev pub flaw_of : ProgramFault → Option PlacedStatement
flaw_of (NoStatement place) = Some (placed SyntaxError place)
flaw_of (NotTaken place) = Some (placed Refused place)
flaw_of _ = None

abbrev pub or_flaw : Option PlacedStatement → ProgramFault → ℕ → Read (List PlacedStatement)
or_flaw (Some flaw) fault n = Ok (flaw ∷ [], n)
or_flaw None fault n = Err fault

abbrev pub read_or_flaw : Read Statement → ℕ → List Lexeme → Read (List PlacedStatement)
read_or_flaw (Ok r) end ls = longer r.1 (Ok (finished (placed r.0 (front_place end ls)) end (drop r.1 ls)))
read_or_flaw (Err fault) end ls = or_flaw (flaw_of fault) fault (length ls)

-- the statement at the front of a line, with what follows it if that is none; a colon alone is a statement
unfoldable pub next_of_line : ℕ → List Lexeme → Read (List PlacedStatement)
next_of_line end ls =
    if front_code ls == 58 then Ok (placed Nothing (front_place end ls) ∷ [], 1)
    else read_or_flaw (statement end ls) end ls

-- statements after those that were found, when so many lexemes of the last one are left
unfoldable pub further : ℕ → List PlacedStatement → ℕ → List Lexeme → Result (List PlacedStatement) ProgramFault
further end found skip [] = Ok found
further end found zero (l ∷ ls) =
    or_fault (next_of_line end (l ∷ ls)) (λ more n. further end (found ++ more) (n - 1) ls)
further end found (suc skip) (l ∷ ls) = further end found skip ls

-- the statements of a line that ends at a place
abbrev pub statements : ℕ → List Lexeme → Result (List PlacedStatement) ProgramFault
statements end ls = further end [] 0 ls
