use Rattle.std.proofs.Common.{◌≡◌, inl, inr, ℕ, ◌+◌, ◌≤◌, ◌==◌, Bool, true, false, List, [], ◌∷◌, ◌++◌, length}
use Rattle.std.proofs.Common.{refl, sym}
use Rattle.std.proofs.Common.{ap, ◌∙◌, arith, append_assoc, append-nil, Some, None, Result, Ok}
use Rattle.std.proofs.Common.{if◌then◌else◌, drop, suc, ◌-◌}
use Rattle.pr_basic.specs.Text.{Text as Line}
use Rattle.pr_basic.specs.declared.statement.Statement.{Statement as Output}
use Rattle.pr_basic.specs.declared.statement.Statement.TheVariants.{CloseFile, Cmd, OpenFile, Print as Printed, PrintTo}
use Rattle.pr_basic.specs.declared.statement.Statement.TheVariants.{Rem}
use Rattle.pr_interpreter.specs.declared.expressions.Callee.TheVariants.{Function}
use Rattle.pr_interpreter.specs.declared.expressions.Node.TheVariants.{Call, Text as TextNode}
use Rattle.pr_interpreter.specs.declared.expressions.Placed.{Placed}
use Rattle.pr_interpreter.specs.declared.lexemes.Lexeme.{Lexeme}
use Rattle.pr_interpreter.specs.declared.lexemes.Word.{Word}
use Rattle.pr_interpreter.specs.declared.lexemes.Word.TheVariants.{Code, Comparison, Constant, Items, Named, Remark}
use Rattle.pr_interpreter.specs.declared.lexemes.Word.TheVariants.{Text}
use Rattle.pr_interpreter.specs.declared.reader.Expected.TheVariants.{OperandEnd}
use Rattle.pr_interpreter.specs.declared.statements.Item.{Item}
use Rattle.pr_interpreter.specs.declared.statements.PlacedStatement.{PlacedStatement}
use Rattle.pr_interpreter.specs.declared.statements.Part.TheVariants.{Semicolon, Value as Shows}
use Rattle.pr_interpreter.specs.declared.statements.Statement.{Statement}
use Rattle.pr_interpreter.specs.declared.statements.Statement.TheVariants.{Close, Command, Nothing, Open, Print}
use Rattle.pr_interpreter.specs.declared.statements.Statement.TheVariants.{PrintFile}
use Rattle.pr_interpreter.specs.declared.fault.ProgramFault.{ProgramFault}
use Rattle.pr_interpreter.specs.Expressions.{Done, Stacks, closing_code, expression, operand_code, operator_of}
use Rattle.pr_interpreter.specs.Expressions.{reading, settle}
use Rattle.pr_interpreter.specs.Expressions.{turn}
use Rattle.pr_interpreter.specs.Reading.{Read, and_then, or_fault, repeated, word_code}
use Rattle.pr_interpreter.specs.Statements.{command, ended, file_items, finished, four_values, further, has_item, item}
use Rattle.pr_interpreter.specs.Statements.{items, keyword_statement, leaves, line_statement, next_of_line, opens_more}
use Rattle.pr_interpreter.specs.Statements.{output_statement, part, print_file, statement}
use Rattle.pr_run.specs.Lists as lists
use Rattle.pr_run.specs.Plain.{AreParts, IsList, LineSays, Says, digits}
use Rattle.pr_run.specs.Spelled.{AreGood, Character, Listed, Quote, Semi, Spells, SpellsList, SpellsMore}
use Rattle.pr_run.specs.Spelled.{LinesAreRead, ends_after, item_bytes, items_bytes, items_lexemes, lexeme}
use Rattle.pr_run.specs.Spelled.{AreSpelled, Empty, IsSpelled, LinePart, Performs, Remarks, number, parts_lexemes}
use Rattle.pr_run.specs.Spelled.{parts_said}
use Rattle.pr_run.proofs.LiteralLemmas.{character_constant, digits_number, string_constant}

-- ---- expressions

-- a word that is no operator
abbrev NoOperator : Word → Type 0
NoOperator (Code c) = operator_of c ≡ None
NoOperator (Comparison o) = ⊥
NoOperator (Constant c) = Unit {0}
NoOperator (Named name) = Unit {0}
NoOperator (Text start end) = Unit {0}
NoOperator (Items start end) = Unit {0}
NoOperator Remark = Unit {0}

abbrev Stops : List Lexeme → Type 0
Stops [] = Unit {0}
Stops (l ∷ ls) = NoOperator l.word

abbrev only : List Placed → Stacks
only nodes = record { nodes = nodes; waiting = [] }

same_done : (b : Bool) (nodes : List Placed) → (if b then Done nodes else Done nodes) ≡ Done nodes
same_done true nodes = refl
same_done false nodes = refl

closes : (nodes : List Placed) (c : ℕ) → closing_code (only nodes) c ≡ Done nodes
unfolding closing_code settle
closes nodes c = ap (λ t. if c == 44 then Done nodes else t) (same_done (c == 41) nodes) ∙ same_done (c == 44) nodes

ends_with : (nodes : List Placed) (taken end place : ℕ) (ls : List Lexeme) (w : Word) → NoOperator w
    → reading (only nodes) OperandEnd taken end (lexeme place w ∷ ls) ≡ Ok (nodes, taken)
unfolding turn
ends_with nodes taken end place ls (Code c) none = rw (none, closes nodes c) refl
ends_with nodes taken end place ls (Comparison o) none = absurd none
ends_with nodes taken end place ls (Constant c) none = rw (closes nodes 0) refl
ends_with nodes taken end place ls (Named name) none = rw (closes nodes 0) refl
ends_with nodes taken end place ls (Text start stop) none = rw (closes nodes 0) refl
ends_with nodes taken end place ls (Items start stop) none = rw (closes nodes 0) refl
ends_with nodes taken end place ls Remark none = rw (closes nodes 0) refl

-- an operand is the whole expression where no operator follows
operand_ends : (nodes : List Placed) (taken end : ℕ) (rest : List Lexeme) → Stops rest
    → reading (only nodes) OperandEnd taken end rest ≡ Ok (nodes, taken)
unfolding turn
operand_ends nodes taken end [] none = rw (closes nodes 0) refl
operand_ends nodes taken end (l ∷ ls) none = ends_with nodes taken end l.place ls l.word none

number_read : (place n end : ℕ) (rest : List Lexeme) → Stops rest
    → expression end (number place n ∷ rest) ≡ Ok (digits 0 place n ∷ [], 1)
unfolding expression turn
number_read place n end rest none = operand_ends (digits 0 place n ∷ []) 1 end rest none

-- ---- lists

abbrev text_node : ℕ → ℕ → ℕ → Placed
text_node place start end = record { node = TextNode start end; place = place; stacked = 0 }

abbrev call_node : ℕ → Placed
call_node place = record { node = Call (Function 199) 1; place = place; stacked = 0 }

text_read : (place start stop end : ℕ) (rest : List Lexeme) → Stops rest
    → expression end (lexeme place (Text start stop) ∷ rest) ≡ Ok (text_node place start stop ∷ [], 1)
unfolding expression turn
text_read place start stop end rest none = operand_ends (text_node place start stop ∷ []) 1 end rest none

character_read : (p q r s n end : ℕ) (rest : List Lexeme) → Stops rest
    → expression end (lexeme p (Code 199) ∷ lexeme q (Code 40) ∷ number r n ∷ lexeme s (Code 41) ∷ rest)
    ≡ Ok (digits 8 r n ∷ call_node p ∷ [], 4)
unfolding expression turn operand_code closing_code settle
character_read p q r s n end rest none = operand_ends (digits 8 r n ∷ call_node p ∷ []) 4 end rest none

-- what follows a statement: the end of the line, or a colon
data After : Type 0 where
  LineEnd : After
  Colon : ℕ → List Lexeme → After

abbrev after : After → List Lexeme
after LineEnd = []
after (Colon p more) = lexeme p (Code 58) ∷ more

abbrev part_of : Listed → Item
part_of (Semi p) = record { part = Semicolon; place = p }
part_of (Quote p start end) = record { part = Shows (text_node p start end ∷ []); place = p }
part_of (Character p q r s n) = record { part = Shows (digits 8 r n ∷ call_node p ∷ []); place = p }

abbrev parts_of : List Listed → List Item
parts_of [] = []
parts_of (i ∷ is) = part_of i ∷ parts_of is

items_stop : (is : List Listed) (r : After) → Stops (items_lexemes is ++ after r)
items_stop [] LineEnd = tt
items_stop [] (Colon p more) = refl
items_stop (Semi p ∷ is) r = refl
items_stop (Quote p start end ∷ is) r = tt
items_stop (Character p q s t n ∷ is) r = refl

abbrev read_to : List Item → ℕ → Read (List Item)
read_to found taken = Ok (found, taken)

same_read : (a b : List Item) (m n : ℕ) → a ≡ b → m ≡ n → read_to a m ≡ read_to b n
same_read a b m n e f = rw (e, f) refl

listed_read : (end : ℕ) (is : List Listed) (r : After) (found : List Item) (taken : ℕ)
    → repeated has_item (item end) found taken 0 (items_lexemes is ++ after r)
    ≡ read_to (found ++ parts_of is) (taken + length (items_lexemes is))
unfolding repeated item part
listed_read end [] LineEnd found taken =
    same_read found (found ++ []) taken (taken + 0) (sym (append-nil found)) (omega arith)
listed_read end [] (Colon p more) found taken =
    same_read found (found ++ []) taken (taken + 0) (sym (append-nil found)) (omega arith)
listed_read end (Semi p ∷ is) r found taken =
    let i = part_of (Semi p) in
    listed_read end is r (found ++ i ∷ []) (taken + 1)
    ∙ same_read _ _ _ _ (append_assoc found (i ∷ []) (parts_of is)) (omega arith)
listed_read end (Quote p start stop ∷ is) r found taken =
    let i = part_of (Quote p start stop) in
    rw (text_read p start stop end (items_lexemes is ++ after r) (items_stop is r))
    (listed_read end is r (found ++ i ∷ []) (taken + 1)
    ∙ same_read _ _ _ _ (append_assoc found (i ∷ []) (parts_of is)) (omega arith))
listed_read end (Character p q s t n ∷ is) r found taken =
    let i = part_of (Character p q s t n) in
    rw (character_read p q s t n end (items_lexemes is ++ after r) (items_stop is r))
    (listed_read end is r (found ++ i ∷ []) (taken + 1 + 1 + 1 + 1)
    ∙ same_read _ _ _ _ (append_assoc found (i ∷ []) (parts_of is)) (omega arith))

-- ---- what lists say

good_parts : (text : List ℕ) (is : List Listed) → AreGood text is → AreParts text (parts_of is) (items_bytes text is)
good_parts text [] good = refl
good_parts text (Semi p ∷ is) good = ([], items_bytes text is, refl, good_parts text is good.1, refl)
good_parts text (Quote p start end ∷ is) good = (
  item_bytes text (Quote p start end),
  items_bytes text is,
  string_constant text p start end good.0.0 good.0.1 good.0.2,
  good_parts text is good.1,
  refl,
)
good_parts text (Character p q r s n ∷ is) good =
    (n ∷ [], items_bytes text is, character_constant text r p n good.0, good_parts text is good.1, refl)

parts_end : (ends : Bool) (is : List Listed) → lists.ends_after ends (parts_of is) ≡ ends_after ends is
parts_end ends [] = refl
parts_end ends (Semi p ∷ is) = parts_end false is
parts_end ends (Quote p start stop ∷ is) = parts_end true is
parts_end ends (Character p q r s n ∷ is) = parts_end true is

list_says : (text : List ℕ) (is : List Listed) (line : Line) → SpellsList text is line → IsList text (parts_of is) line
list_says text is line c = record {
  parts = rw c.bytes (good_parts text is c.good);
  ends = c.ends ∙ sym (parts_end true is);
  short = c.short;
}

-- ---- statements

abbrev read_as : Statement → ℕ → Read Statement
read_as s n = Ok (s, n)

print_read : (end p : ℕ) (is : List Listed) (r : After)
    → statement end (lexeme p (Code 153) ∷ (items_lexemes is ++ after r))
    ≡ read_as (Print (parts_of is)) (length (lexeme p (Code 153) ∷ items_lexemes is))
unfolding statement keyword_statement line_statement output_statement items
print_read end p is r =
    rw (listed_read end is r [] 0) (ap (λ (n : ℕ). read_as (Print (parts_of is)) n) (omega arith))

-- what follows a file's number, and the parts of its list
abbrev MoreRead : ℕ → After → List Lexeme → List Item → Type 0
MoreRead end r more parts = Stops (more ++ after r) × (file_items end (more ++ after r) ≡ read_to parts (length more))

no_more : (end : ℕ) (r : After) → MoreRead end r [] []
unfolding file_items
no_more end LineEnd = (tt, refl)
no_more end (Colon p more) = (refl, refl)

more_read : (text : List ℕ) (end : ℕ) (r : After) (line : Line) (more : List Lexeme) → SpellsMore text line more
    → (parts : List Item) × MoreRead end r more parts × IsList text parts line
unfolding file_items items
more_read text end r line more (inl none) =
    let empty : IsList text [] line = rw none.1 (record { parts = refl; ends = refl; short = omega arith }) in
    ([], rw none.0 (no_more end r), empty)
more_read text end r line more (inr c) =
    let read = listed_read end c.1 r [] 0 in (
      parts_of c.1,
      (rw c.2 refl, rw (c.2, read) (ap (λ (n : ℕ). read_to (parts_of c.1) n) (omega arith))),
      list_says text c.1 line c.3,
    )

print_file_read : (end p q file : ℕ) (r : After) (more : List Lexeme) (parts : List Item) → MoreRead end r more parts
    → statement end (lexeme p (Code 152) ∷ number q file ∷ (more ++ after r))
    ≡ read_as (PrintFile (digits 0 q file ∷ []) parts) (length (lexeme p (Code 152) ∷ number q file ∷ more))
unfolding statement keyword_statement line_statement output_statement print_file and_then
print_file_read end p q file r more parts c =
    rw (number_read q file end (more ++ after r) c.0, c.1)
    (ap (λ (n : ℕ). read_as (PrintFile (digits 0 q file ∷ []) parts) n) (omega arith))

command_read : (end p q file : ℕ) (r : After) (more : List Lexeme) (parts : List Item) → MoreRead end r more parts
    → statement end (lexeme p (Code 157) ∷ number q file ∷ (more ++ after r))
    ≡ read_as (Command (digits 0 q file ∷ []) parts) (length (lexeme p (Code 157) ∷ number q file ∷ more))
unfolding statement keyword_statement line_statement output_statement command and_then
command_read end p q file r more parts c =
    rw (number_read q file end (more ++ after r) c.0, c.1)
    (ap (λ (n : ℕ). read_as (Command (digits 0 q file ∷ []) parts) n) (omega arith))

close_read : (end p q file : ℕ) (r : After)
    → statement end (lexeme p (Code 160) ∷ number q file ∷ after r) ≡ read_as (Close ((digits 0 q file ∷ []) ∷ [])) 2
unfolding statement keyword_statement line_statement output_statement four_values and_then repeated
close_read end p q file LineEnd = rw (number_read q file end [] tt) refl
close_read end p q file (Colon c more) = rw (number_read q file end (lexeme c (Code 58) ∷ more) refl) refl

open_read : (end p q s t file device : ℕ) (r : After)
    → statement end (lexeme p (Code 159) ∷ number q file ∷ lexeme s (Code 44) ∷ number t device ∷ after r)
    ≡ read_as (Open ((digits 0 q file ∷ []) ∷ (digits 0 t device ∷ []) ∷ [])) 4
unfolding statement keyword_statement line_statement output_statement four_values and_then repeated
open_read end p q s t file device LineEnd =
    rw (number_read q file end (lexeme s (Code 44) ∷ number t device ∷ []) refl, number_read t device end [] tt) refl
open_read end p q s t file device (Colon c more) =
    let colon = lexeme c (Code 58) ∷ more in
    rw (number_read q file end (lexeme s (Code 44) ∷ number t device ∷ colon) refl, number_read t device end colon refl)
    refl

open_second_read : (end p q s t u v file device second : ℕ) (r : After)
    → statement end (lexeme p (Code 159) ∷ number q file ∷ lexeme s (Code 44) ∷ number t device ∷ lexeme u (Code 44)
    ∷ number v second ∷ after r)
    ≡ read_as (Open ((digits 0 q file ∷ []) ∷ (digits 0 t device ∷ []) ∷ (digits 0 v second ∷ []) ∷ [])) 6
unfolding statement keyword_statement line_statement output_statement four_values and_then repeated
open_second_read end p q s t u v file device second LineEnd =
    rw (
      number_read q file end (lexeme s (Code 44) ∷ number t device ∷ lexeme u (Code 44) ∷ number v second ∷ []) refl,
      number_read t device end (lexeme u (Code 44) ∷ number v second ∷ []) refl,
      number_read v second end [] tt,
    ) refl
open_second_read end p q s t u v file device second (Colon c more) =
    let colon = lexeme c (Code 58) ∷ more in
    rw (
      number_read q file end (lexeme s (Code 44) ∷ number t device ∷ lexeme u (Code 44) ∷ number v second ∷ colon) refl,
      number_read t device end (lexeme u (Code 44) ∷ number v second ∷ colon) refl,
      number_read v second end colon refl,
    )
    refl

-- lexemes before others are read as a statement that says an output statement, and after which no more is passed
record IsRead (text : List ℕ) (end : ℕ) (o : Output) (ls : List Lexeme) (r : After) : Type 0 where
  pub said : Statement
  pub first : Lexeme
  pub others : List Lexeme
  pub begins : ls ≡ first ∷ others
  pub no_colon : (word_code first.word == 58) ≡ false
  pub read : statement end (first ∷ (others ++ after r)) ≡ read_as said (length (first ∷ others))
  pub stays : leaves said ≡ false
  pub alone : opens_more said ≡ false
  pub says : Says text o said

statement_read : (text : List ℕ) (end : ℕ) (o : Output) (ls : List Lexeme) (r : After) → Spells text o ls
    → IsRead text end o ls r
statement_read text end (OpenFile file device None) ls r c =
    let few : device ≤ 255 = omega (arith, c.7) in
    record {
      said = Open ((digits 0 c.1 file ∷ []) ∷ (digits 0 c.3 device ∷ []) ∷ []);
      first = lexeme c.0 (Code 159);
      others = number c.1 file ∷ lexeme c.2 (Code 44) ∷ number c.3 device ∷ [];
      begins = c.4;
      no_colon = refl;
      read = open_read end c.0 c.1 c.2 c.3 file device r;
      stays = refl;
      alone = refl;
      says = (
        digits 0 c.1 file ∷ [],
        digits 0 c.3 device ∷ [],
        refl,
        digits_number text c.1 file c.5,
        digits_number text c.3 device few,
        c.6,
        c.7,
      );
    }
statement_read text end (OpenFile file device (Some second)) ls r c =
    let few : device ≤ 255 = omega (arith, c.9) in
    let small : second ≤ 255 = omega (arith, c.10) in
    record {
      said = Open ((digits 0 c.1 file ∷ []) ∷ (digits 0 c.3 device ∷ []) ∷ (digits 0 c.5 second ∷ []) ∷ []);
      first = lexeme c.0 (Code 159);
      others =
          number c.1 file ∷ lexeme c.2 (Code 44) ∷ number c.3 device ∷ lexeme c.4 (Code 44) ∷ number c.5 second ∷ [];
      begins = c.6;
      no_colon = refl;
      read = open_second_read end c.0 c.1 c.2 c.3 c.4 c.5 file device second r;
      stays = refl;
      alone = refl;
      says = (
        digits 0 c.1 file ∷ [],
        digits 0 c.3 device ∷ [],
        digits 0 c.5 second ∷ [],
        refl,
        digits_number text c.1 file c.7,
        digits_number text c.3 device few,
        digits_number text c.5 second small,
        c.8,
        c.9,
        c.10,
      );
    }
statement_read text end (Cmd file line) ls r c =
    let m = more_read text end r line c.2 c.5 in
    record {
      said = Command (digits 0 c.1 file ∷ []) m.0;
      first = lexeme c.0 (Code 157);
      others = number c.1 file ∷ c.2;
      begins = c.3;
      no_colon = refl;
      read = command_read end c.0 c.1 file r c.2 m.0 m.1;
      stays = refl;
      alone = refl;
      says = (digits 0 c.1 file ∷ [], m.0, refl, digits_number text c.1 file c.4, m.2);
    }
statement_read text end (PrintTo file line) ls r c =
    let m = more_read text end r line c.2 c.5 in
    record {
      said = PrintFile (digits 0 c.1 file ∷ []) m.0;
      first = lexeme c.0 (Code 152);
      others = number c.1 file ∷ c.2;
      begins = c.3;
      no_colon = refl;
      read = print_file_read end c.0 c.1 file r c.2 m.0 m.1;
      stays = refl;
      alone = refl;
      says = (digits 0 c.1 file ∷ [], m.0, refl, digits_number text c.1 file c.4, m.2);
    }
statement_read text end (Printed line) ls r c = record {
  said = Print (parts_of c.1);
  first = lexeme c.0 (Code 153);
  others = items_lexemes c.1;
  begins = c.2;
  no_colon = refl;
  read = print_read end c.0 c.1 r;
  stays = refl;
  alone = refl;
  says = (parts_of c.1, refl, list_says text c.1 line c.3);
}
statement_read text end (CloseFile file) ls r c = record {
  said = Close ((digits 0 c.1 file ∷ []) ∷ []);
  first = lexeme c.0 (Code 160);
  others = number c.1 file ∷ [];
  begins = c.2;
  no_colon = refl;
  read = close_read end c.0 c.1 file r;
  stays = refl;
  alone = refl;
  says = (digits 0 c.1 file ∷ [], refl, digits_number text c.1 file c.3);
}
statement_read text end Rem ls r none = absurd none

-- ---- lines

abbrev line_read : List PlacedStatement → ℕ → Read (List PlacedStatement)
line_read ss n = Ok (ss, n)

abbrev colon_size : After → ℕ
colon_size LineEnd = 0
colon_size (Colon p more) = 1

abbrev set : Statement → ℕ → PlacedStatement
set s place = record { statement = s; place = place }

drop_front : (ls rest : List Lexeme) → drop (length ls) (ls ++ rest) ≡ rest
drop_front [] rest = refl
drop_front (l ∷ ls) rest = drop_front ls rest

ended_at : (end place : ℕ) (s : Statement) (r : After) → leaves s ≡ false → opens_more s ≡ false
    → finished (set s place) end (after r) ≡ (set s place ∷ [], colon_size r)
unfolding finished ended
ended_at end place s LineEnd stays alone = rw (stays, alone) refl
ended_at end place s (Colon p more) stays alone = rw (stays, alone) refl

next_read : (text : List ℕ) (end : ℕ) (o : Output) (ls : List Lexeme) (r : After) (c : IsRead text end o ls r)
    → next_of_line end (c.first ∷ (c.others ++ after r))
    ≡ line_read (set c.said c.first.place ∷ []) (length (c.first ∷ c.others) + colon_size r)
unfolding next_of_line
next_read text end o ls r c =
    rw (
      c.no_colon,
      c.read,
      drop_front (c.first ∷ c.others) (after r),
      ended_at end c.first.place c.said r c.stays c.alone,
    ) refl

-- what follows in the line
abbrev rest_of : After → List Lexeme
rest_of LineEnd = []
rest_of (Colon p more) = more

-- the lexemes that are left of a statement are passed, and the colon
passed : (end : ℕ) (found : List PlacedStatement) (ls : List Lexeme) (r : After)
    → further end found (length ls + colon_size r) (ls ++ after r) ≡ further end found 0 (rest_of r)
unfolding further
passed end found [] LineEnd = refl
passed end found [] (Colon p more) = refl
passed end found (l ∷ ls) r =
    let next : length (l ∷ ls) + colon_size r ≡ suc (length ls + colon_size r) = omega arith in
    rw next (passed end found ls r)

step_read : (text : List ℕ) (end : ℕ) (o : Output) (ls : List Lexeme) (r : After) (c : IsRead text end o ls r)
    (found : List PlacedStatement)
    → further end found 0 (c.first ∷ (c.others ++ after r))
    ≡ further end (found ++ set c.said c.first.place ∷ []) 0 (rest_of r)
unfolding further
step_read text end o ls r c found =
    let s = set c.said c.first.place in
    let left : length (c.first ∷ c.others) + colon_size r - 1 ≡ length c.others + colon_size r = omega arith in
    ap (λ (w : Read (List PlacedStatement)). or_fault w
    (λ more n. further end (found ++ more) (n - 1) (c.others ++ after r))) (next_read text end o ls r c)
    ∙ (ap (λ (n : ℕ). further end (found ++ s ∷ []) n (c.others ++ after r)) left
    ∙ passed end (found ++ s ∷ []) c.others r)

abbrev found_all : List PlacedStatement → Result (List PlacedStatement) ProgramFault
found_all ss = Ok ss

-- parts of a line are read after statements that were found
abbrev PartsRead : List ℕ → ℕ → List (LinePart × ℕ) → Type 0
PartsRead text end parts = (ss : List PlacedStatement)
    × ((found : List PlacedStatement) → further end found 0 (parts_lexemes parts) ≡ found_all (found ++ ss))
    × LineSays text ss (parts_said parts)

joined_read : (found : List PlacedStatement) (s : PlacedStatement) (ss : List PlacedStatement)
    → found_all ((found ++ s ∷ []) ++ ss) ≡ found_all (found ++ (s ∷ ss))
joined_read found s ss = rw (append_assoc found (s ∷ []) ss) refl

none_read : (text : List ℕ) (end : ℕ) → PartsRead text end []
unfolding further
none_read text end = ([], (λ found. rw (append-nil found) refl), refl)

last_read : (text : List ℕ) (end at : ℕ) (x : LinePart) → IsSpelled text x → PartsRead text end ((x, at) ∷ [])
unfolding further next_of_line statement finished ended
last_read text end at Empty good = ([], (λ found. rw (append-nil found) refl), refl)
last_read text end at (Remarks p) good = (set Nothing p ∷ [], (λ found. refl), inl (refl, refl))
last_read text end at (Performs o ls) good =
    let c = statement_read text end o ls LineEnd good in (
      set c.said c.first.place ∷ [],
      (λ found. ap (λ (xs : List Lexeme). further end found 0 xs) c.begins
          ∙ (ap (λ (xs : List Lexeme). further end found 0 (c.first ∷ xs)) (sym (append-nil c.others))
          ∙ step_read text end o ls LineEnd c found)),
      inr (o, [], c.says, refl, refl),
    )

more_parts : (text : List ℕ) (end at : ℕ) (x : LinePart) (y : LinePart × ℕ) (xs : List (LinePart × ℕ))
    → IsSpelled text x
    → PartsRead text end (y ∷ xs) → PartsRead text end ((x, at) ∷ y ∷ xs)
unfolding further next_of_line statement finished ended
more_parts text end at Empty y xs good rest = (
  set Nothing at ∷ rest.0,
  (λ found. rest.1 (found ++ set Nothing at ∷ []) ∙ joined_read found (set Nothing at) rest.0),
  inl (refl, rest.2),
)
more_parts text end at (Remarks p) y xs good rest = (
  set Nothing p ∷ rest.0,
  (λ found. rest.1 (found ++ set Nothing p ∷ []) ∙ joined_read found (set Nothing p) rest.0),
  inl (refl, rest.2),
)
more_parts text end at (Performs o ls) y xs good rest =
    let r = Colon at (parts_lexemes (y ∷ xs)) in
    let c = statement_read text end o ls r good in
    let s = set c.said c.first.place in (
      s ∷ rest.0,
      (λ found. ap (λ (ws : List Lexeme). further end found 0 (ws ++ after r)) c.begins
          ∙ (step_read text end o ls r c found ∙ (rest.1 (found ++ s ∷ []) ∙ joined_read found s rest.0))),
      inr (o, parts_said (y ∷ xs), c.says, rest.2, refl),
    )

parts_read : (text : List ℕ) (end : ℕ) (parts : List (LinePart × ℕ)) → AreSpelled text parts → PartsRead text end parts
parts_read text end [] good = none_read text end
parts_read text end (x ∷ []) good = last_read text end x.1 x.0 good.0
parts_read text end (x ∷ y ∷ xs) good =
    more_parts text end x.1 x.0 y xs good.0 (parts_read text end (y ∷ xs) good.1)

pub lines_read : LinesAreRead
lines_read text end parts good = let r = parts_read text end parts good in (r.0, r.1 [], r.2)
