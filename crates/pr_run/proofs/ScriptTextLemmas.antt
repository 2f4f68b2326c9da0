use Rattle.std.proofs.Common.{◌≡◌, ◌⊎◌, ℕ, ◌+◌, ◌-◌, ◌<◌, ◌≤◌, ◌==◌, Bool, true, false, cond, List, [], ◌∷◌, ◌++◌}
use Rattle.std.proofs.Common.{length, map, inl, inr, Ok, Option, Result, refl, ap, sym, ◌∙◌, arith, subst}
use Rattle.std.proofs.Common.{append_assoc, append-nil, length-append}
use Rattle.std.specs.Prelude.{nat_lt, slice_range, Some, None}
use Rattle.std.specs.List.{filter, insert, list_all}
use Rattle.std.proofs.lemmas.Bool.{and_parts, cases_Bool, eqb-true, le-ltb, ne_eqb, not-true}
use Rattle.std.proofs.lemmas.List.{drop_all, map-append, take_all}
use Rattle.pr_base.specs.Lines.{lines_of, onto_first}
use Rattle.pr_basic.specs.Grammar.{AreLines, IsLine, IsScript, without_return}
use Rattle.pr_basic.specs.LexemeLaws.{LexemesAreFound}
use Rattle.pr_basic.specs.LineAt.{HasBasicNumber}
use Rattle.pr_basic.specs.declared.statement.Statement.{Statement as Output}
use Rattle.pr_interpreter.specs.declared.fault.ProgramFault.{ProgramFault}
use Rattle.pr_interpreter.specs.declared.lines.Line.{Line}
use Rattle.pr_interpreter.specs.declared.program.ProgramLine.{ProgramLine}
use Rattle.pr_interpreter.specs.declared.statements.PlacedStatement.{PlacedStatement}
use Rattle.pr_interpreter.specs.Lines.{Row, after_rest, after_row, after_rows, ends_row, enter, entered, go_on}
use Rattle.pr_interpreter.specs.Lines.{is_empty, line_in, others, place_for, program_lines, rows_from}
use Rattle.pr_interpreter.specs.Programs.{each_line, or_stop, program}
use Rattle.pr_run.specs.Plain.{LineSays, LinesSay, in_line}
use Rattle.pr_run.specs.declared.performed.Performed.{Performed}
use Rattle.pr_run.specs.ScriptTexts.{AreFrom, AreNumbered, IsNumberedLine, ScriptsRun, TextsSayTheSame, is_blank}
use Rattle.pr_run.specs.ScriptTexts.{is_no_return, is_performed, statement_of}
use Rattle.pr_run.specs.declared.programs.Program.{Program}
use Rattle.pr_run.specs.Data.{data_of}
use Rattle.pr_run.specs.Runs.{program_of}
use Rattle.pr_run.proofs.PlainLemmas.{plain_runs}
use Rattle.pr_run.proofs.ScriptLines.{IsLineSaid, blank_line, blank_said, numbered_as, numbered_row}
use Rattle.pr_run.proofs.ScriptSymbols.{part_at}

-- ---- lines that are entered in order

-- each line has a smaller number
abbrev AllBelow : ℕ → List Line → Type 0
AllBelow n [] = Unit {0}
AllBelow n (x ∷ xs) = (x.number < n) × AllBelow n xs

below_more : (m n : ℕ) (xs : List Line) → m ≤ n → AllBelow m xs → AllBelow n xs
below_more m n [] h e = tt
below_more m n (x ∷ xs) h e = ((let less = e.0 in omega arith), below_more m n xs h e.1)

below_push : (n : ℕ) (xs : List Line) (l : Line) → AllBelow n xs → l.number < n → AllBelow n (xs ++ l ∷ [])
below_push n [] l e h = (h, tt)
below_push n (x ∷ xs) l e h = (e.0, below_push n xs l e.1 h)

-- none of them is replaced
others_same : (n : ℕ) (xs : List Line) → AllBelow n xs → others n xs ≡ xs
others_same n [] e = refl
others_same n (x ∷ xs) e =
    let less = e.0 in
    let differs : (x.number == n) ≡ false = ne_eqb x.number n (λ same. omega arith) in
    rw (differs, others_same n xs e.1) refl

-- a line goes after them
place_last : (n : ℕ) (xs : List Line) → AllBelow n xs → place_for n xs ≡ length xs
place_last n [] e = refl
place_last n (x ∷ xs) e =
    let less = e.0 in
    let before : nat_lt n x.number ≡ false = le-ltb n x.number (omega arith) in
    rw (before, place_last n xs e.1) (omega arith)

-- so it is the last
insert_last : (xs : List Line) (l : Line) → insert xs (length xs) l ≡ xs ++ l ∷ []
insert_last xs l = rw (take_all (length xs) xs (omega arith), drop_all (length xs) xs (omega arith)) refl

-- a line that has nothing but its number changes nothing
enter_empty : (l : Line) (lines : List Line) → AllBelow l.number lines → is_empty l ≡ true → enter l lines ≡ lines
unfolding enter
enter_empty l lines e h = rw h (others_same l.number lines e)

-- any other is the last
enter_last : (l : Line) (lines : List Line) → AllBelow l.number lines → is_empty l ≡ false
    → enter l lines ≡ lines ++ l ∷ []
unfolding enter
enter_last l lines e h =
    rw (h, others_same l.number lines e, place_last l.number lines e) (insert_last lines l)

-- ---- the lines of a script

-- bytes without a line feed
abbrev NoFeed : List ℕ → Type 0
NoFeed [] = Unit {0}
NoFeed (b ∷ bs) = ((b == 10) ≡ false) × NoFeed bs

feed_front : (xs ys : List ℕ) → NoFeed (xs ++ ys) → NoFeed xs
feed_front [] ys e = tt
feed_front (x ∷ xs) ys e = (e.0, feed_front xs ys e.1)

-- what follows a line: nothing, or a line feed and other lines
abbrev IsTail : List ℕ → List (List ℕ) → Type 0
IsTail tail ls = ((tail ≡ []) × (ls ≡ []))
    ⊎ ((rest : List ℕ) × (tail ≡ 10 ∷ rest) × (lines_of rest ≡ ls))

-- a text begins with a line
abbrev LineCut : List ℕ → List ℕ → List (List ℕ) → Type 0
LineCut bs l ls = NoFeed l × ((tail : List ℕ) × (bs ≡ l ++ tail) × IsTail tail ls)

-- a byte ends a line, or belongs to it
abbrev Stepped : ℕ → List ℕ → Type 0
Stepped b bs = (((b == 10) ≡ true) × (lines_of (b ∷ bs) ≡ [] ∷ lines_of bs))
    ⊎ (((b == 10) ≡ false) × (lines_of (b ∷ bs) ≡ onto_first b (lines_of bs)))

lines_step : (b : ℕ) (bs : List ℕ) → Stepped b bs
unfolding lines_of
lines_step b bs = by (cases_Bool (b == 10))
  where
    by : ((b == 10) ≡ true) ⊎ ((b == 10) ≡ false) → Stepped b bs
    by (inl e) = inl (e, rw e refl)
    by (inr e) = inr (e, rw e refl)

onto_some : (b : ℕ) (ls : List (List ℕ)) → onto_first b ls ≡ [] → ⊥
onto_some b [] e = cc
onto_some b (l ∷ ls) e = cc

-- without lines there are no bytes
no_lines : (bs : List ℕ) → lines_of bs ≡ [] → bs ≡ []
no_lines [] e = refl
no_lines (b ∷ bs) e = absurd (none (lines_step b bs))
  where
    none : Stepped b bs → ⊥
    none (inl c) = let never : [] ∷ lines_of bs ≡ [] = sym c.1 ∙ e in cc
    none (inr c) = onto_some b (lines_of bs) (sym c.1 ∙ e)

no_first : (l : List ℕ) (ls : List (List ℕ)) → lines_of [] ≡ l ∷ ls → ⊥
unfolding lines_of
no_first l ls e = cc

-- the first line and what follows it
line_cut : (bs l : List ℕ) (ls : List (List ℕ)) → lines_of bs ≡ l ∷ ls → LineCut bs l ls
line_cut [] l ls e = absurd (no_first l ls e)
line_cut (b ∷ bs) l ls e = by (λ q qs some. line_cut bs q qs some) (lines_step b bs)
  where
    on : ((q : List ℕ) (qs : List (List ℕ)) → lines_of bs ≡ q ∷ qs → LineCut bs q qs) → (b == 10) ≡ false
        → (qs : List (List ℕ)) → lines_of bs ≡ qs → onto_first b qs ≡ l ∷ ls → LineCut (b ∷ bs) l ls
    on more other [] none k =
        let empty = no_lines bs none in
        let front : b ∷ [] ≡ l = cc in
        let back : ls ≡ [] = cc in
        let cut : b ∷ bs ≡ l ++ [] =
        ap (λ (t : List ℕ). b ∷ t) empty ∙ ap (λ (t : List ℕ). t ++ []) front in
        (subst NoFeed front (other, tt), ([], cut, inl (refl, back)))
    on more other (q ∷ qs) some k =
        let front : b ∷ q ≡ l = cc in
        let back : qs ≡ ls = cc in
        let c = more q qs some in
        let cut : b ∷ bs ≡ l ++ c.1.0 =
        ap (λ (t : List ℕ). b ∷ t) c.1.1 ∙ ap (λ (t : List ℕ). t ++ c.1.0) front in (
          subst NoFeed front (other, c.0),
          (c.1.0, cut, subst (λ (t : List (List ℕ)). IsTail c.1.0 t) back c.1.2),
        )

    by : ((q : List ℕ) (qs : List (List ℕ)) → lines_of bs ≡ q ∷ qs → LineCut bs q qs) → Stepped b bs
        → LineCut (b ∷ bs) l ls
    by more (inl c) =
        let same : [] ∷ lines_of bs ≡ l ∷ ls = sym c.1 ∙ e in
        let front : [] ≡ l = cc in
        let back : lines_of bs ≡ ls = cc in
        let feed = eqb-true b 10 c.0 in
        let cut : b ∷ bs ≡ l ++ (10 ∷ bs) =
        ap (λ (t : ℕ). t ∷ bs) feed ∙ ap (λ (t : List ℕ). t ++ (10 ∷ bs)) front in
        (subst NoFeed front tt, (10 ∷ bs, cut, inr (bs, refl, back)))
    by more (inr c) = on more c.0 (lines_of bs) refl (sym c.1 ∙ e)

-- a last carriage return is no part of a line
return_cut : (l : List ℕ) → (l ≡ without_return l ++ 13 ∷ []) ⊎ (l ≡ without_return l)
return_cut [] = inr refl
return_cut (b ∷ []) = by (cases_Bool (b == 13))
  where
    by : ((b == 13) ≡ true) ⊎ ((b == 13) ≡ false) → (b ∷ [] ≡ without_return (b ∷ []) ++ 13 ∷ [])
        ⊎ (b ∷ [] ≡ without_return (b ∷ []))
    by (inl e) = inl (rw (e, eqb-true b 13 e) refl)
    by (inr e) = inr (rw e refl)
return_cut (b ∷ c ∷ bs) = by (return_cut (c ∷ bs))
  where
    by : (c ∷ bs ≡ without_return (c ∷ bs) ++ 13 ∷ []) ⊎ (c ∷ bs ≡ without_return (c ∷ bs))
        → (b ∷ c ∷ bs ≡ without_return (b ∷ c ∷ bs) ++ 13 ∷ []) ⊎ (b ∷ c ∷ bs ≡ without_return (b ∷ c ∷ bs))
    by (inl e) = inl (ap (λ (t : List ℕ). b ∷ t) e)
    by (inr e) = inr (ap (λ (t : List ℕ). b ∷ t) e)

-- ---- rows

abbrev row : ℕ → ℕ → Row
row start end = record { start = start; end = end }

-- no byte ends a row
abbrev InRow : List ℕ → Type 0
InRow [] = Unit {0}
InRow (b ∷ bs) = (ends_row b ≡ false) × InRow bs

-- so it is without line feeds and carriage returns
in_row : (bs : List ℕ) → NoFeed bs → list_all is_no_return bs ≡ true → InRow bs
in_row [] e f = tt
in_row (b ∷ bs) e f =
    let p = and_parts (is_no_return b) (list_all is_no_return bs) f in
    (rw (e.0, not-true (b == 13) p.0) refl, in_row bs e.1 p.1)

blanks_one_row : (bs : List ℕ) → list_all is_blank bs ≡ true → list_all is_no_return bs ≡ true
blanks_one_row [] e = refl
blanks_one_row (b ∷ bs) e =
    let p = and_parts (is_blank b) (list_all is_blank bs) e in
    rw (eqb-true b 32 p.0, blanks_one_row bs p.1) refl

-- a line of a script has no carriage return
one_row : (least : ℕ) (l : List ℕ) (ls : List (List ℕ)) → AreNumbered least (l ∷ ls)
    → list_all is_no_return (without_return l) ≡ true
one_row least l ls (inl k) = blanks_one_row (without_return l) k.0
one_row least l ls (inr k) = k.1.one_row

-- such bytes are in one row
rows_in : (start place : ℕ) (bs rest : List ℕ) → InRow bs
    → rows_from start place (bs ++ rest) ≡ rows_from start (place + length bs) rest
rows_in start place [] rest e = ap (λ (p : ℕ). rows_from start p rest) (omega arith)
rows_in start place (b ∷ bs) rest e =
    rw e.0
    (rows_in start (place + 1) bs rest e.1 ∙ ap (λ (p : ℕ). rows_from start p rest) (omega arith))

-- the rows after the first
abbrev later : ℕ → List ℕ → List Row
later place [] = []
later place (b ∷ rest) = rows_from (place + 1) (place + 1) rest

-- a row ends with its line
row_ends : (start place : ℕ) (tail : List ℕ) (ls : List (List ℕ)) → IsTail tail ls
    → rows_from start place tail ≡ row start place ∷ later place tail
row_ends start place tail ls (inl c) = rw c.0 refl
row_ends start place tail ls (inr c) = rw c.1 refl

abbrev pub lines_are : List Line → Result (List Line) ProgramFault
lines_are lines = Ok lines

-- a row of no bytes changes nothing
empty_row : (text : List ℕ) (place : ℕ) (lines : List Line) → after_row text place place lines ≡ lines_are lines
unfolding after_row line_in
empty_row text place lines = let none : place - place ≡ 0 = omega arith in rw none refl

-- a row is entered, and then the rows after it
row_passed : (text : List ℕ) (start end : ℕ) (rows : List Row) (lines more : List Line)
    → after_row text start end lines ≡ lines_are more
    → after_rows text (row start end ∷ rows) lines ≡ after_rows text rows more
row_passed text start end rows lines more e =
    ap (λ (r : Result (List Line) ProgramFault). go_on r (λ more. after_rows text rows more)) e

-- ---- what new lines say

-- what statements perform, one after another
performed_joined : (xs ys : List Output)
    → filter is_performed (xs ++ ys) ≡ filter is_performed xs ++ filter is_performed ys
performed_joined [] ys = refl
performed_joined (x ∷ xs) ys = by (is_performed x) (performed_joined xs ys)
  where
    by : (b : Bool) → filter is_performed (xs ++ ys) ≡ filter is_performed xs ++ filter is_performed ys
        → cond b (x ∷ filter is_performed (xs ++ ys)) (filter is_performed (xs ++ ys))
        ≡ cond b (x ∷ filter is_performed xs) (filter is_performed xs) ++ filter is_performed ys
    by true e = ap (λ (t : List Output). x ∷ t) e
    by false e = e

abbrev pub read_lines : List ProgramLine → Result (List ProgramLine) ProgramFault
read_lines ps = Ok ps

-- lines are read as those of a program that says what statements perform
pub record AreSaid (text : List ℕ) (new : List Line) (ls : List (List ℕ)) (ss : List Output) : Type 0 where
  pub lines : List ProgramLine
  pub said : List Performed
  pub read : (found : List ProgramLine) → each_line text found new ≡ read_lines (found ++ lines)
  pub says : LinesSay text lines said
  pub from : AreFrom ls said
  pub same : map statement_of said ≡ filter is_performed ss

-- rows add such lines to those that were entered
abbrev AddLines : List ℕ → List Row → List Line → List Line → List (List ℕ) → List Output → Type 0
AddLines text rows old lines ls ss = (new : List Line) × (after_rows text rows old ≡ lines_are (lines ++ new))
    × AreSaid text new ls ss

-- no lines say nothing
none_said : (text : List ℕ) → AreSaid text [] [] []
none_said text = record {
  lines = [];
  said = [];
  read = λ found. rw (append-nil found) refl;
  says = refl;
  from = refl;
  same = refl;
}

none_added : (text : List ℕ) (lines : List Line) → AddLines text [] lines lines [] []
none_added text lines = ([], rw (append-nil lines) refl, none_said text)

-- a line that says nothing changes nothing
said_after_none : (text : List ℕ) (new : List Line) (n : ℕ) (l : List ℕ) (ls : List (List ℕ))
    (first more : List Output) → IsLine (without_return l) first
    → (HasBasicNumber (without_return l) n ⊎ (first ≡ [])) → filter is_performed first ≡ []
    → AreSaid text new ls more → AreSaid text new (l ∷ ls) (first ++ more)
said_after_none text new n l ls first more line named none c = record {
  lines = c.lines;
  said = c.said;
  read = c.read;
  says = c.says;
  from =
      (n, first, c.said, line, named, ap (λ (os : List Output). in_line n os ++ c.said) (sym none), c.from);
  same = c.same
      ∙ (ap (λ (t : List Output). t ++ filter is_performed more) (sym none) ∙ sym (performed_joined first more));
}

statements_in : (n : ℕ) (os : List Output) → map statement_of (in_line n os) ≡ os
statements_in n [] = refl
statements_in n (o ∷ os) = ap (λ (t : List Output). o ∷ t) (statements_in n os)

abbrev program_line_of : ℕ → List PlacedStatement → ProgramLine
program_line_of n said = record { number = n; statements = said }

-- a line says its statements before those of the others
said_after : (text : List ℕ) (place n : ℕ) (l : List ℕ) (ls : List (List ℕ)) (first more : List Output)
    (new : List Line) → IsLine (without_return l) first → HasBasicNumber (without_return l) n
    → (s : IsLineSaid text place (without_return l) n first) → AreSaid text new ls more
    → AreSaid text (s.line ∷ new) (l ∷ ls) (first ++ more)
said_after text place n l ls first more new line named s c =
    let p = program_line_of n s.said in
    let os = filter is_performed first in
    record {
      lines = p ∷ c.lines;
      said = in_line n os ++ c.said;
      read = λ found. ap
          (λ (r : Result ProgramLine ProgramFault). or_stop r (λ q. each_line text (found ++ q ∷ []) new)) s.read
          ∙ (c.read (found ++ p ∷ []) ∙ ap read_lines (append_assoc found (p ∷ []) c.lines));
      says = (os, c.said, s.says, c.says, refl);
      from = (n, first, c.said, line, inl named, refl, c.from);
      same = map-append statement_of (in_line n os) c.said
          ∙ (ap (λ (t : List Output). t ++ map statement_of c.said) (statements_in n os)
          ∙ (ap (λ (t : List Output). os ++ t) c.same ∙ sym (performed_joined first more)));
    }

-- ---- one line of a script

-- the lines that are entered after a row of a line that says statements
record IsStep (text : List ℕ) (place size : ℕ) (lines : List Line) (first : List Output) (l : List ℕ)
    (ls : List (List ℕ)) : Type 0 where
  pub typed : List Line
  pub next : ℕ
  pub after : after_row text place (place + size) lines ≡ lines_are typed
  pub numbered : AreNumbered next ls
  pub below : AllBelow next typed
  pub goes : (rows : List Row) (more : List Output) → AddLines text rows typed typed ls more
      → AddLines text rows typed lines (l ∷ ls) (first ++ more)

-- a row is its bytes of the text
row_is : (text bytes before back : List ℕ) (place : ℕ) → place ≡ length before → text ≡ before ++ (bytes ++ back)
    → slice_range text place (place + length bytes) ≡ bytes
row_is text bytes before back place at is =
    ap (λ (t : List ℕ). slice_range t place (place + length bytes)) is
    ∙ part_at before bytes back place (place + length bytes) (sym at) (omega arith)

abbrev line_is : Option Line → Result (Option Line) ProgramFault
line_is l = Ok l

-- what a row is decides what is entered
row_entered : (text bytes before back : List ℕ) (place : ℕ) (lines : List Line) (l : Option Line)
    → place ≡ length before → text ≡ before ++ (bytes ++ back) → line_in place bytes ≡ line_is l
    → after_row text place (place + length bytes) lines ≡ entered (line_is l) lines
unfolding after_row
row_entered text bytes before back place lines l at is e =
    ap (λ (t : List ℕ). entered (line_in place t) lines) (row_is text bytes before back place at is)
    ∙ ap (λ (t : Result (Option Line) ProgramFault). entered t lines) e

-- each line of a script enters its line, if it says something
line_step : LexemesAreFound → (text l before back : List ℕ) (ls : List (List ℕ)) (place least : ℕ) (lines : List Line)
    (first : List Output) → place ≡ length before → text ≡ before ++ (without_return l ++ back)
    → IsLine (without_return l) first → AreNumbered least (l ∷ ls) → AllBelow least lines
    → IsStep text place (length (without_return l)) lines first l ls
line_step found text l before back ls place least lines first at is c n below = by n
  where
    bytes : List ℕ
    bytes = without_return l

    numbered : (m : ℕ) (s : IsLineSaid text place bytes m first) → HasBasicNumber bytes m → least ≤ m
        → AreNumbered (m + 1) ls → AllBelow s.line.number lines
        → ((is_empty s.line ≡ true) ⊎ (is_empty s.line ≡ false))
        → IsStep text place (length bytes) lines first l ls
    numbered m s named order more lower (inl e) =
        let none : filter is_performed first ≡ [] =
        subst (λ (t : List PlacedStatement). LineSays text t (filter is_performed first)) (s.empty e) s.says in
        record {
          typed = lines;
          next = m + 1;
          after = row_entered text bytes before back place lines (Some s.line) at is s.is
              ∙ ap lines_are (enter_empty s.line lines lower e);
          numbered = more;
          below = below_more least (m + 1) lines (omega arith) below;
          goes = λ rows os a. (a.0, a.1, said_after_none text a.0 m l ls first os c (inl named) none a.2);
        }
    numbered m s named order more lower (inr e) =
        let number = s.numbered in
        let less : s.line.number < m + 1 = omega arith in
        record {
          typed = lines ++ s.line ∷ [];
          next = m + 1;
          after = row_entered text bytes before back place lines (Some s.line) at is s.is
              ∙ ap lines_are (enter_last s.line lines lower e);
          numbered = more;
          below = below_push (m + 1) lines s.line (below_more least (m + 1) lines (omega arith) below) less;
          goes = λ rows os a. (
            s.line ∷ a.0,
            a.1 ∙ ap lines_are (append_assoc lines (s.line ∷ []) a.0),
            said_after text place m l ls first os a.0 c named s a.2,
          );
        }

    by : ((list_all is_blank bytes ≡ true) × AreNumbered least ls)
        ⊎ ((m : ℕ) × IsNumberedLine bytes m × (least ≤ m) × AreNumbered (m + 1) ls)
        → IsStep text place (length bytes) lines first l ls
    by (inl k) =
        let nothing = blank_said found bytes first k.0 c in
        let none : filter is_performed first ≡ [] = ap (λ (t : List Output). filter is_performed t) nothing in
        record {
          typed = lines;
          next = least;
          after = row_entered text bytes before back place lines None at is (blank_line place bytes k.0);
          numbered = k.1;
          below = below;
          goes = λ rows os a. (a.0, a.1, said_after_none text a.0 0 l ls first os c (inr nothing) none a.2);
        }
    by (inr k) =
        let s = numbered_row found text bytes before back place k.0 first at is k.1 c in
        let number = s.numbered in
        let order = k.2 in
        let low : least ≤ s.line.number = omega arith in
        let named = numbered_as found bytes k.0 first k.1 c in
        numbered k.0 s named k.2 k.3 (below_more least s.line.number lines low below) (cases_Bool (is_empty s.line))

-- ---- all lines of a script

-- the rows of a text from a place on add the lines of its rest
abbrev Goal : List ℕ → List (List ℕ) → Type 0
Goal text ls = (before rest : List ℕ) (place least : ℕ) (lines : List Line) (ss : List Output)
    → place ≡ length before → text ≡ before ++ rest → lines_of rest ≡ ls → AreLines ls ss → AreNumbered least ls
    → AllBelow least lines → AddLines text (rows_from place place rest) lines lines ls ss

-- no lines add nothing
rest_none : (text : List ℕ) → Goal text []
rest_none text before rest place least lines ss at is e c n below =
    let all : AddLines text (row place place ∷ []) lines lines [] [] = (
      [],
      row_passed text place place [] lines lines (empty_row text place lines) ∙ ap lines_are (sym (append-nil lines)),
      none_said text,
    ) in
    subst (λ (t : List ℕ). AddLines text (rows_from place place t) lines lines [] ss) (sym (no_lines rest e))
    (subst (λ (os : List Output). AddLines text (row place place ∷ []) lines lines [] os) (sym c) all)

-- what follows a line adds its lines
tail_adds : (text tail before : List ℕ) (ls : List (List ℕ)) (place least : ℕ) (lines : List Line) (ss : List Output)
    → Goal text ls → IsTail tail ls → place ≡ length before → text ≡ before ++ tail → AreLines ls ss
    → AreNumbered least ls → AllBelow least lines → AddLines text (later place tail) lines lines ls ss
tail_adds text tail before ls place least lines ss goal (inl k) at is c n below =
    let none : ss ≡ [] = subst (λ (t : List (List ℕ)). AreLines t ss) k.1 c in
    subst (λ (t : List ℕ). AddLines text (later place t) lines lines ls ss) (sym k.0)
    (subst (λ (t : List (List ℕ)). AddLines text [] lines lines t ss) (sym k.1)
    (subst (λ (os : List Output). AddLines text [] lines lines [] os) (sym none) (none_added text lines)))
tail_adds text tail before ls place least lines ss goal (inr k) at is c n below =
    let whole : text ≡ (before ++ 10 ∷ []) ++ k.0 =
    is ∙ (ap (λ (t : List ℕ). before ++ t) k.1 ∙ sym (append_assoc before (10 ∷ []) k.0)) in
    let next : place + 1 ≡ length (before ++ 10 ∷ []) = omega (arith, length-append before (10 ∷ [])) in
    subst (λ (t : List ℕ). AddLines text (later place t) lines lines ls ss) (sym k.1)
    (goal (before ++ 10 ∷ []) k.0 (place + 1) least lines ss next whole k.2 c n below)

-- a line and what follows add their lines
line_adds : (text rest : List ℕ) (place size : ℕ) (lines : List Line) (first more ss : List Output) (l : List ℕ)
    (ls : List (List ℕ)) (rows : List Row) (s : IsStep text place size lines first l ls)
    → rows_from place place rest ≡ row place (place + size) ∷ rows → ss ≡ first ++ more
    → AddLines text rows s.typed s.typed ls more → AddLines text (rows_from place place rest) lines lines (l ∷ ls) ss
line_adds text rest place size lines first more ss l ls rows s e said a =
    let g = s.goes rows more a in (
      g.0,
      ap (λ (t : List Row). after_rows text t lines) e
          ∙ (row_passed text place (place + size) rows lines s.typed s.after ∙ g.1),
      subst (λ (os : List Output). AreSaid text g.0 (l ∷ ls) os) (sym said) g.2,
    )

-- one line more
rest_more : LexemesAreFound → (text l : List ℕ) (ls : List (List ℕ)) → Goal text ls → Goal text (l ∷ ls)
rest_more found text l ls goal before rest place least lines ss at is e c n below =
    by (line_cut rest l ls e) (return_cut l)
  where
    bytes : List ℕ
    bytes = without_return l

    by : LineCut rest l ls → ((l ≡ bytes ++ 13 ∷ []) ⊎ (l ≡ bytes))
        → AddLines text (rows_from place place rest) lines lines (l ∷ ls) ss
    by cut (inr same) =
        let tail = cut.1.0 in
        let q = place + length bytes in
        let rest_is : rest ≡ bytes ++ tail = cut.1.1 ∙ ap (λ (t : List ℕ). t ++ tail) same in
        let whole : text ≡ before ++ (bytes ++ tail) = is ∙ ap (λ (t : List ℕ). before ++ t) rest_is in
        let inside = in_row bytes (subst NoFeed same cut.0) (one_row least l ls n) in
        let rows : rows_from place place rest ≡ row place q ∷ later q tail =
        ap (λ (t : List ℕ). rows_from place place t) rest_is
        ∙ (rows_in place place bytes tail inside ∙ row_ends place q tail ls cut.1.2) in
        let s = line_step found text l before tail ls place least lines c.0 at whole c.2 n below in
        let after : q ≡ length (before ++ bytes) = omega (arith, length-append before bytes) in
        let left : text ≡ (before ++ bytes) ++ tail = whole ∙ sym (append_assoc before bytes tail) in
        let t = tail_adds text tail (before ++ bytes) ls q s.next s.typed c.1 goal cut.1.2 after left c.4 s.numbered
        s.below in
        line_adds text rest place (length bytes) lines c.0 c.1 ss l ls (later q tail) s rows c.3 t
    by cut (inl same) =
        let tail = cut.1.0 in
        let q = place + length bytes + 1 in
        let rest_is : rest ≡ bytes ++ (13 ∷ tail) =
        cut.1.1 ∙ (ap (λ (t : List ℕ). t ++ tail) same ∙ append_assoc bytes (13 ∷ []) tail) in
        let whole : text ≡ before ++ (bytes ++ (13 ∷ tail)) = is ∙ ap (λ (t : List ℕ). before ++ t) rest_is in
        let inside = in_row bytes (feed_front bytes (13 ∷ []) (subst NoFeed same cut.0)) (one_row least l ls n) in
        let rows : rows_from place place rest ≡ row place (place + length bytes) ∷ row q q ∷ later q tail =
        ap (λ (t : List ℕ). rows_from place place t) rest_is
        ∙ (rows_in place place bytes (13 ∷ tail) inside
        ∙ ap (λ (t : List Row). row place (place + length bytes) ∷ t) (row_ends q q tail ls cut.1.2)) in
        let s = line_step found text l before (13 ∷ tail) ls place least lines c.0 at whole c.2 n below in
        let after : q ≡ length (before ++ (bytes ++ 13 ∷ [])) =
        omega (arith, length-append before (bytes ++ 13 ∷ []), length-append bytes (13 ∷ [])) in
        let left : text ≡ (before ++ (bytes ++ 13 ∷ [])) ++ tail =
        whole ∙ (ap (λ (t : List ℕ). before ++ t) (sym (append_assoc bytes (13 ∷ []) tail))
        ∙ sym (append_assoc before (bytes ++ 13 ∷ []) tail)) in
        let t = tail_adds text tail (before ++ (bytes ++ 13 ∷ [])) ls q s.next s.typed c.1 goal cut.1.2 after left c.4
        s.numbered s.below in
        let u : AddLines text (row q q ∷ later q tail) s.typed s.typed ls c.1 = (
          t.0,
          row_passed text q q (later q tail) s.typed s.typed (empty_row text q s.typed) ∙ t.1,
          t.2,
        ) in
        line_adds text rest place (length bytes) lines c.0 c.1 ss l ls (row q q ∷ later q tail) s rows c.3 u

-- so all lines are added
rest_added : LexemesAreFound → (text : List ℕ) (ls : List (List ℕ)) → Goal text ls
rest_added found text [] = rest_none text
rest_added found text (l ∷ ls) = rest_more found text l ls (rest_added found text ls)

-- the lines that are typed, and what they say
pub record IsProgram (text : List ℕ) (ss : List Output) : Type 0 where
  pub rows : List Line
  pub typed : program_lines text ≡ lines_are rows
  pub said : AreSaid text rows (lines_of text) ss
  pub read : program text ≡ read_lines said.lines

-- a script whose lines are numbered in order is a program
pub script_program : LexemesAreFound → (text : List ℕ) (ss : List Output) → IsScript text ss
    → AreNumbered 0 (lines_of text) → IsProgram text ss
unfolding program program_lines after_rest
script_program found text ss script numbered =
    let a = rest_added found text (lines_of text) [] text 0 0 [] ss refl refl refl script.0 numbered tt in
    let read : program text ≡ read_lines a.2.lines =
    ap (λ (r : Result (List Line) ProgramFault). or_stop r (λ lines. each_line text [] lines)) a.1 ∙ a.2.read [] in
    record { rows = a.0; typed = a.1; said = a.2; read = read }

-- that says the same
pub texts_say : LexemesAreFound → TextsSayTheSame
texts_say found text ss script numbered =
    let p = script_program found text ss script numbered in
    (p.said.lines, p.said.said, p.read, p.said.says, p.said.from, p.said.same)

abbrev program_is : Program → Result Program ProgramFault
program_is p = Ok p

-- and performs it
pub scripts_run : LexemesAreFound → ScriptsRun
unfolding program_of
scripts_run found text ss script numbered =
    let p = script_program found text ss script numbered in
    let lines = p.said.lines in
    let whole : Program = record { text = text; lines = lines; items = data_of text p.rows } in
    let made : program_of text ≡ program_is whole =
    ap (λ (r : Result (List ProgramLine) ProgramFault). or_stop r (λ lines. or_stop (program_lines text)
    (λ rows. program_is (record { text = text; lines = lines; items = data_of text rows })))) p.read
    ∙ ap (λ (r : Result (List Line) ProgramFault). or_stop r
    (λ rows. program_is (record { text = text; lines = lines; items = data_of text rows }))) p.typed in (
      whole,
      p.said.said,
      made,
      p.said.from,
      p.said.same,
      (λ limit memory steps. plain_runs whole p.said.said limit memory p.said.says steps),
    )
