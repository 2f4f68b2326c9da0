-- The line of a statement.
use Rattle.std.proofs.Common.{◌≡◌, ℕ, ◌+◌, ◌-◌, ◌<◌, ◌≤◌, List, [], ◌∷◌, ◌++◌, length, drop, refl, ap, subst, sym, ◌∙◌, arith, append_assoc, append-nil, length-append, Option}
use Rattle.pr_base.specs.Lines.{lines_of}
use Rattle.pr_basic.specs.Limits.{statement_limit}
use Rattle.pr_basic.specs.Grammar.{AreLines, IsLine, IsScript, without_return}
use Rattle.pr_basic.specs.declared.statement.Statement.{Statement}
use Rattle.std.specs.Prelude.{slice_index_or}
use Rattle.pr_channels.specs.declared.faults.Stop.{Stop}
use Rattle.pr_serial.specs.declared.Present.{Present}
use Rattle.pr_explain.specs.declared.stops.StopPlace.{StopPlace}
use Rattle.pr_explain.specs.Followed.{IsDeviceAt}
use Rattle.pr_explain.specs.FirstLines.{CountsFirst}
use Rattle.pr_explain.specs.ScriptPlaces.{IsLabel}
use Rattle.pr_explain.specs.StopPlaces.{IsErrorPlace, IsStatementLine, cause_of, device_of}

-- the lines before those that are left have this many statements that this one is left to find
pub record IsLeft (script : List ℕ) (statement number left : ℕ) (rest : List ℕ) : Type 0 where
  pub before : List (List ℕ)
  pub earlier : List Statement
  pub later : List Statement
  pub cut : lines_of script ≡ before ++ lines_of rest
  pub numbered : number ≡ length before
  pub are_before : AreLines before earlier
  pub are_left : AreLines (lines_of rest) later
  pub few : length later ≤ statement_limit
  pub counted : length earlier + left ≡ statement
  pub some : 0 < left
  pub within : left ≤ length later

-- a statement of a script is left to find
abbrev pub StaysLeft : (script : List ℕ) (statement number left : ℕ) (rest : List ℕ) → Type 0
StaysLeft script statement number left rest = (statements : List Statement) → IsScript script statements → 0 < statement → statement ≤ length statements
    → IsLeft script statement number left rest

-- at first all lines are
pub none_passed : (script : List ℕ) (statement : ℕ) → StaysLeft script statement 0 statement script
none_passed script statement statements is some within = record {
  before = [];
  earlier = [];
  later = statements;
  cut = refl;
  numbered = refl;
  are_before = refl;
  are_left = is.0;
  few = is.1;
  counted = omega arith;
  some = some;
  within = within;
}

-- lines and one more
lines_more : (before : List (List ℕ)) (line : List ℕ) (earlier own : List Statement) → AreLines before earlier → IsLine (without_return line) own → AreLines (before ++ line ∷ []) (earlier ++ own)
lines_more [] line earlier own h k = rw h (own, [], k, sym (append-nil own), refl)
lines_more (l ∷ before) line earlier own (first, more, is, e, h) k =
    rw e (first, more ++ own, is, append_assoc first more own, lines_more before line more own h k)

-- a line that has fewer statements is passed
pub one_passed : (script : List ℕ) (statement number left : ℕ) (rest line more : List ℕ) (count : ℕ) → StaysLeft script statement number left rest → lines_of rest ≡ line ∷ lines_of more
    → CountsFirst line more count → count < left → StaysLeft script statement (number + 1) (left - count) more
one_passed script statement number left rest line more count stays cut counts past statements is some within =
    let h = stays statements is some within in
    let P : List (List ℕ) → Type 0 = λ ls. AreLines ls h.later in
    let f = counts h.later (subst P cut h.are_left) h.few in
    let size = length-append f.own f.others in
    record {
      before = h.before ++ line ∷ [];
      earlier = h.earlier ++ f.own;
      later = f.others;
      cut = h.cut ∙ ap (λ v. h.before ++ v) cut ∙ sym (append_assoc h.before (line ∷ []) (lines_of more));
      numbered = omega (arith, h.numbered, length-append h.before (line ∷ []));
      are_before = lines_more h.before line h.earlier f.own h.are_before f.is_line;
      are_left = f.are_others;
      few = omega (arith, h.few, ap length f.all, size);
      counted = omega (arith, h.counted, f.counted, length-append h.earlier f.own, past);
      some = omega (arith, past);
      within = omega (arith, h.within, f.counted, ap length f.all, size);
    }

-- a line that has as many statements has it
pub line_found : (script : List ℕ) (statement number left : ℕ) (rest line more : List ℕ) (count : ℕ) → StaysLeft script statement number left rest → lines_of rest ≡ line ∷ lines_of more
    → CountsFirst line more count → left ≤ count
    → (statements : List Statement) → IsScript script statements → 0 < statement → statement ≤ length statements → IsStatementLine script statement line (number + 1)
line_found script statement number left rest line more count stays cut counts to statements is some within =
    let h = stays statements is some within in
    let P : List (List ℕ) → Type 0 = λ ls. AreLines ls h.later in
    let f = counts h.later (subst P cut h.are_left) h.few in
    record {
      before = h.before;
      after = lines_of more;
      earlier = h.earlier;
      own = f.own;
      cut = h.cut ∙ ap (λ v. h.before ++ v) cut;
      numbered = omega (arith, h.numbered);
      are_before = h.are_before;
      is_line = f.is_line;
      from = omega (arith, h.counted, h.some);
      to = omega (arith, h.counted, f.counted, to);
    }

-- where no line is left none of a script's statements is
pub none_left : (script : List ℕ) (statement number left : ℕ) (rest : List ℕ) → StaysLeft script statement number left rest → length rest ≡ 0
    → (statements : List Statement) → IsScript script statements → 0 < statement → statement ≤ length statements → ⊥
unfolding lines_of
none_left script statement number left (b ∷ rest) stays none statements is some within = absurd (omega arith)
none_left script statement number left [] stays none statements is some within =
    let h = stays statements is some within in
    let empty : h.later ≡ [] = h.are_left in
    absurd (omega (arith, h.some, h.within, ap length empty))

-- the place of an error
pub error_place : (script : List ℕ) (stop : Stop) (statement : ℕ) (present : Present) (items all : List Statement) (line : List ℕ) (p : StopPlace) → IsScript script items → all ≡ items → IsDeviceAt all statement p.device
    → p.statement ≡ statement → IsStatementLine script statement line p.line → IsLabel line p.basic_line → p.cause ≡ cause_of stop present p.device → IsErrorPlace script stop statement present p
error_place script stop statement present items all line p is same d number stands label cause = record {
  before = d.before;
  at = d.at;
  after = d.after;
  line = line;
  is_script = subst (λ l. IsScript script l) (sym same ∙ d.cut) is;
  numbered = d.numbered;
  is_statement = number;
  is_line = stands;
  labelled = label;
  device = d.of_statement;
  cause = cause;
}

-- the device of a statement that is after others
pub device_there : (all before rest more : List Statement) (at : Statement) (n : ℕ) (device : Option ℕ) → all ≡ before ++ rest → rest ≡ at ∷ more → length before ≡ n - 1 → 0 < n → device ≡ device_of before at
    → IsDeviceAt all n device
device_there all before rest more at n device cut is size some of = record {
  before = before;
  at = at;
  after = more;
  cut = cut ∙ ap (λ l. before ++ l) is;
  numbered = omega (arith, size, some);
  of_statement = of;
}

-- the first of some statements, and the others
pub first_of : (rest : List Statement) (d : Statement) → 1 ≤ length rest → rest ≡ slice_index_or rest 0 d ∷ drop 1 rest
first_of [] d h = absurd (omega arith)
first_of (x ∷ xs) d h = refl
