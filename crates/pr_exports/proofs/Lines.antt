-- The lines of a script, one after another, and the numbers of those of its statements.
use Rattle.std.proofs.Common.{◌≡◌, ℕ, suc, ◌+◌, ◌≤◌, List, [], ◌∷◌, ◌++◌, length, refl, ap, subst, sym, ◌∙◌, arith, append_assoc, append-nil, length-append}
use Rattle.std.specs.Prelude.{replicate}
use Rattle.pr_base.specs.Lines.{lines_of}
use Rattle.pr_basic.specs.Limits.{statement_limit}
use Rattle.pr_basic.specs.Grammar.{AreLines, IsLine, IsScript, without_return}
use Rattle.pr_basic.specs.declared.statement.Statement.{Statement}
use Rattle.pr_explain.specs.FirstLines.{CountsFirst}
use Rattle.pr_exports.specs.Numbers.{AreLineNumbers}

-- the lines before those that are left have these numbers
pub record IsPassed (script : List ℕ) (number : ℕ) (numbers rest : List ℕ) : Type 0 where
  pub before : List (List ℕ)
  pub later : List Statement
  pub cut : lines_of script ≡ before ++ lines_of rest
  pub numbered : number ≡ length before
  pub are_numbers : AreLineNumbers 1 before numbers
  pub are_left : AreLines (lines_of rest) later
  pub few : length later ≤ statement_limit

abbrev pub StaysPassed : (script : List ℕ) (number : ℕ) (numbers rest : List ℕ) → Type 0
StaysPassed script number numbers rest = (statements : List Statement) → IsScript script statements → IsPassed script number numbers rest

-- at first no line is passed
pub none_passed : (script : List ℕ) → StaysPassed script 0 [] script
none_passed script statements is = record {
  before = [];
  later = statements;
  cut = refl;
  numbered = refl;
  are_numbers = refl;
  are_left = is.0;
  few = is.1;
}

-- lines and one more
numbers_more : (n : ℕ) (before : List (List ℕ)) (line numbers : List ℕ) (own : List Statement) → AreLineNumbers n before numbers → IsLine (without_return line) own
    → AreLineNumbers n (before ++ line ∷ []) (numbers ++ replicate (length own) (n + length before))
numbers_more n [] line numbers own h k =
    let same : n + 0 ≡ n = omega arith in
    let all : numbers ++ replicate (length own) (n + 0) ≡ replicate (length own) n ++ [] =
    ap (λ l. l ++ replicate (length own) (n + 0)) h ∙ (ap (λ m. replicate (length own) m) same ∙ sym (append-nil (replicate (length own) n))) in
    (own, [], k, all, refl)
numbers_more n (l ∷ before) line numbers own (first, more, is, e, h) k =
    let last : List ℕ = replicate (length own) (n + suc (length before)) in
    let later : AreLineNumbers (n + 1) (before ++ line ∷ []) (more ++ replicate (length own) (n + 1 + length before)) = numbers_more (n + 1) before line more own h k in
    let same : n + 1 + length before ≡ n + suc (length before) = omega arith in
    let P : ℕ → Type 0 = λ m. AreLineNumbers (n + 1) (before ++ line ∷ []) (more ++ replicate (length own) m) in
    (first, more ++ last, is, ap (λ v. v ++ last) e ∙ append_assoc (replicate (length first) n) more last, subst P same later)

-- a line is passed
pub one_passed : (script : List ℕ) (number : ℕ) (numbers rest line more : List ℕ) (count : ℕ) → StaysPassed script number numbers rest → lines_of rest ≡ line ∷ lines_of more
    → CountsFirst line more count → StaysPassed script (number + 1) (numbers ++ replicate count (number + 1)) more
one_passed script number numbers rest line more count stays cut counts statements is =
    let h = stays statements is in
    let Q : List (List ℕ) → Type 0 = λ ls. AreLines ls h.later in
    let f = counts h.later (subst Q cut h.are_left) h.few in
    let size = length-append f.own f.others in
    let same : replicate (length f.own) (1 + length h.before) ≡ replicate count (number + 1) =
    ap (λ m. replicate m (1 + length h.before)) (sym f.counted) ∙ ap (λ m. replicate count m) (omega (arith, h.numbered)) in
    let P : List ℕ → Type 0 = λ l. AreLineNumbers 1 (h.before ++ line ∷ []) (numbers ++ l) in
    record {
      before = h.before ++ line ∷ [];
      later = f.others;
      cut = h.cut ∙ ap (λ v. h.before ++ v) cut ∙ sym (append_assoc h.before (line ∷ []) (lines_of more));
      numbered = omega (arith, h.numbered, length-append h.before (line ∷ []));
      are_numbers = subst P same (numbers_more 1 h.before line numbers f.own h.are_numbers f.is_line);
      are_left = f.are_others;
      few = omega (arith, h.few, ap length f.all, size);
    }

-- where no line is left all are passed
pub all_passed : (script : List ℕ) (number : ℕ) (numbers rest : List ℕ) → StaysPassed script number numbers rest → length rest ≡ 0
    → (statements : List Statement) → IsScript script statements → AreLineNumbers 1 (lines_of script) numbers
unfolding lines_of
all_passed script number numbers (b ∷ rest) stays none statements is = absurd (omega arith)
all_passed script number numbers [] stays none statements is =
    let h = stays statements is in
    let P : List (List ℕ) → Type 0 = λ ls. AreLineNumbers 1 ls numbers in
    subst P (sym (h.cut ∙ append-nil h.before)) h.are_numbers
