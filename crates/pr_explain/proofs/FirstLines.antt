-- The first of some lines, as a text of its own.
use Rattle.std.proofs.Common.{◌≡◌, ℕ, ◌==◌, ◌<◌, ◌≤◌, Bool, true, false, List, [], ◌∷◌, ◌++◌, length, if◌then◌else◌, refl, ap, subst, sym, arith, append-nil, length-append}
use Rattle.std.specs.Prelude.{⊤}
use Rattle.pr_base.specs.Lines.{lines_of, onto_first}
use Rattle.pr_basic.specs.Grammar.{AreLines, IsScript}
use Rattle.pr_basic.specs.Limits.{statement_limit}
use Rattle.pr_basic.specs.declared.statement.Statement.{Statement}
use Rattle.pr_explain.specs.FirstLines.{BeginsWithLine, CountsFirst}

-- the first of some lines, where it has bytes, is the only line of these
abbrev IsAlone : List (List ℕ) → Type 0
IsAlone [] = ⊤
IsAlone (l ∷ ls) = 0 < length l → lines_of l ≡ l ∷ []

onto-alone : (b : ℕ) (ls : List (List ℕ)) → (b == 10) ≡ false → IsAlone ls → IsAlone (onto_first b ls)
unfolding lines_of
onto-alone b [] h p = λ some. rw h refl
onto-alone b ([] ∷ ls) h p = λ some. rw h refl
onto-alone b ((c ∷ cs) ∷ ls) h p = λ some. rw h (ap (onto_first b) (p (omega arith)))

all-alone : (text : List ℕ) → IsAlone (lines_of text)
unfolding lines_of
all-alone [] = tt
all-alone (b ∷ bs) = by (b == 10) refl (all-alone bs)
  where
    by : (v : Bool) → (b == 10) ≡ v → IsAlone (lines_of bs) → IsAlone (if v then [] ∷ lines_of bs else onto_first b (lines_of bs))
    by true h p = λ some. absurd (omega arith)
    by false h p = onto-alone b (lines_of bs) h p

pub stands_alone : (text line : List ℕ) (more : List (List ℕ)) → 0 < length line → lines_of text ≡ line ∷ more → lines_of line ≡ line ∷ []
stands_alone text line more some cut =
    let P : List (List ℕ) → Type 0 = IsAlone in
    subst P cut (all-alone text) some

-- an empty line with its end is one line too
pub ended_alone : (line : List ℕ) → length line ≡ 0 → lines_of (10 ∷ []) ≡ line ∷ []
unfolding lines_of
ended_alone [] none = refl
ended_alone (b ∷ bs) none = absurd (omega arith)

-- a line has as many statements as it has alone
pub first_counted : (line rest alone : List ℕ) (count : ℕ) → lines_of alone ≡ line ∷ []
    → ((statements : List Statement) → IsScript alone statements → count ≡ length statements) → CountsFirst line rest count
first_counted line rest alone count one counts statements all few =
    let Q : List (List ℕ) → Type 0 = λ ls. AreLines ls all.0 in
    let good : AreLines (lines_of alone) all.0 = subst Q (sym one) (all.0, [], all.2, sym (append-nil all.0), refl) in
    record {
      own = all.0;
      others = all.1;
      is_line = all.2;
      all = all.3;
      are_others = all.4;
      counted = counts all.0 (good, omega (arith, few, ap length all.3, length-append all.0 all.1));
    }
