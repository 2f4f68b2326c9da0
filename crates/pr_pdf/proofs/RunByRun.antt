-- The runs of marks, mark by mark.
use Rattle.std.proofs.Common.{◌≡◌, ℕ, true, false, List, [], ◌∷◌, ◌++◌, refl, arith}
use Rattle.std.specs.Prelude.{flat_map, nat_lt}
use Rattle.std.proofs.lemmas.Grind.{common_steps}
use Rattle.pr_page.specs.declared.paper.Mark.{Mark}
use Rattle.pr_page.specs.declared.paper.Mark.TheVariants.{Cell, Dots}
use Rattle.pr_page.specs.declared.paper.Placed.{Placed}
use Rattle.pr_pdf.specs.Fonts.{font_of}
use Rattle.pr_pdf.specs.Linked.{rest_pdf}
use Rattle.pr_pdf.specs.Parts.{run_end}
use Rattle.pr_pdf.specs.Sheets.{codes_taken, end_of, run_pdf, runs_left, runs_of}
use Rattle.pr_pdf.specs.Words.{hex_2}

-- each mark has a font
pub font_within : (mark : Mark) → nat_lt (font_of mark) 9 ≡ true
font_within (Cell code true true true) = refl
font_within (Cell code true true false) = refl
font_within (Cell code true false true) = refl
font_within (Cell code true false false) = refl
font_within (Cell code false true true) = refl
font_within (Cell code false true false) = refl
font_within (Cell code false false true) = refl
font_within (Cell code false false false) = refl
font_within (Dots value) = refl

-- what follows a mark's code: the codes of its run, the run's end, and the runs that stay
rest_of_runs : (height : ℕ) (placed : Placed) (marks : List Placed)
    → flat_map hex_2 (codes_taken placed (runs_of marks)) ++ (run_end ++ flat_map (run_pdf height) (runs_left placed (runs_of marks)))
    ≡ rest_pdf height (font_of placed.mark) (end_of placed) marks
rest_of_runs height placed [] = grind (arith, common_steps, font_within placed.mark)
rest_of_runs height placed (next ∷ marks) = grind (arith, common_steps, font_within placed.mark, rest_of_runs height next marks)

-- the runs of marks, where none has begun
pub runs_are : (height : ℕ) (marks : List Placed) → rest_pdf height 9 0 marks ≡ flat_map (run_pdf height) (runs_of marks)
runs_are height [] = refl
runs_are height (placed ∷ marks) = grind (arith, common_steps, font_within placed.mark, rest_of_runs height placed marks)
