-- Linking words: what ties a head to the inputs that it has taken and to the marks that it has made. `HeadsMakePages`, the law, is what a
-- reader believes.
use Rattle.std.specs.Prelude.{◌≡◌, ◌*◌, ◌≤◌, List, ◌∷◌, ◌++◌, length}
use Rattle.pr_page.specs.Lines.{line_dots}
use Rattle.pr_page.specs.Marks.{marks_on}
use Rattle.pr_page.specs.Page.{IsPage}
use Rattle.pr_page.specs.Steps.{start, state_after}
use Rattle.pr_page.specs.Striking.{head_of, marks_of_sheet}
use Rattle.pr_page.specs.declared.carriage.MarkOnPaper.{MarkOnPaper}
use Rattle.pr_page.specs.declared.head.Head.{Head}
use Rattle.pr_page.specs.declared.input.Input.{Input}
use Rattle.pr_page.specs.declared.paper.Paper.{Paper}
use Rattle.pr_page.specs.declared.paper.Row.{Row}

-- the head was new, has taken these inputs and no others, and has made these marks, all in this order
pub record HasMade (inputs : List Input) (marks : List MarkOnPaper) (head : Head) : Type 0 where
  pub head_is : head ≡ head_of (state_after start inputs)
  pub marks_are : marks ≡ marks_of_sheet (state_after start inputs).sheet
  pub y : head.carriage.y ≤ 21 * length inputs
  pub position : head.carriage.position ≤ line_dots

-- a law: the marks are those of the page, each with its row's place, and then the held ones with the head's
abbrev pub HeadsMakePages : Type 0
HeadsMakePages =
    (inputs : List Input) (marks : List MarkOnPaper) (head : Head) (paper : Paper) → HasMade inputs marks head
    → IsPage inputs paper → marks ≡ marks_on paper head.carriage.y

-- a law: whatever inputs follow, the next row to end is where the head is
abbrev pub NextRowsAreAtHeads : Type 0
NextRowsAreAtHeads =
    (inputs more : List Input) (marks : List MarkOnPaper) (head : Head) (before after : Paper) (row : Row) (rows : List Row)
    → HasMade inputs marks head → IsPage inputs before → IsPage (inputs ++ more) after → after.rows ≡ before.rows ++ row ∷ rows
    → row.y ≡ head.carriage.y
