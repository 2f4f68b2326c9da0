-- Laws: where the dots of a paper are, whose first row is some lines below its upper edge. src/laws.rt proves it.
use Rattle.std.specs.Prelude.{◌≡◌, ℕ, ◌-◌, ◌*◌, ◌&&◌, nat_le}
use Rattle.pr_page.specs.declared.paper.Paper.{Paper}
use Rattle.pr_dots.specs.Dots.{has_dot}
use Rattle.pr_dots.specs.Sheets.{lowered}
use Rattle.pr_dots.specs.declared.character_sets.Shapes.{Shapes}

-- each dot is 21/126 inch farther down for each of these lines, and there is no other dot
abbrev pub LowersDots : Type 0
LowersDots = (shapes : Shapes) (top : ℕ) (paper : Paper) (x y : ℕ)
    → has_dot shapes (lowered top paper) x y ≡ (nat_le (21 * top) y && has_dot shapes paper x (y - 21 * top))
