-- Laws: a document draws the dots of its papers. src/laws.rt proves them.
use Rattle.std.specs.Prelude.{◌≡◌, ℕ, ◌/◌, List, filter, flat_map, map}
use Rattle.pr_page.specs.declared.paper.Paper.{Paper}
use Rattle.pr_page.specs.declared.paper.Row.{Row}
use Rattle.pr_dots.specs.Dots.{has_dot, row_dots}
use Rattle.pr_dots.specs.declared.character_sets.Shapes.{Shapes}
use Rattle.pr_pdf.specs.Drawn.{disc_on, has_disc, sheet_discs}
use Rattle.pr_dots.specs.Sheets.{is_on}

-- a sheet draws a disc for each dot of the rows that are on it, and no other disc
abbrev pub DrawsDots : Type 0
DrawsDots = (shapes : Shapes) (rows : List Row) (sheet : ℕ)
    → sheet_discs shapes rows sheet ≡ map (disc_on sheet) (flat_map (row_dots shapes) (filter (is_on sheet) rows))

-- a place of a paper has a disc on its sheet exactly if the paper has a dot there
abbrev pub DrawsPaper : Type 0
DrawsPaper = (shapes : Shapes) (paper : Paper) (sheet x y : ℕ) → y / 1386 ≡ sheet
    → has_disc sheet x y (sheet_discs shapes paper.rows sheet) ≡ has_dot shapes paper x y
