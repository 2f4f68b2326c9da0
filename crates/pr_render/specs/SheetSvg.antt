-- Trusted: one sheet of a paper as an SVG document: 10 inches of continuous paper by 11 inches between two folds. Sheets are counted from 0.
-- A unit of the document is 1/1260 inch. Rows have the distances from the upper edge of the paper, and the document of a later sheet
-- begins further down.
use Rattle.std.specs.Prelude.{ℕ, ◌+◌, ◌*◌, List, ◌++◌, decimal, flat_map, map}
use Rattle.pr_page.specs.declared.paper.Row.{Row}
use Rattle.pr_page.specs.declared.paper.Paper.{Paper}
use Rattle.pr_page.specs.declared.paper.Mark.{Mark}
use Rattle.pr_dots.specs.Sheets.{rows_on}
use Rattle.pr_dots.specs.declared.character_sets.Shapes.{Shapes}
use Rattle.pr_render.specs.Parts.{document_about, ink_begin, paper_piece, sheet_end, single_begin, single_end, single_marks, single_paper, single_size}
use Rattle.pr_render.specs.Svg.{definitions_svg, row_svg}

-- where a sheet begins: the first one with the group of the marks, 630 units down
abbrev pub single_top : ℕ → ℕ
single_top sheet = 13860 * sheet + 630

-- the document's head: its size, what it shows, and a piece of continuous paper
unfoldable pub single_head : ℕ → List ℕ
single_head top = single_begin ++ decimal top ++ single_size ++ document_about ++ paper_piece

-- the paper of the sheet
unfoldable pub single_sheet : ℕ → List ℕ
single_sheet top = single_paper ++ decimal top ++ single_marks

-- the marks of rows
abbrev pub row_marks : List Row → List Mark
row_marks rows = map (λ p. p.mark) (flat_map (λ r. r.marks) rows)

-- the document of rows on a sheet: each of their marks is defined once, and each row is drawn
unfoldable pub single_svg : Shapes → ℕ → List Row → List ℕ
single_svg shapes top rows =
    single_head top ++ definitions_svg shapes (row_marks rows) ++ single_sheet top ++ ink_begin ++ flat_map row_svg rows
    ++ sheet_end ++ single_end

-- a sheet of a paper: the rows that are on it. Marks that are held have no place yet, and are left out
abbrev pub sheet_svg_of : Shapes → Paper → ℕ → List ℕ
sheet_svg_of shapes paper sheet = single_svg shapes (single_top sheet) (rows_on sheet paper.rows)
