-- Linking words, for proofs: what is before and after the rows of a sheet, and blocks. No reader needs to believe them.
use Rattle.std.specs.Prelude.{ℕ, ◌+◌, List, Vec, ◌++◌, codes, flat_map}
use Rattle.std.specs.Global.{Global}
use Rattle.pr_page.specs.declared.paper.Placed.{Placed}
use Rattle.pr_serial.specs.declared.Present.{Present}
use Rattle.pr_system.specs.declared.outcome.Outcome.{Outcome}
use Rattle.pr_dots.specs.declared.character_sets.Shapes.{Shapes}
use Rattle.pr_render.specs.Parts.{ink_begin, sheet_end}
use Rattle.pr_render.specs.Svg.{definitions_svg, drawn_marks, head_svg, height_of, held_line, held_svg, name_line, notes_svg, paper_svg, sheets_picas}

-- the bytes of blocks
abbrev pub joined : List (Vec ℕ Global) → List ℕ
joined blocks = flat_map (λ b. b.items) blocks

-- a sheet up to its rows
abbrev pub sheet_front : (top device above picas : ℕ) → List ℕ
sheet_front top device above picas = name_line device above ++ paper_svg top picas ++ ink_begin

-- the rest of a sheet after rows that end here
abbrev pub sheet_back : ℕ → List Placed → List ℕ
sheet_back end held = held_svg (end + 21) held ++ codes "</g>\n" ++ held_line end held ++ sheet_end

-- a picture up to its sheets
abbrev pub picture_front : Shapes → (top : ℕ) → Outcome → Present → List ℕ
picture_front shapes top outcome drawn =
    head_svg (height_of (sheets_picas top outcome drawn) outcome)
    ++ definitions_svg shapes (drawn_marks outcome drawn)

-- the rest of a picture after its sheets
abbrev pub picture_back : ℕ → Outcome → List ℕ
picture_back picas outcome = notes_svg picas outcome ++ codes "</svg>\n"
