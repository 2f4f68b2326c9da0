-- What the code keeps of a picture: for each line of pixels, whether each of the 480 dot columns that a printer prints is dark. No reader
-- needs to believe it.
use Rattle.std.specs.Prelude.{◌≡◌, ℕ, zero, suc, ◌+◌, ◌-◌, ◌*◌, ◌<◌, Bool, true, false, ◌&&◌, List, [], ◌∷◌, length, nat_le, nat_lt, slice_index_or, slice_set, if◌then◌else◌}
use Rattle.pr_page.specs.declared.paper.Paper.{Paper}
use Rattle.pr_dots.specs.Dots.{Dot}
use Rattle.pr_dots.specs.Scales.{pixels_of}
use Rattle.pr_dots.specs.declared.character_sets.Shapes.{Shapes}
use Rattle.pr_png.specs.Pixels.{is_printed, line_at}
use Rattle.pr_png.specs.declared.marking.Extent.{Extent}

-- a dot column is dark in a line of pixels, counted from the paper's upper edge, where the picture has that place
abbrev pub darkened : Extent → (column line : ℕ) → List Bool → List Bool
darkened e column line dark =
    if nat_lt column 480 && (nat_le e.top line && nat_lt (line - e.top) e.count)
    then slice_set dark ((line - e.top) * 480 + column) true
    else dark

-- in this many lines, from one on
unfoldable pub darkened_lines : Extent → (column line count : ℕ) → List Bool → List Bool
darkened_lines e column line zero dark = dark
darkened_lines e column line (suc count) dark = darkened_lines e column (line + 1) count (darkened e column line dark)

-- dots are put on the picture
unfoldable pub marked : Extent → List Dot → List Bool → List Bool
marked e [] dark = dark
marked e (dot ∷ dots) dark =
    marked e dots (darkened_lines e dot.x (line_at e.scale dot.y) (pixels_of e.scale) dark)

-- a row at a distance, which is 14/126 inch high, may have a dot on the picture
abbrev pub is_near : Extent → ℕ → Bool
is_near e y = nat_lt e.top (line_at e.scale (y + 14)) && nat_lt (line_at e.scale y) (e.top + e.count)

-- what is dark is what the dots of a paper make dark on the picture
pub record ShowsExtent (shapes : Shapes) (paper : Paper) (e : Extent) (dark : List Bool) : Type 0 where
  pub whole : length dark ≡ 480 * e.count
  pub shows : (column line : ℕ) → column < 480 → line < e.count
      → slice_index_or dark (line * 480 + column) false
      ≡ is_printed shapes paper e.scale column (e.top + line)
