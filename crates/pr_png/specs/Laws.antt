-- Laws: what the pixels of a paper determine. src/laws.rt proves it.
use Rattle.std.specs.Prelude.{◌≡◌, ⊤, ℕ, ◌+◌, ◌≤◌, false, List, [], ◌∷◌}
use Rattle.pr_page.specs.declared.paper.Row.{Row}
use Rattle.pr_page.specs.declared.paper.Paper.{Paper}
use Rattle.pr_dots.specs.Dots.{has_dot}
use Rattle.pr_dots.specs.Scales.{pixels_of}
use Rattle.pr_dots.specs.declared.character_sets.Shapes.{Shapes}
use Rattle.pr_dots.specs.declared.scale.Scale.{Scale}
use Rattle.pr_png.specs.Pixels.{is_printed}
use Rattle.pr_png.specs.Png.{ShowsLines, paper_height, picture_of}
use Rattle.pr_png.specs.declared.look.Look.{Look}

-- rows from a distance on, each at least 14/126 inch below the one before it, as a printer's are
abbrev pub AreApart : ℕ → List Row → Type 0
AreApart from [] = ⊤
AreApart from (r ∷ rows) = (from ≤ r.y) × AreApart (r.y + 14) rows

-- papers with the same pixels have the same dots, where the place of a dot has 2 pixels or more: a single pixel does not tell at which
-- 1/126 inch its row begins
abbrev pub PixelsTellDots : Type 0
PixelsTellDots = (shapes : Shapes) (p q : Paper) (scale : Scale) → 2 ≤ pixels_of scale → AreApart 0 p.rows → AreApart 0 q.rows
    → ((column line : ℕ) → is_printed shapes p scale column line ≡ is_printed shapes q scale column line)
    → (x y : ℕ) → has_dot shapes p x y ≡ has_dot shapes q x y

-- a file shows the lines of its picture: inflating its data gives the lines of pixels
abbrev pub FileShowsLines : Type 0
FileShowsLines = (shapes : Shapes) (paper : Paper) (look : Look) (line count : ℕ)
    → ShowsLines shapes paper look line count (picture_of shapes paper look line count)

-- the picture of a paper has all of its dots: no line of pixels after it is dark
abbrev pub PaperHasAllDots : Type 0
PaperHasAllDots = (shapes : Shapes) (paper : Paper) (scale : Scale) (column line : ℕ)
    → paper_height scale paper ≤ line → is_printed shapes paper scale column line ≡ false
