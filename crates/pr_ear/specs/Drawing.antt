-- Trusted: the pixels of marks, 120 by 126 to the inch: a dot is two by two, as in a PNG file.
use Rattle.std.specs.Prelude.{◌≡◌, ℕ, ◌+◌, ◌-◌, ◌*◌, ◌/◌, ◌<◌, ◌≤◌, ◌^◌, Bool, ◌||◌, List, [], drop, length, flat_map, slice_index_or, if◌then◌else◌}
use Rattle.std.specs.List.{list_any}
use Rattle.pr_page.specs.Marks.{marks_on}
use Rattle.pr_page.specs.declared.carriage.MarkOnPaper.{MarkOnPaper}
use Rattle.pr_page.specs.declared.paper.Paper.{Paper}
use Rattle.pr_dots.specs.Dots.{Dot, columns_dots, columns_of, dots_of, is_at}
use Rattle.pr_dots.specs.declared.character_sets.Shapes.{Shapes}
use Rattle.pr_ear.specs.declared.Answer.{Answer}
use Rattle.pr_ear.specs.declared.drawing.Drawn.{Drawn}
use Rattle.pr_ear.specs.declared.drawing.Drawn.TheVariants.{Pixels, TooSmall, TooLarge}
use Rattle.pr_ear.specs.declared.drawing.Region.{Region}

-- the dots of a mark in these shapes, and those of marks
abbrev pub mark_dots : Shapes → MarkOnPaper → List Dot
mark_dots shapes m = columns_dots m.x m.y (columns_of shapes m.mark)

abbrev pub dots_of_marks : Shapes → List MarkOnPaper → List Dot
dots_of_marks shapes marks = flat_map (mark_dots shapes) marks

-- whether a pixel is dark: x counts 1/120 inch from the left, y 1/126 inch from the top (at y = 0, where 0 - 1 is 0,
-- both tests are one)
abbrev pub is_dark : List Dot → (x y : ℕ) → Bool
is_dark dots x y = list_any (is_at (x / 2) y) dots || list_any (is_at (x / 2) (y - 1)) dots

-- a buffer shows a region of the page with these dots at its front, line by line, over what is under them at each
-- place; the rest of it is as it was
pub record ShowsRegion (dots : List Dot) (r : Region) (under : ℕ → ℕ) (old new : List ℕ) : Type 0 where
  pub fits : r.width * r.height ≤ length old
  pub pixels : (column line : ℕ) → column < r.width → line < r.height
      → slice_index_or new (line * r.width + column) 255
      ≡ (if is_dark dots (r.x + column) (r.y + line) then 0 else under (line * r.width + column))
  pub rest : drop (r.width * r.height) new ≡ drop (r.width * r.height) old
  pub size : length new ≡ length old

-- the outcome, by the buffer before and after
abbrev pub IsDrawn :
    Shapes → List MarkOnPaper → Region → (under : ℕ → ℕ) → Drawn → (old new : List ℕ) → Type 0
IsDrawn shapes marks r under (Pixels n) old new =
    (n ≡ r.width * r.height) × ShowsRegion (dots_of_marks shapes marks) r under old new
IsDrawn shapes marks r under (TooSmall n) old new = (n ≡ r.width * r.height) × (length old < n) × (new ≡ old)
IsDrawn shapes marks r under TooLarge old new = (2 ^ 64 ≤ r.width * r.height) × (new ≡ old)

-- under the dots is paper without ink, or what the buffer had
abbrev pub paper : ℕ → ℕ
paper place = 255

abbrev pub pixels_in : List ℕ → ℕ → ℕ
pixels_in old place = slice_index_or old place 255

-- the outcome as numbers
abbrev pub drawn_answer : Drawn → Answer
drawn_answer (Pixels n) = record { code = 0; fault = 0; place = 0; length = n }
drawn_answer (TooSmall n) = record { code = 4; fault = 0; place = 0; length = n }
drawn_answer TooLarge = record { code = 2; fault = 9; place = 0; length = 0 }

-- a law: the marks of a paper that holds none have its dots
abbrev pub MarksHaveThePagesDots : Type 0
MarksHaveThePagesDots =
    (shapes : Shapes) (paper : Paper) (y : ℕ) → paper.held ≡ [] → dots_of_marks shapes (marks_on paper y)
    ≡ dots_of shapes paper
