-- Machine steps: dots that are drawn one after another. No reader needs to believe them.
use Rattle.std.specs.Prelude.{◌≡◌, ℕ, ◌+◌, ◌-◌, ◌*◌, ◌^◌, ◌<◌, ◌≤◌, Bool, ◌&&◌, List, [], ◌∷◌, nat_le, nat_lt, slice_set, if◌then◌else◌}
use Rattle.pr_dots.specs.Dots.{Dot}
use Rattle.pr_ear.specs.declared.drawing.Drawn.{Drawn}
use Rattle.pr_ear.specs.declared.drawing.Drawn.TheVariants.{Pixels, TooSmall, TooLarge}
use Rattle.pr_ear.specs.declared.drawing.Region.{Region}

-- a region has a pixel of the page, and where its bitmap has it
abbrev pub has_pixel : Region → (x y : ℕ) → Bool
has_pixel r x y = (nat_le r.x x && nat_lt (x - r.x) r.width) && (nat_le r.y y && nat_lt (y - r.y) r.height)

abbrev pub place_in : Region → (x y : ℕ) → ℕ
place_in r x y = (y - r.y) * r.width + (x - r.x)

-- a pixel is made dark, where the region has it
abbrev pub inked : Region → (x y : ℕ) → List ℕ → List ℕ
inked r x y out = if has_pixel r x y then slice_set out (place_in r x y) 0 else out

-- a dot is drawn
abbrev pub inked_dot : Region → Dot → List ℕ → List ℕ
inked_dot r d out =
    inked r (2 * d.x + 1) (d.y + 1)
    (inked r (2 * d.x) (d.y + 1) (inked r (2 * d.x + 1) d.y (inked r (2 * d.x) d.y out)))

-- dots are drawn
unfoldable pub inked_dots : Region → List Dot → List ℕ → List ℕ
inked_dots r [] out = out
inked_dots r (dot ∷ dots) out = inked_dots r dots (inked_dot r dot out)

-- whether a buffer of this size has room for the pixels of a region
abbrev pub HasRoom : Region → ℕ → Drawn → Type 0
HasRoom r room (Pixels n) = (n ≡ r.width * r.height) × (n ≤ room)
HasRoom r room (TooSmall n) = (n ≡ r.width * r.height) × (room < n)
HasRoom r room TooLarge = 2 ^ 64 ≤ r.width * r.height
