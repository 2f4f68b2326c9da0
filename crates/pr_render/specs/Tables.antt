-- Linking words, for proofs: the short texts of a picture, in lists, and the marks of a strip. No reader needs to believe them.
use Rattle.std.specs.Prelude.{◌≡◌, ℕ, suc, ◌+◌, ◌*◌, ◌<◌, Bool, false, not, List, [], ◌∷◌, ◌++◌, ◌==◌, ◌&&◌, codes, decimal, flat_map, slice_index_or, if◌then◌else◌}
use Rattle.pr_page.specs.declared.paper.Placed.{Placed}
use Rattle.pr_page.specs.declared.paper.Mark.{Mark}
use Rattle.pr_page.specs.declared.paper.Mark.TheVariants.{Cell, Dots}
use Rattle.pr_render.specs.Characters.{character}
use Rattle.pr_render.specs.Parts.{letters_fitted, letters_width, text_end, use_begin, use_end, use_place}
use Rattle.pr_render.specs.Svg.{Strip, cells_width, character_text, same, strip_of}
use Rattle.pr_render.specs.Words.{is_blank}

-- at the place of each byte: the use of a mark of this kind with that code or value, up to its dot column
abbrev pub HasUses : List (List ℕ) → List ℕ → Type 0
HasUses texts kind = (k : ℕ) (d : List ℕ) → k < 256 → slice_index_or texts k d ≡ use_begin ++ kind ++ decimal k

-- at the place of each dot column: the rest of a use
abbrev pub HasPlaces : List (List ℕ) → Type 0
HasPlaces texts = (k : ℕ) (d : List ℕ) → k < 480 → slice_index_or texts k d ≡ use_place ++ decimal (21 * k) ++ use_end

-- at the place of each code: its letter in a character set
abbrev pub HasLetters : List (List ℕ) → Bool → Type 0
HasLetters texts lower = (k : ℕ) (d : List ℕ) → k < 256 → slice_index_or texts k d ≡ character_text (character lower k)

-- the letter of a cell; a column of dots has none
abbrev pub letter_of : Mark → List ℕ
letter_of (Cell code lower reverse wide) = character_text (character lower code)
letter_of (Dots value) = []

-- the letters of marks
abbrev pub letters_of : List Placed → List ℕ
letters_of marks = flat_map (λ p. letter_of p.mark) marks

-- the characters of marks
abbrev pub characters_of : List Placed → List ℕ
characters_of marks = flat_map (λ p. (strip_of p.x p.mark).characters) marks

-- a mark is a cell whose character is no blank
abbrev pub shows_mark : Mark → Bool
shows_mark (Cell code lower reverse wide) = not (is_blank (character lower code))
shows_mark (Dots value) = false

-- a mark is a cell of this width
abbrev pub is_cell : Bool → Mark → Bool
is_cell wide (Cell code lower reverse double) = same wide double
is_cell wide (Dots value) = false

-- the same, at this dot column
abbrev pub is_next : Bool → ℕ → Placed → Bool
is_next wide end p = is_cell wide p.mark && p.x == end

-- how many marks, from the first on, are cells of this width side by side from a dot column on
abbrev pub joined_count : Bool → ℕ → List Placed → ℕ
joined_count wide end [] = 0
joined_count wide end (p ∷ ps) = if is_next wide end p then suc (joined_count wide (end + cells_width wide 1) ps) else 0

-- a strip with the cells of these marks after it
abbrev pub extended : Strip → List Placed → Strip
extended strip marks = record { x = strip.x; wide = strip.wide; characters = strip.characters ++ characters_of marks }

-- the letters of this many cells, as wide as they are
unfoldable pub cells_svg : ℕ → Bool → ℕ → List ℕ → List ℕ
cells_svg x wide count letters =
    codes "<text x=\"" ++ decimal (21 * x) ++ letters_width ++ decimal (21 * cells_width wide count) ++ letters_fitted ++ letters ++ text_end
