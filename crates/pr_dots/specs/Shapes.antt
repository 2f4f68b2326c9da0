-- Trusted: the dots of each character in both character sets (graphic/upper case and lower/upper case), a line a character.
-- This project's own drawing (examples/characters.txt); tools/shapes writes this file.
use Rattle.std.specs.Prelude.{ℕ, Bool, List, [], ◌∷◌, ◌++◌, slice_index_or, if◌then◌else◌}
use Rattle.pr_dots.specs.Codes.{place_of, printed_as}
use Rattle.pr_dots.specs.declared.character_sets.Shapes.{Shapes}

-- six columns of seven dots, from the left, each as a graphic column prints it: bit 0 is the top dot
abbrev pub six : (a b c d e f : ℕ) → List ℕ
six a b c d e f = a ∷ b ∷ c ∷ d ∷ e ∷ f ∷ []

-- 32 to 64: the space, signs and digits
abbrev pub digits : List (List ℕ)
digits =
    six 0 0 0 0 0 0 ∷  -- 32
    six 0 0 95 0 0 0 ∷  -- 33: !
    six 0 7 0 7 0 0 ∷  -- 34: "
    six 20 127 20 127 20 0 ∷  -- 35: #
    six 36 42 127 42 18 0 ∷  -- 36: $
    six 35 19 8 100 98 0 ∷  -- 37: %
    six 54 73 85 34 80 0 ∷  -- 38: &
    six 0 8 7 3 0 0 ∷  -- 39: '
    six 0 28 34 65 0 0 ∷  -- 40: (
    six 0 65 34 28 0 0 ∷  -- 41: )
    six 20 8 62 8 20 0 ∷  -- 42: *
    six 8 8 62 8 8 0 ∷  -- 43: +
    six 0 88 56 0 0 0 ∷  -- 44: ,
    six 8 8 8 8 8 0 ∷  -- 45: -
    six 0 96 96 0 0 0 ∷  -- 46: .
    six 96 16 8 4 3 0 ∷  -- 47: /
    six 62 81 73 69 62 0 ∷  -- 48: 0
    six 0 66 127 64 0 0 ∷  -- 49: 1
    six 66 97 81 73 70 0 ∷  -- 50: 2
    six 33 65 69 75 49 0 ∷  -- 51: 3
    six 24 20 18 127 16 0 ∷  -- 52: 4
    six 39 69 69 69 57 0 ∷  -- 53: 5
    six 60 74 73 73 48 0 ∷  -- 54: 6
    six 1 113 9 5 3 0 ∷  -- 55: 7
    six 54 73 73 73 54 0 ∷  -- 56: 8
    six 6 73 73 41 30 0 ∷  -- 57: 9
    six 0 54 54 0 0 0 ∷  -- 58: :
    six 0 86 54 0 0 0 ∷  -- 59: ;
    six 8 20 34 65 0 0 ∷  -- 60: <
    six 20 20 20 20 20 0 ∷  -- 61: =
    six 0 65 34 20 8 0 ∷  -- 62: >
    six 2 1 81 9 6 0 ∷  -- 63: ?
    six 62 65 93 85 94 0 ∷ []  -- 64: @

-- A to Z: 65 to 90 of the graphic/upper case set, and 193 to 218 of the other
abbrev pub capitals : List (List ℕ)
capitals =
    six 126 9 9 9 126 0 ∷  -- 65: A
    six 127 73 73 73 54 0 ∷  -- 66: B
    six 62 65 65 65 34 0 ∷  -- 67: C
    six 127 65 65 34 28 0 ∷  -- 68: D
    six 127 73 73 73 65 0 ∷  -- 69: E
    six 127 9 9 9 1 0 ∷  -- 70: F
    six 62 65 73 73 122 0 ∷  -- 71: G
    six 127 8 8 8 127 0 ∷  -- 72: H
    six 0 65 127 65 0 0 ∷  -- 73: I
    six 32 64 65 63 1 0 ∷  -- 74: J
    six 127 8 20 34 65 0 ∷  -- 75: K
    six 127 64 64 64 64 0 ∷  -- 76: L
    six 127 2 12 2 127 0 ∷  -- 77: M
    six 127 6 8 48 127 0 ∷  -- 78: N
    six 62 65 65 65 62 0 ∷  -- 79: O
    six 127 9 9 9 6 0 ∷  -- 80: P
    six 62 65 81 33 94 0 ∷  -- 81: Q
    six 127 9 25 41 70 0 ∷  -- 82: R
    six 70 73 73 73 49 0 ∷  -- 83: S
    six 1 1 127 1 1 0 ∷  -- 84: T
    six 63 64 64 64 63 0 ∷  -- 85: U
    six 15 48 64 48 15 0 ∷  -- 86: V
    six 127 32 24 32 127 0 ∷  -- 87: W
    six 99 20 8 20 99 0 ∷  -- 88: X
    six 3 4 120 4 3 0 ∷  -- 89: Y
    six 97 81 73 69 67 0 ∷ []  -- 90: Z

-- a to z: 65 to 90 of the lower/upper case set
abbrev pub small_letters : List (List ℕ)
small_letters =
    six 32 84 84 120 64 0 ∷  -- 65: a
    six 127 40 68 68 56 0 ∷  -- 66: b
    six 56 68 68 68 0 0 ∷  -- 67: c
    six 56 68 68 40 127 0 ∷  -- 68: d
    six 56 84 84 84 24 0 ∷  -- 69: e
    six 8 126 9 1 2 0 ∷  -- 70: f
    six 8 84 84 84 60 0 ∷  -- 71: g
    six 127 8 4 4 120 0 ∷  -- 72: h
    six 0 68 125 64 0 0 ∷  -- 73: i
    six 32 64 68 61 0 0 ∷  -- 74: j
    six 127 16 40 68 0 0 ∷  -- 75: k
    six 0 65 127 64 0 0 ∷  -- 76: l
    six 124 4 24 4 120 0 ∷  -- 77: m
    six 124 8 4 4 120 0 ∷  -- 78: n
    six 56 68 68 68 56 0 ∷  -- 79: o
    six 124 20 20 20 8 0 ∷  -- 80: p
    six 8 20 20 20 124 0 ∷  -- 81: q
    six 124 8 4 4 8 0 ∷  -- 82: r
    six 72 84 84 84 36 0 ∷  -- 83: s
    six 4 63 68 64 32 0 ∷  -- 84: t
    six 60 64 64 32 124 0 ∷  -- 85: u
    six 28 32 64 32 28 0 ∷  -- 86: v
    six 60 64 48 64 60 0 ∷  -- 87: w
    six 68 40 16 40 68 0 ∷  -- 88: x
    six 12 80 80 80 60 0 ∷  -- 89: y
    six 68 100 84 76 68 0 ∷ []  -- 90: z

-- 91 to 95: brackets around a pound sign, and arrows up and left
abbrev pub signs : List (List ℕ)
signs =
    six 0 127 65 65 0 0 ∷  -- 91: [
    six 72 126 73 73 66 0 ∷  -- 92
    six 0 65 65 127 0 0 ∷  -- 93
    six 4 2 127 2 4 0 ∷  -- 94
    six 8 28 42 8 8 0 ∷ []  -- 95

-- 160 to 191: the sets differ at 169 and 186
abbrev pub blocks : (fill mark : List ℕ) → List (List ℕ)
blocks fill mark =
    six 0 0 0 0 0 0 ∷  -- 160
    six 127 127 127 0 0 0 ∷  -- 161
    six 120 120 120 120 120 120 ∷  -- 162
    six 1 1 1 1 1 1 ∷  -- 163
    six 64 64 64 64 64 64 ∷  -- 164
    six 127 0 0 0 0 0 ∷  -- 165
    six 85 42 85 42 85 42 ∷  -- 166
    six 0 0 0 0 0 127 ∷  -- 167
    six 80 40 80 40 80 40 ∷  -- 168
    fill ∷  -- 169
    six 0 0 0 0 127 127 ∷  -- 170
    six 0 0 127 8 8 8 ∷  -- 171
    six 0 0 0 120 120 120 ∷  -- 172
    six 0 0 15 8 8 8 ∷  -- 173
    six 8 8 120 0 0 0 ∷  -- 174
    six 96 96 96 96 96 96 ∷  -- 175
    six 0 0 120 8 8 8 ∷  -- 176
    six 8 8 15 8 8 8 ∷  -- 177
    six 8 8 120 8 8 8 ∷  -- 178
    six 8 8 127 0 0 0 ∷  -- 179
    six 127 127 0 0 0 0 ∷  -- 180
    six 127 127 0 0 0 0 ∷  -- 181
    six 0 0 0 0 127 127 ∷  -- 182
    six 3 3 3 3 3 3 ∷  -- 183
    six 7 7 7 7 7 7 ∷  -- 184
    six 112 112 112 112 112 112 ∷  -- 185
    mark ∷  -- 186
    six 120 120 120 0 0 0 ∷  -- 187
    six 0 0 0 7 7 7 ∷  -- 188
    six 8 8 15 0 0 0 ∷  -- 189
    six 7 7 7 0 0 0 ∷  -- 190
    six 7 7 7 120 120 120 ∷ []  -- 191

-- 192 of both sets
abbrev pub line_192 : List ℕ
line_192 = six 8 8 8 8 8 8

-- 192 to 223 of the graphic/upper case set
abbrev pub pictures : List (List ℕ)
pictures =
    line_192 ∷  -- 192
    six 28 94 127 94 28 0 ∷  -- 193
    six 0 0 127 0 0 0 ∷  -- 194
    six 8 8 8 8 8 8 ∷  -- 195
    six 4 4 4 4 4 4 ∷  -- 196
    six 2 2 2 2 2 2 ∷  -- 197
    six 16 16 16 16 16 16 ∷  -- 198
    six 0 127 0 0 0 0 ∷  -- 199
    six 0 0 0 0 127 0 ∷  -- 200
    six 8 8 112 0 0 0 ∷  -- 201
    six 0 0 7 8 8 8 ∷  -- 202
    six 8 8 7 0 0 0 ∷  -- 203
    six 127 64 64 64 64 64 ∷  -- 204
    six 3 4 8 16 32 64 ∷  -- 205
    six 64 32 16 8 4 3 ∷  -- 206
    six 127 1 1 1 1 1 ∷  -- 207
    six 1 1 1 1 1 127 ∷  -- 208
    six 28 62 62 62 28 0 ∷  -- 209
    six 32 32 32 32 32 32 ∷  -- 210
    six 14 31 62 31 14 0 ∷  -- 211
    six 0 127 0 0 0 0 ∷  -- 212
    six 0 0 112 8 8 8 ∷  -- 213
    six 99 20 8 20 99 0 ∷  -- 214
    six 28 34 34 34 28 0 ∷  -- 215
    six 28 95 107 95 28 0 ∷  -- 216
    six 0 0 0 0 127 0 ∷  -- 217
    six 8 28 62 28 8 0 ∷  -- 218
    six 8 8 127 8 8 8 ∷  -- 219
    six 85 42 85 0 0 0 ∷  -- 220
    six 0 0 127 0 0 0 ∷  -- 221
    six 4 124 4 60 68 0 ∷  -- 222
    six 1 3 7 15 31 63 ∷ []  -- 223

-- 219 to 223 of the lower/upper case set
abbrev pub ends : List (List ℕ)
ends =
    six 8 8 127 8 8 8 ∷  -- 219
    six 85 42 85 0 0 0 ∷  -- 220
    six 0 0 127 0 0 0 ∷  -- 221
    six 42 85 42 85 42 85 ∷  -- 222
    six 73 18 36 73 18 36 ∷ []  -- 223

-- 169 of the graphic/upper case set
abbrev pub upper_169 : List ℕ
upper_169 = six 63 31 15 7 3 1

-- 186 of the graphic/upper case set
abbrev pub upper_186 : List ℕ
upper_186 = six 64 64 64 64 64 127

-- 169 of the lower/upper case set
abbrev pub lower_169 : List ℕ
lower_169 = six 36 18 73 36 18 73

-- 186 of the lower/upper case set
abbrev pub lower_186 : List ℕ
lower_186 = six 24 48 96 56 14 3

-- the graphic/upper case set
unfoldable pub upper_shapes : List (List ℕ)
upper_shapes = digits ++ capitals ++ signs ++ blocks upper_169 upper_186 ++ pictures

-- the lower/upper case set, with small letters from 65 on and capitals from 193 on
unfoldable pub lower_shapes : List (List ℕ)
lower_shapes = digits ++ small_letters ++ signs ++ blocks lower_169 lower_186 ++ line_192 ∷ capitals ++ ends

-- the six columns of a cell's code in these shapes
unfoldable pub shape : Shapes → Bool → ℕ → List ℕ
shape shapes lower code = slice_index_or (if lower then shapes.lower else shapes.upper) (place_of (printed_as code)) []

-- this project's own drawing of both sets
abbrev pub own_shapes : Shapes
own_shapes = record { upper = upper_shapes; lower = lower_shapes }
