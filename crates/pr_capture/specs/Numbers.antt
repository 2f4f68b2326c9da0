-- Trusted: the numbers that a recording spells, and words in it.
use Rattle.std.specs.Prelude.{ℕ, zero, suc, ◌+◌, ◌-◌, ◌*◌, ◌==◌, ◌&&◌, ◌||◌, Bool, true, false, not, List, [], ◌∷◌, drop, length, nat_le, nat_lt, take, if◌then◌else◌, Option, Some, None}
use Rattle.std.specs.List.{list_all, prefix_len}
use Rattle.pr_base.specs.Digits.{is_digit}
use Rattle.pr_capture.specs.Recording.{behind_letter}

-- what follows where there is something
abbrev pub onward : {A B : Type 0} → Option A → (A → Option B) → Option B
onward None f = None
onward (Some x) f = f x

-- Numbers.

-- the number that digits spell after those that spell n, as long as it is below 2 ^ 64
abbrev pub number_from : ℕ → (digits : List ℕ) → Option ℕ
number_from n [] = Some n
number_from n (d ∷ ds) = if nat_lt (10 * n + (d - 48)) 18446744073709551616 then number_from (10 * n + (d - 48)) ds else None

-- digits, and what follows them
abbrev pub digits_in : List ℕ → List ℕ
digits_in l = take (prefix_len is_digit l) l

abbrev pub behind_digits : List ℕ → List ℕ
behind_digits l = drop (prefix_len is_digit l) l

-- the number in front of a text
abbrev pub number_of : (digits : List ℕ) → Option ℕ
number_of [] = None
number_of (d ∷ ds) = number_from 0 (d ∷ ds)

abbrev pub number_in : (text : List ℕ) → Option ℕ
number_in l = number_of (digits_in l)

-- the digits after a point, if one is here, and what follows them
abbrev pub decimals_in : List ℕ → List ℕ
decimals_in [] = []
decimals_in (b ∷ bs) = if b == 46 then digits_in bs else []

abbrev pub behind_decimals : List ℕ → List ℕ
behind_decimals [] = []
behind_decimals (b ∷ bs) = if b == 46 then behind_digits bs else b ∷ bs

-- this many zeros after a number
abbrev pub with_zeros : (count : ℕ) → ℕ → Option ℕ
with_zeros zero n = Some n
with_zeros (suc count) n = onward (number_from n (48 ∷ [])) (λ m. with_zeros count m)

-- the number that the first `count` digits spell after those that spell n; missing digits are zeros
abbrev pub number_of_first : ℕ → (count : ℕ) → (digits : List ℕ) → Option ℕ
number_of_first n count ds = onward (number_from n (take count ds)) (λ m. with_zeros (count - length ds) m)

-- one of these digits is no zero
abbrev pub are_some : (digits : List ℕ) → Bool
are_some [] = false
are_some (d ∷ ds) = if d == 48 then are_some ds else true

-- Words, in which nothing counts but letters, capitals or not, digits, and the bytes above 127.

abbrev pub is_letter : ℕ → Bool
is_letter b = (nat_le 65 b && nat_le b 90) || (nat_le 97 b && nat_le b 122)

abbrev pub is_sign : ℕ → Bool
is_sign b = nat_lt b 128 && not (is_digit b || is_letter b)

abbrev pub without_signs : List ℕ → List ℕ
without_signs [] = []
without_signs (b ∷ bs) = if is_sign b then without_signs bs else b ∷ bs

-- what follows a word, if a text begins with it
abbrev pub behind_word : (word text : List ℕ) → Option (List ℕ)
behind_word [] text = Some text
behind_word (w ∷ ws) text = onward (behind_letter w (without_signs text)) (λ rest. behind_word ws rest)

-- nothing is there
abbrev pub is_end : Option (List ℕ) → Bool
is_end None = false
is_end (Some text) = list_all is_sign text

-- a text is a word
abbrev pub spells : (word text : List ℕ) → Bool
spells word text = is_end (behind_word word text)
