-- What is at the front of the bytes that are left of a program.
use Rattle.std.proofs.Common.{◌≡◌, ℕ, suc, ◌+◌, ◌*◌, ◌<◌, ◌≤◌, false, List, [], ◌∷◌, length, get_or, take, drop, refl, ap, arith, inl, inr}
use Rattle.std.proofs.lemmas.Grind.{common_steps}
use Rattle.std.specs.List.{prefix_len}
use Rattle.pr_listing.specs.Program.{BeginsWith, IsCutOff, is_not_zero}
use Rattle.pr_listing.proofs.Marks.{at_mark, before_mark, no_mark}

-- the test fails at 0 alone
zero_is : (b : ℕ) → is_not_zero b ≡ false → b ≡ 0
zero_is b h = grind (arith, common_steps)

-- a link of 0
pub at_end : (bs : List ℕ) → 2 ≤ length bs → get_or bs 0 0 + get_or bs 1 0 ≡ 0 → (more : List ℕ) × (bs ≡ 0 ∷ 0 ∷ more)
at_end [] h e = absurd (omega arith)
at_end (a ∷ []) h e = absurd (omega arith)
at_end (a ∷ b ∷ more) h e =
    let first : a ≡ 0 = omega arith in
    let second : b ≡ 0 = omega arith in
    (more, cc)

-- fewer bytes than a link
pub cut_in_link : (bs : List ℕ) → length bs < 2 → IsCutOff bs
cut_in_link bs h = inl h

-- fewer bytes than a link and a number
pub cut_in_number : (bs : List ℕ) → 2 ≤ length bs → length bs < 4 → 0 < get_or bs 0 0 + get_or bs 1 0 → IsCutOff bs
cut_in_number [] h l e = absurd (omega arith)
cut_in_number (a ∷ []) h l e = absurd (omega arith)
cut_in_number (a ∷ b ∷ rest) h l e = inr (a, b, rest, refl, e, inl (omega arith))

-- no 0 after a line
pub cut_in_line : (bs : List ℕ) → 4 ≤ length bs → 0 < get_or bs 0 0 + get_or bs 1 0 → prefix_len is_not_zero (drop 4 bs) ≡ length (drop 4 bs) → IsCutOff bs
cut_in_line [] h e k = absurd (omega arith)
cut_in_line (a ∷ []) h e k = absurd (omega arith)
cut_in_line (a ∷ b ∷ []) h e k = absurd (omega arith)
cut_in_line (a ∷ b ∷ c ∷ []) h e k = absurd (omega arith)
cut_in_line (a ∷ b ∷ c ∷ d ∷ line) h e k = inr (a, b, c ∷ d ∷ line, refl, e, inr (c, d, line, refl, no_mark is_not_zero line k))

-- a line
pub line_at : (bs : List ℕ) (n number : ℕ) → 4 ≤ length bs → 0 < get_or bs 0 0 + get_or bs 1 0 → number ≡ get_or bs 2 0 + 256 * get_or bs 3 0 → n ≡ prefix_len is_not_zero (drop 4 bs) → n < length (drop 4 bs)
    → BeginsWith (record { number = number; bytes = take n (drop 4 bs) }) bs (drop (n + 1) (drop 4 bs))
line_at [] n number h e m k l = absurd (omega arith)
line_at (a ∷ []) n number h e m k l = absurd (omega arith)
line_at (a ∷ b ∷ []) n number h e m k l = absurd (omega arith)
line_at (a ∷ b ∷ c ∷ []) n number h e m k l = absurd (omega arith)
line_at (a ∷ b ∷ c ∷ d ∷ line) n number h e m k l =
    let next : n + 1 ≡ suc (prefix_len is_not_zero line) = omega (arith, k) in
    let lt : prefix_len is_not_zero line < length line = omega (arith, k) in
    record {
      link_low = a;
      link_high = b;
      low = c;
      high = d;
      cut = rw (next, k) (ap (λ v. a ∷ b ∷ c ∷ d ∷ v) (at_mark is_not_zero 0 zero_is line lt));
      linked = e;
      numbered = m;
      no_zero = rw k (before_mark is_not_zero line);
    }
