-- A byte with one bit more.
use Rattle.std.proofs.Common.{◌≡◌, ℕ, suc, zero, ◌+◌, ◌*◌, ◌<◌, ◌≤◌, Bool, true, false, List, [], ◌∷◌, ◌++◌, length, map, min, max, if◌then◌else◌, refl, sym, ap, ◌∙◌, arith}
use Rattle.std.proofs.Math.Dec.{eqb-suc-zero}
use Rattle.std.proofs.Math.Nat.{min-eq_left}
use Rattle.std.proofs.lemmas.List.{length-append, length-map, map-append}
use Rattle.pr_wire.specs.Levels.{byte_of}
use Rattle.pr_decode.specs.declared.reading.Halves.{Halves}
use Rattle.pr_decode.specs.declared.reading.Opening.{Opening}
use Rattle.pr_decode.specs.declared.reading.Transfer.{Transfer}
use Rattle.pr_decode.specs.Readings.{Bit, greatest, halves, high_half, least, level_of, low_half, transfer}
use Rattle.pr_decode.specs.Steps.{weight, widened, with_bit}

-- the least and the greatest of numbers and one more
least-more : (m : ℕ) (ns : List ℕ) (n : ℕ) → least m (ns ++ n ∷ []) ≡ min (least m ns) n
least-more m [] n = refl
least-more m (k ∷ ns) n = least-more (min m k) ns n

greatest-more : (m : ℕ) (ns : List ℕ) (n : ℕ) → greatest m (ns ++ n ∷ []) ≡ max (greatest m ns) n
greatest-more m [] n = refl
greatest-more m (k ∷ ns) n = greatest-more (max m k) ns n

halves-more : (ns : List ℕ) (n : ℕ) → halves (ns ++ n ∷ []) ≡ widened (length ns) (halves ns) n
halves-more [] n = refl
halves-more (m ∷ ns) n =
    ap (λ x. record { shortest = x; longest = greatest m (ns ++ n ∷ []) }) (least-more m ns n)
    ∙ (ap (λ x. record { shortest = min (least m ns) n; longest = x }) (greatest-more m ns n)
    ∙ sym (ap (λ v. if v then record { shortest = n; longest = n } else record { shortest = min (least m ns) n; longest = max (greatest m ns) n })
    (eqb-suc-zero (length ns))))

halves-of-bits : (f : Bit → ℕ) (bs : List Bit) (b : Bit) → halves (map f (bs ++ b ∷ [])) ≡ widened (length bs) (halves (map f bs)) (f b)
halves-of-bits f bs b =
    ap halves (map-append f bs (b ∷ []))
    ∙ (halves-more (map f bs) (f b) ∙ ap (λ n. widened n (halves (map f bs)) (f b)) (length-map bs f))

-- what the next bit counts for
abbrev power : ℕ → ℕ
power zero = 1
power (suc n) = 2 * power n

byte-more : (ls : List Bool) (b : Bool) → byte_of (ls ++ b ∷ []) ≡ byte_of ls + (if b then power (length ls) else 0)
byte-more [] true = refl
byte-more [] false = refl
byte-more (x ∷ ls) true = let k : byte_of (ls ++ true ∷ []) ≡ byte_of ls + power (length ls) = byte-more ls true in omega arith
byte-more (x ∷ ls) false = let k : byte_of (ls ++ false ∷ []) ≡ byte_of ls + 0 = byte-more ls false in omega arith

byte-below : (ls : List Bool) → byte_of ls + 1 ≤ power (length ls)
byte-below [] = omega arith
byte-below (true ∷ ls) = let k : byte_of ls + 1 ≤ power (length ls) = byte-below ls in omega arith
byte-below (false ∷ ls) = let k : byte_of ls + 1 ≤ power (length ls) = byte-below ls in omega arith

record IsWeight (n : ℕ) : Type 0 where
  is : weight n ≡ power n
  small : power n ≤ 128

weighs : (n : ℕ) → n < 8 → IsWeight n
weighs zero h = record { is = refl; small = omega arith }
weighs (suc zero) h = record { is = refl; small = omega arith }
weighs (suc (suc zero)) h = record { is = refl; small = omega arith }
weighs (suc (suc (suc zero))) h = record { is = refl; small = omega arith }
weighs (suc (suc (suc (suc zero)))) h = record { is = refl; small = omega arith }
weighs (suc (suc (suc (suc (suc zero))))) h = record { is = refl; small = omega arith }
weighs (suc (suc (suc (suc (suc (suc zero)))))) h = record { is = refl; small = omega arith }
weighs (suc (suc (suc (suc (suc (suc (suc zero))))))) h = record { is = refl; small = omega arith }
weighs (suc (suc (suc (suc (suc (suc (suc (suc n)))))))) h = absurd (omega arith)

sum-small : (ls : List Bool) (b : Bool) → length ls < 8 → byte_of ls + (if b then weight (length ls) else 0) ≤ 255
sum-small ls true h =
    let w = weighs (length ls) h in
    let i : weight (length ls) ≡ power (length ls) = w.is in
    let s : power (length ls) ≤ 128 = w.small in
    let k : byte_of ls + 1 ≤ power (length ls) = byte-below ls in
    omega arith
sum-small ls false h =
    let w = weighs (length ls) h in
    let s : power (length ls) ≤ 128 = w.small in
    let k : byte_of ls + 1 ≤ power (length ls) = byte-below ls in
    omega arith

byte-weighs : (ls : List Bool) (b : Bool) → length ls < 8 → byte_of (ls ++ b ∷ []) ≡ min (byte_of ls + (if b then weight (length ls) else 0)) 255
byte-weighs ls b h =
    byte-more ls b
    ∙ (ap (λ n. byte_of ls + (if b then n else 0)) (sym (weighs (length ls) h).is)
    ∙ sym (min-eq_left (sum-small ls b h)))

byte-of-bits : (bs : List Bit) (b : Bit) → length bs < 8
    → byte_of (map level_of (bs ++ b ∷ [])) ≡ min (byte_of (map level_of bs) + (if level_of b then weight (length bs) else 0)) 255
byte-of-bits bs b h =
    let k : length (map level_of bs) ≡ length bs = length-map bs level_of in
    let m : length (map level_of bs) < 8 = omega arith in
    ap byte_of (map-append level_of bs (b ∷ []))
    ∙ (byte-weighs (map level_of bs) (level_of b) m
    ∙ ap (λ n. min (byte_of (map level_of bs) + (if level_of b then weight n else 0)) 255) k)

counted : (bs : List Bit) (b : Bit) → length bs < 8 → length (bs ++ b ∷ []) ≡ min (length bs + 1) 255
counted bs b h =
    let k : length bs + 1 ≤ 255 = omega arith in
    length-append bs (b ∷ []) ∙ sym (min-eq_left k)

-- one bit more
pub transfer-more : (o : Opening) (pull : ℕ) (bs : List Bit) (b : Bit) → length bs < 8
    → transfer o pull (bs ++ b ∷ []) b.down.time ≡ with_bit (transfer o pull bs b.low.first.time) b.high.first b.down
transfer-more o pull bs b h =
    let t : ℕ → ℕ → Halves → Halves → Transfer = λ n m x y. record {
      opening = o;
      pull = pull;
      bits = n;
      byte = m;
      low = x;
      high = y;
      last_pull = b.down.time;
    } in
    ap (λ n. t n (byte_of (map level_of (bs ++ b ∷ []))) (halves (map low_half (bs ++ b ∷ []))) (halves (map high_half (bs ++ b ∷ [])))) (counted bs b h)
    ∙ (ap (λ n. t (min (length bs + 1) 255) n (halves (map low_half (bs ++ b ∷ []))) (halves (map high_half (bs ++ b ∷ [])))) (byte-of-bits bs b h)
    ∙ (ap (λ n. t (min (length bs + 1) 255) (min (byte_of (map level_of bs) + (if level_of b then weight (length bs) else 0)) 255) n
    (halves (map high_half (bs ++ b ∷ [])))) (halves-of-bits low_half bs b)
    ∙ ap (λ n. t (min (length bs + 1) 255) (min (byte_of (map level_of bs) + (if level_of b then weight (length bs) else 0)) 255)
    (widened (length bs) (halves (map low_half bs)) (low_half b)) n) (halves-of-bits high_half bs b)))
