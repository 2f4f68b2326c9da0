-- Lines whose times share all digits but the last three.
use Rattle.std.proofs.Common.{◌≡◌, ℕ, zero, suc, ◌+◌, ◌-◌, ◌*◌, ◌/◌, ◌<◌, ◌≤◌, ◌^◌, List, [], ◌∷◌, length, get_or, take, drop, length-take, refl, ap, sym, ◌∙◌, arith, Bool, true, ◌&&◌, Option, Some, None, inl, inr, eq-zero-or-pos}
use Rattle.std.specs.List.{prefix_len}
use Rattle.std.proofs.lemmas.Nat.{le_bytes_4}
use Rattle.std.proofs.lemmas.List.{ext_get_or, get_or-take, get_or-drop}
use Rattle.std.proofs.lemmas.List.Sums.{prefix_len_is, prefix_len_passes, prefix_len-le-length}
use Rattle.std.specs.Prelude.{IfSome}
use Rattle.pr_wire.specs.declared.line.EdgeLine.{EdgeLine}
use Rattle.pr_base.specs.Digits.{is_digit, number_after}
use Rattle.pr_wire.specs.TextSteps.{ended_in, ended_line_in, time_in}
use Rattle.pr_wire.specs.Fronts.{word_at, IsFront}
use Rattle.pr_wire.proofs.LineLaws.{ended_parts, time_parts, time_read, front-number, digit-value}
use Rattle.pr_wire.proofs.Walk.{both-true}

-- four bytes
abbrev four : List ℕ → ℕ → List ℕ
four s i = get_or s i 0 ∷ get_or s (i + 1) 0 ∷ get_or s (i + 2) 0 ∷ get_or s (i + 3) 0 ∷ []

four-small : (s : List ℕ) (i : ℕ) → ((k : ℕ) → get_or s k 0 < 256) → (k : ℕ) → get_or (four s i) k 0 < 256
four-small s i h zero = h i
four-small s i h (suc zero) = h (i + 1)
four-small s i h (suc (suc zero)) = h (i + 2)
four-small s i h (suc (suc (suc zero))) = h (i + 3)
four-small s i h (suc (suc (suc (suc k)))) = omega arith

-- are those of their word
word-four : (s t : List ℕ) (i : ℕ) → ((k : ℕ) → get_or s k 0 < 256) → ((k : ℕ) → get_or t k 0 < 256) → word_at s i ≡ word_at t i → four s i ≡ four t i
word-four s t i p q h =
    sym (le_bytes_4 (four s i) (word_at s i) refl (four-small s i p) refl) ∙ le_bytes_4 (four t i) (word_at s i) refl (four-small t i q) h

-- byte by byte
same-at : (s t : List ℕ) (i b j : ℕ) → i ≡ b + j → four s b ≡ four t b → j < 4 → get_or s i 0 ≡ get_or t i 0
same-at s t i b zero e f h = let k : i ≡ b = omega (arith, e) in rw k (ap (λ l. get_or l 0 0) f)
same-at s t i b (suc zero) e f h = let k : i ≡ b + 1 = omega (arith, e) in rw k (ap (λ l. get_or l 1 0) f)
same-at s t i b (suc (suc zero)) e f h = let k : i ≡ b + 2 = omega (arith, e) in rw k (ap (λ l. get_or l 2 0) f)
same-at s t i b (suc (suc (suc zero))) e f h = let k : i ≡ b + 3 = omega (arith, e) in rw k (ap (λ l. get_or l 3 0) f)
same-at s t i b (suc (suc (suc (suc j)))) e f h = absurd (omega arith)

-- two words of a front determine its bytes
front-at : (s t : List ℕ) (n i : ℕ) → 4 ≤ n → n ≤ 8 → i < n → four s 0 ≡ four t 0 → four s (n - 4) ≡ four t (n - 4) → get_or s i 0 ≡ get_or t i 0
front-at s t n i least most w f g =
    elim (eq-zero-or-pos (4 - i)) [
      | inl z ↦ same-at s t i (n - 4) (i - (n - 4)) (omega arith) g (omega arith)
      | inr z ↦ same-at s t i 0 i (omega arith) f (omega arith)
    ]

front-same : (s t : List ℕ) (n : ℕ) → 4 ≤ n → n ≤ 8 → n ≤ length s → n ≤ length t → four s 0 ≡ four t 0 → four s (n - 4) ≡ four t (n - 4) → take n s ≡ take n t
front-same s t n least most p q f g =
    ext_get_or 0 (take n s) (take n t) (omega (arith, length-take n s, length-take n t))
    (λ i h. let w : i < n = omega (arith, h, length-take n s) in get_or-take n s i 0 w ∙ (front-at s t n i least most w f g ∙ sym (get_or-take n t i 0 w)))

-- three digits more
three-number : (ds : List ℕ) (n h : ℕ) → n + 2 < length ds → number_after 0 (take n ds) ≡ h
    → number_after 0 (take (n + 3) ds) ≡ 1000 * h + (100 * (get_or ds n 0 - 48) + 10 * (get_or ds (n + 1) 0 - 48) + (get_or ds (n + 2) 0 - 48))
three-number ds n h w e =
    let two : n + 1 + 1 ≡ n + 2 = omega arith in
    let three : n + 1 + 1 + 1 ≡ n + 3 = omega arith in
    let c = front-number ds (n + 1 + 1) _ _ (omega arith) (front-number ds (n + 1) _ _ (omega arith) (front-number ds n h _ (omega arith) e refl) refl) refl in
    ap (λ k. number_after 0 (take k ds)) (sym three) ∙ (c ∙ (ap (λ k. 10 * (10 * (10 * h + (get_or ds n 0 - 48)) + (get_or ds (n + 1) 0 - 48)) + (get_or ds k 0 - 48)) two ∙ omega arith))

three-digits : (ds : List ℕ) (n : ℕ) → ((k : ℕ) → k < n → is_digit (get_or ds k 0) ≡ true) → is_digit (get_or ds n 0) ≡ true → is_digit (get_or ds (n + 1) 0) ≡ true → is_digit (get_or ds (n + 2) 0) ≡ true
    → (k : ℕ) → k < n + 3 → is_digit (get_or ds k 0) ≡ true
three-digits ds n h a b c k w =
    elim (eq-zero-or-pos (n - k)) [
      | inl z ↦ by (k - n) (omega arith) (omega arith)
      | inr z ↦ h k (omega arith)
    ]
  where
    by : (j : ℕ) → k ≡ n + j → j < 3 → is_digit (get_or ds k 0) ≡ true
    by zero e v = let m : k ≡ n = omega (arith, e) in rw m a
    by (suc zero) e v = let m : k ≡ n + 1 = omega (arith, e) in rw m b
    by (suc (suc zero)) e v = let m : k ≡ n + 2 = omega (arith, e) in rw m c
    by (suc (suc (suc j))) e v = absurd (omega arith)

-- the front of a line that was read
pub front-of : (text : List ℕ) (l : EdgeLine) (n : ℕ) → ended_line_in text ≡ Some l → l.len ≡ n + 8 → 4 ≤ n → n ≤ 8 → n ≤ length text → ((k : ℕ) → get_or text k 0 < 256)
    → IsFront n (word_at text 0) (word_at text (n - 4)) (1000 * (l.edge.time / 1000))
unfolding ended_line_in
front-of text l n h e p q w b =
    let k = prefix_len is_digit text in
    let t = ended_parts (time_in (take k text)) k (drop k text) l h in
    let c : k ≡ n + 3 = omega (arith, t.len_is, e) in
    let time = time_parts (take k text) l.edge.time t.time_is in
    let whole : number_after 0 (take (n + 3) text) ≡ l.edge.time = ap (λ m. number_after 0 (take m text)) (sym c) ∙ time.1 in
    let digit : (i : ℕ) → i < prefix_len is_digit text → is_digit (get_or text i 0) ≡ true = λ i w. prefix_len_passes is_digit text i 0 w in
    let long : n + 3 ≤ length text = omega (arith, prefix_len-le-length is_digit text, c) in
    let v : number_after 0 (take n text) ≡ l.edge.time / 1000
    = omega (arith, whole, three-number text n (number_after 0 (take n text)) (omega arith) refl, digit-value (get_or text n 0) (digit n (omega (arith, c))), digit-value (get_or text (n + 1) 0) (digit (n + 1) (omega (arith, c))), digit-value (get_or text (n + 2) 0) (digit (n + 2) (omega (arith, c)))) in
    record {
      least = p;
      greatest = q;
      spells = λ s a m f g.
          let x = word-four s text 0 a b f in
          let y = word-four s text (n - 4) a b g in
          record {
            digits = λ i w. ap is_digit (front-at s text n i p q w x y) ∙ digit i (omega (arith, c, w));
            number = let same : take n s ≡ take n text = front-same s text n p q m w x y in rw (same, v) refl;
          };
    }

-- a line that begins with a front
pub front-read : (text : List ℕ) (n first last time m : ℕ) (l : EdgeLine) → IsFront n first last time → ((k : ℕ) → get_or text k 0 < 256) → 16 ≤ length text → word_at text 0 ≡ first → word_at text (n - 4) ≡ last
    → is_digit (get_or text n 0) ≡ true → is_digit (get_or text (n + 1) 0) ≡ true → is_digit (get_or text (n + 2) 0) ≡ true
    → m ≡ time + (100 * (get_or text n 0 - 48) + 10 * (get_or text (n + 1) 0 - 48) + (get_or text (n + 2) 0 - 48)) → m < 2 ^ 64
    → ended_in (Some m) (n + 3) (drop (n + 3) text) ≡ Some l → ended_line_in text ≡ Some l
unfolding ended_line_in
front-read text n first last time m l f b w p q x y z e small h =
    let s = f.spells text b (omega (arith, f.greatest, w)) p q in
    let t = ended_parts (Some m) (n + 3) (drop (n + 3) text) l h in
    let space : get_or text (n + 3) 0 ≡ 32 = let e : n + 3 + 0 ≡ n + 3 = omega arith in ap (λ k. get_or text k 0) (sym e) ∙ (sym (get_or-drop (n + 3) text 0 0) ∙ ap (λ l. get_or l 0 0) t.rest_is) in
    let count : prefix_len is_digit text ≡ n + 3 = prefix_len_is is_digit text (n + 3) 0 (omega (arith, f.greatest, w)) (three-digits text n s.digits x y z) (λ _. ap is_digit space) in
    let number : number_after 0 (take (n + 3) text) ≡ m = omega (arith, e, s.number, three-number text n (number_after 0 (take n text)) (omega (arith, f.greatest, w)) refl) in
    let read : time_in (take (n + 3) text) ≡ Some m = time_read (take (n + 3) text) m (omega (arith, length-take (n + 3) text, f.greatest, w)) number small in
    rw (count, read) h

pub front-line : (text : List ℕ) (n first last time m : ℕ) (x y z : Bool) (r : Option EdgeLine) → IsFront n first last time → ((k : ℕ) → get_or text k 0 < 256) → 16 ≤ length text → word_at text 0 ≡ first → word_at text (n - 4) ≡ last
    → x ≡ is_digit (get_or text n 0) → y ≡ is_digit (get_or text (n + 1) 0) → z ≡ is_digit (get_or text (n + 2) 0) → ((x && y) && z) ≡ true
    → m ≡ time + (100 * (get_or text n 0 - 48) + 10 * (get_or text (n + 1) 0 - 48) + (get_or text (n + 2) 0 - 48)) → m < 2 ^ 64
    → r ≡ ended_in (Some m) (n + 3) (drop (n + 3) text) → IfSome r (λ l. ended_line_in text ≡ Some l)
front-line text n first last time m x y z None f b w p q i j k d e small h = tt
front-line text n first last time m x y z (Some l) f b w p q i j k d e small h =
    let c = both-true (x && y) z d in
    let a = both-true x y c.0 in
    front-read text n first last time m l f b w p q (sym i ∙ a.0) (sym j ∙ a.1) (sym k ∙ c.1) e small (sym h)
