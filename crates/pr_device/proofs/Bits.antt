-- The bits of a byte, and the bytes between two changes of ATN.
use Rattle.std.proofs.Common.{◌≡◌, ℕ, ◌+◌, ◌*◌, ◌<◌, ◌==◌, nat_lt, Bool, true, false, not, ◌&&◌, List, [], ◌∷◌, ◌++◌}
use Rattle.std.proofs.Common.{length, map, Option, Some, None, if◌then◌else◌, refl, sym, ap, subst, ◌∙◌, append_assoc}
use Rattle.std.proofs.Common.{append-nil, arith, lt-ltb, ne_eqb}
use Rattle.std.proofs.lemmas.List.{length-map}
use Rattle.pr_wire.specs.declared.Edge.{Edge}
use Rattle.pr_wire.specs.declared.Frame.{Frame}
use Rattle.pr_wire.specs.Levels.{byte_of}
use Rattle.pr_device.specs.declared.place.Place.{Place}
use Rattle.pr_device.specs.declared.place.Place.TheVariants.{Between, Sent, Opening, Bits}
use Rattle.pr_device.specs.Following.{leads, ends, begun, shifted}
use Rattle.pr_device.specs.Talkers.{Stay, BitMoves, ByteMoves, AreBits, IsByte, AreBytes, all_bits, byte_moments}
use Rattle.pr_device.specs.Talkers.{all_bytes, is_answered_in, is_released_in, frame_sent}
use Rattle.pr_device.proofs.Walking.{onto, onto-append, Stands, IsBetween, freed_in, begins-bits, chosen, refused}
use Rattle.pr_device.proofs.Walking.{framed, goes-to, goes-quietly, walk-calm, walk-open}

-- the level of a bit
abbrev pub level_of : BitMoves → Bool
level_of b = b.up.levels.line

-- a byte with more bits
abbrev pub shifted_all : ℕ → List Bool → ℕ
shifted_all v [] = v
shifted_all v (b ∷ bs) = shifted_all (shifted v b) bs

-- a bit as a number
abbrev number : Bool → ℕ
number b = if b then 1 else 0

is-bit : (b : Bool) → number b < 2
is-bit true = omega arith
is-bit false = omega arith

-- what a bit adds at the top
top-of : (b : Bool) → (if b then 128 else 0) ≡ 128 * number b
top-of true = refl
top-of false = refl

one-in : (v : ℕ) (b : Bool) (w : ℕ) → v ≡ 2 * w → shifted v b ≡ w + 128 * number b
one-in v b w h = let t : (if b then 128 else 0) ≡ 128 * number b = top-of b in omega arith

-- eight bits make the byte that they are, the lowest first
eight-bits : (a b c d e f g h : Bool) → shifted_all 0 (a ∷ b ∷ c ∷ d ∷ e ∷ f ∷ g ∷ h ∷ [])
    ≡ byte_of (a ∷ b ∷ c ∷ d ∷ e ∷ f ∷ g ∷ h ∷ [])
eight-bits a b c d e f g h =
    let k1 = one-in 0 a 0 (omega arith) in
    let k2 = one-in (shifted 0 a) b (64 * number a) (omega arith) in
    let k3 = one-in (shifted (shifted 0 a) b) c (32 * number a + 64 * number b) (omega arith) in
    let k4 = one-in (shifted (shifted (shifted 0 a) b) c) d (16 * number a + 32 * number b + 64 * number c)
    (omega arith) in
    let k5 = one-in (shifted (shifted (shifted (shifted 0 a) b) c) d) e
    (8 * number a + 16 * number b + 32 * number c + 64 * number d) (omega arith) in
    let k6 = one-in (shifted (shifted (shifted (shifted (shifted 0 a) b) c) d) e) f
    (4 * number a + 8 * number b + 16 * number c + 32 * number d + 64 * number e) (omega arith) in
    let k7 = one-in (shifted (shifted (shifted (shifted (shifted (shifted 0 a) b) c) d) e) f) g
    (2 * number a + 4 * number b + 8 * number c + 16 * number d + 32 * number e + 64 * number f) (omega arith) in
    let k8 = one-in (shifted (shifted (shifted (shifted (shifted (shifted (shifted 0 a) b) c) d) e) f) g) h
    (number a + 2 * number b + 4 * number c + 8 * number d + 16 * number e + 32 * number f + 64 * number g)
    (omega arith) in
    omega arith

pub eight-in : (bs : List Bool) → length bs ≡ 8 → shifted_all 0 bs ≡ byte_of bs
eight-in (a ∷ b ∷ c ∷ d ∷ e ∷ f ∷ g ∷ h ∷ []) n = eight-bits a b c d e f g h
eight-in [] n = absurd (omega arith)
eight-in (a ∷ []) n = absurd (omega arith)
eight-in (a ∷ b ∷ []) n = absurd (omega arith)
eight-in (a ∷ b ∷ c ∷ []) n = absurd (omega arith)
eight-in (a ∷ b ∷ c ∷ d ∷ []) n = absurd (omega arith)
eight-in (a ∷ b ∷ c ∷ d ∷ e ∷ []) n = absurd (omega arith)
eight-in (a ∷ b ∷ c ∷ d ∷ e ∷ f ∷ []) n = absurd (omega arith)
eight-in (a ∷ b ∷ c ∷ d ∷ e ∷ f ∷ g ∷ []) n = absurd (omega arith)
eight-in (a ∷ b ∷ c ∷ d ∷ e ∷ f ∷ g ∷ h ∷ i ∷ bs) n = absurd (omega arith)

-- a bit's moments, up to CLOCK's pull
bit-up : (wait : ℕ) (h : List Edge) (x eoi : Bool) (n v : ℕ) (fs : List Frame) (b : BitMoves) → n < 8
    → Stands wait h x false (Bits eoi n v) fs → Stay x true (b.up ∷ b.high)
    → Stands wait (onto (b.up ∷ b.high) h) x true (Bits eoi (n + 1) (shifted v (level_of b))) fs
bit-up wait h x eoi n v fs b m s (a, k, w) =
    let next : Place = Bits eoi (n + 1) (shifted v (level_of b)) in
    walk-calm wait (b.up ∷ h) x true next fs b.high tt
    (goes-quietly wait h x false true (Bits eoi n v) next fs b.up s a k
    (ap (λ l. if l && nat_lt n 8 then next else Bits eoi n v) k
    ∙ chosen (nat_lt n 8) next (Bits eoi n v) (lt-ltb n 8 m)) refl) w

-- the pull at its end, where the byte goes on
bit-down : (wait : ℕ) (h : List Edge) (x eoi : Bool) (n v : ℕ) (fs : List Frame) (b : BitMoves) → n < 8
    → Stands wait h x true (Bits eoi n v) fs → Stay x false (b.down ∷ b.low)
    → Stands wait (onto (b.down ∷ b.low) h) x false (Bits eoi n v) fs
bit-down wait h x eoi n v fs b m s (a, k, w) =
    let ne : (n == 8) ≡ false = ne_eqb n 8 (omega arith) in
    walk-calm wait (b.down ∷ h) x false (Bits eoi n v) fs b.low tt
    (goes-quietly wait h x true false (Bits eoi n v) (Bits eoi n v) fs b.down s a k
    (ap (λ l. if not l && n == 8 then Sent b.down.time else Bits eoi n v) k
    ∙ refused (n == 8) (Sent b.down.time) (Bits eoi n v) ne)
    (ap (λ l. if not l && n == 8 then Some (framed (not b.down.levels.atn) v eoi) else None) k
    ∙ refused (n == 8) (Some (framed (not b.down.levels.atn) v eoi)) None ne)) w

-- after a byte
pub record Comes (wait : ℕ) (h : List Edge) (x : Bool) (fs : List Frame) : Type 0 where
  pub pull : ℕ
  pub stands : Stands wait h x false (Sent pull) fs

-- the pull at its end, where it is the last one
bit-last : (wait : ℕ) (h : List Edge) (x eoi : Bool) (v : ℕ) (fs : List Frame) (b : BitMoves)
    → Stands wait h x true (Bits eoi 8 v) fs → Stay x false (b.down ∷ b.low)
    → Comes wait (onto (b.down ∷ b.low) h) x (fs ++ framed (not x) (v) eoi ∷ [])
bit-last wait h x eoi v fs b s (a, k, w) =
    let f : Frame = framed (not x) (v) eoi in
    record {
      pull = b.down.time;
      stands =
          walk-calm wait (b.down ∷ h) x false (Sent b.down.time) (fs ++ f ∷ []) b.low tt
          (goes-to wait h x true false (Bits eoi 8 v) (Sent b.down.time) fs (Some f) b.down s a k
          (ap (λ l. if not l && true then Sent b.down.time else Bits eoi 8 v) k)
          (ap (λ l. if not l && true then Some (framed (not b.down.levels.atn) v eoi) else None) k
          ∙ ap (λ y. Some (framed (not y) v eoi)) a)) w;
    }

-- the bits that a byte lacks
walk-bits : (wait : ℕ) (h : List Edge) (x eoi : Bool) (n v : ℕ) (fs : List Frame) (bs : List BitMoves)
    → length bs + n ≡ 8 → n < 8 → Stands wait h x false (Bits eoi n v) fs → AreBits x bs
    → Comes wait (onto (all_bits bs) h) x (fs ++ framed (not x) (shifted_all v (map level_of bs)) eoi ∷ [])
walk-bits wait h x eoi n v fs [] m l s w = absurd (omega arith)
walk-bits wait h x eoi n v fs (b ∷ []) m l s ((u, d), w) =
    let e : n + 1 ≡ 8 = omega arith in
    let t : Stands wait (onto (b.up ∷ b.high) h) x true (Bits eoi 8 (shifted v (level_of b))) fs =
    subst (λ k. Stands wait (onto (b.up ∷ b.high) h) x true (Bits eoi k (shifted v (level_of b))) fs) e
    (bit-up wait h x eoi n v fs b l s u) in
    subst (λ g. Comes wait g x (fs ++ framed (not x) (shifted v (level_of b)) eoi ∷ []))
    (sym (ap (λ z. onto z h) (append-nil ((b.up ∷ b.high) ++ (b.down ∷ b.low)))
    ∙ onto-append (b.up ∷ b.high) (b.down ∷ b.low) h))
    (bit-last wait (onto (b.up ∷ b.high) h) x eoi (shifted v (level_of b)) fs b t d)
walk-bits wait h x eoi n v fs (b ∷ (c ∷ bs)) m l s ((u, d), w) =
    let up = bit-up wait h x eoi n v fs b l s u in
    let down = bit-down wait (onto (b.up ∷ b.high) h) x eoi (n + 1) (shifted v (level_of b)) fs b (omega arith) up d in
    subst (λ g. Comes wait g x (fs ++ framed (not x) (shifted_all (shifted v (level_of b)) (map level_of (c ∷ bs))) eoi
    ∷ []))
    (sym (onto-append ((b.up ∷ b.high) ++ (b.down ∷ b.low)) (all_bits (c ∷ bs)) h
    ∙ ap (λ g. onto (all_bits (c ∷ bs)) g) (onto-append (b.up ∷ b.high) (b.down ∷ b.low) h)))
    (walk-bits wait (onto (b.down ∷ b.low) (onto (b.up ∷ b.high) h)) x eoi (n + 1) (shifted v (level_of b)) fs (c ∷ bs)
    (omega arith) (omega arith) down w)

-- CLOCK's release before a byte
look-leads : (wait : ℕ) (p : Place) (e : Edge) → IsBetween p → e.levels.clock ≡ true
    → leads wait p false e ≡ Opening e.time None false
look-leads wait Between e i k = chosen e.levels.clock (Opening e.time None false) Between k
look-leads wait (Sent z) e i k = chosen e.levels.clock (Opening e.time None false) (Sent z) k
look-leads wait (Opening l f eoi) e i k = absurd i
look-leads wait (Bits eoi n v) e i k = absurd i

look-ends : (p : Place) (e : Edge) → IsBetween p → ends p false e ≡ None
look-ends Between e i = refl
look-ends (Sent z) e i = refl
look-ends (Opening l f eoi) e i = absurd i
look-ends (Bits eoi n v) e i = absurd i

-- and what DATA does then
pub walk-look : (wait : ℕ) (h : List Edge) (x : Bool) (p : Place) (fs : List Frame) (look : Edge) (opening : List Edge)
    → IsBetween p → Stands wait h x false p fs → Stay x true (look ∷ opening)
    → Stands wait (onto (look ∷ opening) h) x true
    (Opening look.time (freed_in None opening) (x && is_answered_in wait opening)) fs
walk-look wait h x p fs look opening i s (a, k, w) =
    walk-open wait (look ∷ h) x look.time None false fs opening
    (goes-quietly wait h x false true p (Opening look.time None false) fs look s a k (look-leads wait p look i k)
    (look-ends p look i)) w

-- CLOCK's pull for the first bit
walk-pull : (wait : ℕ) (h : List Edge) (x : Bool) (look : ℕ) (opening : List Edge) (eoi : Bool) (fs : List Frame)
    (pull : Edge) (low : List Edge)
    → is_released_in opening ≡ true → Stands wait h x true (Opening look (freed_in None opening) eoi) fs
    → Stay x false (pull ∷ low) → Stands wait (onto (pull ∷ low) h) x false (Bits eoi 0 0) fs
walk-pull wait h x look opening eoi fs pull low r o (a, k, w) =
    let free : Option ℕ = freed_in None opening in
    walk-calm wait (pull ∷ h) x false (Bits eoi 0 0) fs low tt
    (goes-quietly wait h x true false (Opening look free eoi) (Bits eoi 0 0) fs pull o a k
    (refused pull.levels.clock _ (begun free eoi) k ∙ begins-bits opening eoi r) refl) w

-- a byte
pub walk-byte : (wait : ℕ) (h : List Edge) (x : Bool) (p : Place) (fs : List Frame) (m : ByteMoves) → IsBetween p
    → Stands wait h x false p fs → IsByte x m → Comes wait (onto (byte_moments m) h) x (fs ++ frame_sent wait x m ∷ [])
walk-byte wait h x p fs m i s b =
    let eoi : Bool = x && is_answered_in wait m.opening in
    let o = walk-look wait h x p fs m.look m.opening i s b.opened in
    let q = walk-pull wait (onto (m.look ∷ m.opening) h) x m.look.time m.opening eoi fs m.pull m.low b.released o
    b.pulled in
    let c = walk-bits wait (onto (m.pull ∷ m.low) (onto (m.look ∷ m.opening) h)) x eoi 0 0 fs m.bits
    (ap (λ n. n + 0) b.eight) (omega arith) q b.bits in
    let n : length (map level_of m.bits) ≡ 8 = length-map m.bits level_of ∙ b.eight in
    subst (λ g. Comes wait g x (fs ++ frame_sent wait x m ∷ []))
    (sym (onto-append (m.look ∷ m.opening) ((m.pull ∷ m.low) ++ all_bits m.bits) h
    ∙ onto-append (m.pull ∷ m.low) (all_bits m.bits) (onto (m.look ∷ m.opening) h)))
    (subst (λ v. Comes wait (onto (all_bits m.bits) (onto (m.pull ∷ m.low) (onto (m.look ∷ m.opening) h))) x
    (fs ++ framed (not x) (v) eoi ∷ []))
    (eight-in (map level_of m.bits) n) c)

-- a place between two bytes
pub record Rests (wait : ℕ) (h : List Edge) (x : Bool) (fs : List Frame) : Type 0 where
  pub place : Place
  pub between : IsBetween place
  pub stands : Stands wait h x false place fs

-- bytes
pub walk-bytes : (wait : ℕ) (h : List Edge) (x : Bool) (fs : List Frame) (ms : List ByteMoves) → Rests wait h x fs
    → AreBytes x ms → Rests wait (onto (all_bytes ms) h) x (fs ++ map (frame_sent wait x) ms)
walk-bytes wait h x fs [] r w = subst (λ l. Rests wait h x l) (sym (append-nil fs)) r
walk-bytes wait h x fs (m ∷ ms) r (b, w) =
    let c = walk-byte wait h x r.place fs m r.between r.stands b in
    subst (λ g. Rests wait g x (fs ++ (frame_sent wait x m ∷ map (frame_sent wait x) ms)))
    (sym (onto-append (byte_moments m) (all_bytes ms) h))
    (subst (λ l. Rests wait (onto (all_bytes ms) (onto (byte_moments m) h)) x l)
    (append_assoc fs (frame_sent wait x m ∷ []) (map (frame_sent wait x) ms))
    (walk-bytes wait (onto (byte_moments m) h) x (fs ++ frame_sent wait x m ∷ []) ms
    (record { place = Sent c.pull; between = tt; stands = c.stands }) w))
