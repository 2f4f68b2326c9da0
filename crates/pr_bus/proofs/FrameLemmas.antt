-- The edges of bits and frames, as the talker adds them.
use Rattle.std.proofs.Common.{◌≡◌, ℕ, zero, suc, ◌+◌, ◌/◌, ◌%◌, Bool, true, false, eqb, List, [], ◌∷◌, ◌++◌, map, drop, Some, None, refl, sym, ap, ◌∙◌, arith, append_assoc, Result, Ok, Err, OnOk, IfOk}
use Rattle.std.specs.List.{slice_get}
use Rattle.pr_wire.specs.declared.Edge.{Edge}
use Rattle.pr_wire.specs.declared.delay.Kind.{Kind}
use Rattle.pr_wire.specs.declared.delay.Kind.TheVariants.{Ne, Ry, S, V}
use Rattle.pr_wire.specs.Levels.{edge_at}
use Rattle.pr_wire.specs.Delays.{delay_at, delay_of, bounds_of}
use Rattle.pr_wire.specs.Pieces.{bit_edges, last_pull, frame_edges}
use Rattle.pr_bus.specs.Timed.{ListenerTiming, bit_times, bits_of, frame_times, greatest, least}

-- a number of those that are left
get-drop : (i : ℕ) (xs : List ℕ) (j : ℕ) → slice_get (drop i xs) j ≡ slice_get xs (i + j)
get-drop zero xs j = ap (slice_get xs) (omega arith)
get-drop (suc i) [] j = refl
get-drop (suc i) (x ∷ xs) j = get-drop i xs j ∙ ap (λ n. slice_get (x ∷ xs) n) (let e : suc (i + j) ≡ suc i + j = omega arith in e)

-- a delay of what is left
pub delay-drop : (k : Kind) (i : ℕ) (xs : List ℕ) (j : ℕ) → delay_at k (drop i xs) j ≡ delay_at k xs (i + j)
delay-drop k i xs j = ap (λ o. elim o [ None ↦ (bounds_of k).1 | Some r ↦ delay_of k r ]) (get-drop i xs j)

-- of no numbers none are left
drop-none : (j : ℕ) → drop {A = ℕ} j [] ≡ []
drop-none zero = refl
drop-none (suc j) = refl

-- numbers that are left of those that were left
pub drop-twice : (i j : ℕ) (xs : List ℕ) → drop j (drop i xs) ≡ drop (i + j) xs
drop-twice zero j xs = ap (λ n. drop n xs) (let e : j ≡ zero + j = omega arith in e)
drop-twice (suc i) j [] = drop-none j ∙ sym (drop-none (suc i + j))
drop-twice (suc i) j (x ∷ xs) = drop-twice i j xs ∙ ap (λ n. drop n (x ∷ xs)) (let e : suc (i + j) ≡ suc i + j = omega arith in e)

-- a clause on Ok, from another one
pub ok_map : {A E : Type 0} {P Q : Type 0} → (r : Result A E) → (P → Q) → OnOk r P → OnOk r Q
ok_map (Ok x) f p = f p
ok_map (Err e) f p = tt

-- a clause on the value of Ok, from another one
pub if_ok_map : {A E : Type 0} {P Q : A → Type 0} → (r : Result A E) → ((x : A) → P x → Q x) → IfOk r P → IfOk r Q
if_ok_map (Ok x) f p = f x p
if_ok_map (Err e) f p = tt

-- two edges added one by one
two-more : (old rest : List Edge) (a b : Edge) → ((old ++ a ∷ []) ++ b ∷ []) ++ rest ≡ old ++ a ∷ b ∷ rest
two-more old rest a b = simp append_assoc

-- one bit, and the others
bits-more : (pull : ℕ) (numbers : List ℕ) (count m b : ℕ) → count ≡ suc m
    → bit_times pull numbers (bits_of count b)
    ≡ record { level = eqb (b % 2) 1; up = pull + delay_at S numbers 0; down = pull + delay_at S numbers 0 + delay_at V numbers 1 } ∷ bit_times (pull + delay_at S numbers 0 + delay_at V numbers 1) (drop 2 numbers) (bits_of m (b / 2))
bits-more pull numbers count m b e = ap (λ n. bit_times pull numbers (bits_of n b)) e

-- the edges of bits, with those of the first one added before
pub bits-edges : (x : Bool) (pull s v : ℕ) (numbers rest : List ℕ) (count m b : ℕ) (old one two new : List Edge)
    → count ≡ suc m → s ≡ delay_at S numbers 0 → v ≡ delay_at V numbers 1 → rest ≡ drop 2 numbers
    → one ≡ old ++ edge_at pull x false (eqb (b % 2) 1) ∷ [] → two ≡ one ++ edge_at (pull + s) x true (eqb (b % 2) 1) ∷ []
    → new ≡ two ++ bit_edges x (pull + s + v) (bit_times (pull + s + v) rest (bits_of m (b / 2)))
    → new ≡ old ++ bit_edges x pull (bit_times pull numbers (bits_of count b))
bits-edges x pull s v numbers rest count m b old one two new e es ev er h1 h2 h3 =
    rw (h3, h2, h1, es, ev, er)
    (two-more old _ _ _ ∙ ap (λ l. old ++ bit_edges x pull l) (sym (bits-more pull numbers count m b e)))

-- the last pull of bits, from that of the bits after the first one
pub bits-last : (pull s v : ℕ) (numbers rest : List ℕ) (count m b : ℕ) (last : ℕ)
    → count ≡ suc m → s ≡ delay_at S numbers 0 → v ≡ delay_at V numbers 1 → rest ≡ drop 2 numbers
    → last ≡ last_pull (pull + s + v) (bit_times (pull + s + v) rest (bits_of m (b / 2)))
    → last ≡ last_pull pull (bit_times pull numbers (bits_of count b))
bits-last pull s v numbers rest count m b last e es ev er h =
    rw (h, es, ev, er) (ap (last_pull pull) (sym (bits-more pull numbers count m b e)))

-- a frame's edges, grouped as the talker adds them
last-of : (old bits : List Edge) (a b : Edge) → ((old ++ a ∷ []) ++ bits) ++ b ∷ [] ≡ old ++ a ∷ (bits ++ b ∷ [])
last-of old bits a b = simp append_assoc

-- the same with end-or-identify
last-of-eoi : (old bits : List Edge) (a b c d : Edge) → ((((old ++ a ∷ []) ++ b ∷ []) ++ c ∷ []) ++ bits) ++ d ∷ [] ≡ old ++ a ∷ b ∷ c ∷ (bits ++ d ∷ [])
last-of-eoi old bits a b c d = simp append_assoc

-- the edges of a frame
pub frame-plain : (x : Bool) (eoi : Bool) (look byte : ℕ) (numbers rest : List ℕ) (hs : List ListenerTiming) (hold ne accept pull last : ℕ) (old mid bits new : List Edge)
    → eoi ≡ false
    → hold ≡ greatest (map (λ (h : ListenerTiming). h.hold) hs) → accept ≡ least (map (λ (h : ListenerTiming). h.accept) hs)
    → ne ≡ delay_at Ne numbers 0 → rest ≡ drop 1 numbers → pull ≡ look + hold + ne
    → mid ≡ old ++ edge_at (look + hold) x true true ∷ []
    → bits ≡ mid ++ bit_edges x pull (bit_times pull rest (bits_of 8 byte))
    → last ≡ last_pull pull (bit_times pull rest (bits_of 8 byte))
    → new ≡ bits ++ edge_at (last + accept) x false false ∷ []
    → new ≡ old ++ frame_edges x (frame_times look eoi byte numbers hs)
frame-plain x eoi look byte numbers rest hs hold ne accept pull last old mid bits new e1 h k en er ep hm hb hl hn =
    rw (e1, hn, hb, hm, hl, ep, en, er, h, k) (last-of old _ _ _)

-- a frame with end-or-identify, as the talker makes it
pub frame-eoi : (x : Bool) (eoi : Bool) (look byte : ℕ) (numbers rest : List ℕ) (hs : List ListenerTiming) (hold wait end ry accept pull last : ℕ) (old one two three bits new : List Edge)
    → x ≡ true → eoi ≡ true
    → hold ≡ greatest (map (λ (h : ListenerTiming). h.hold) hs) → accept ≡ least (map (λ (h : ListenerTiming). h.accept) hs)
    → wait ≡ least (map (λ (h : ListenerTiming). h.wait) hs) → end ≡ greatest (map (λ (h : ListenerTiming). h.wait + h.answer) hs)
    → ry ≡ delay_at Ry numbers 0 → rest ≡ drop 1 numbers → pull ≡ look + hold + end + ry
    → one ≡ old ++ edge_at (look + hold) x true true ∷ [] → two ≡ one ++ edge_at (look + hold + wait) x true false ∷ [] → three ≡ two ++ edge_at (look + hold + end) x true true ∷ []
    → bits ≡ three ++ bit_edges x pull (bit_times pull rest (bits_of 8 byte))
    → last ≡ last_pull pull (bit_times pull rest (bits_of 8 byte))
    → new ≡ bits ++ edge_at (last + accept) x false false ∷ []
    → new ≡ old ++ frame_edges x (frame_times look eoi byte numbers hs)
frame-eoi x eoi look byte numbers rest hs hold wait end ry accept pull last old one two three bits new ex e1 h k w n en er ep h1 h2 h3 hb hl hn =
    rw (e1, hn, hb, h3, h2, h1, hl, ep, en, er, h, k, w, n, ex) (last-of-eoi old _ _ _ _ _)
