-- Steps of a reader's and a writer's known bytes.
use Rattle.std.proofs.Common.{◌≡◌, ◌<◌, ◌+◌, ◌-◌, ℕ, List, ◌++◌, length, take, drop, ap, subst, sym, ◌∙◌, append_assoc, length-append, length-drop, arith, Option, Some, None, IfSome}
use Rattle.std.proofs.lemmas.Grind.{common_steps}
use Rattle.std.proofs.lemmas.List.{take-append-drop, take_all}
use Rattle.std.proofs.KnownBytes.{Appends-trans}
use Rattle.std.specs.Io.KnownBytes.{Appends, Consumes, IsAtEnd, Keeps}
use Rattle.pr_input.specs.PartlyWritten.{AppendsFront}

-- a part written, and then the rest
pub appends_rest : (a b c : Option (List ℕ)) (n : ℕ) (text : List ℕ) → Appends a b (take n text) → Appends b c (drop n text) → Appends a c text
appends_rest a b c n text h k = let P : List ℕ → Type 0 = λ t. Appends a c t in subst P (take-append-drop n text) (Appends-trans a b c (take n text) (drop n text) h k)

-- a part written, and then a front of the rest
pub front_rest : (a b c : Option (List ℕ)) (n : ℕ) (text : List ℕ) → Appends a b (take n text) → AppendsFront b c (drop n text) → AppendsFront a c text
front_rest a b c n text h k =
    (take n text ++ k.0, k.1, sym (take-append-drop n text) ∙ (ap (λ v. take n text ++ v) k.2 ∙ sym (append_assoc (take n text) k.0 k.1)), Appends-trans a b c (take n text) k.0 h k.3)

-- the bytes taken up to the end are all
pub all_taken : (a b c : Option (List ℕ)) (bytes f : List ℕ) (n : ℕ) → n ≡ 0 → Consumes a b bytes → Consumes b c (take n f) → IsAtEnd c → IfSome a (λ s. bytes ≡ s)
all_taken None b c bytes f n z h k e = tt
all_taken (Some xs) None c bytes f n z h k e = absurd h
all_taken (Some xs) (Some ys) None bytes f n z h k e = absurd k
all_taken (Some xs) (Some ys) (Some zs) bytes f n z h k e = let t : ys ≡ take 0 f ++ zs = rw z at k in grind (arith, common_steps)

-- more bytes than the limit
pub too_many : (a b c : Option (List ℕ)) (bytes f : List ℕ) (limit : ℕ) → Consumes a b bytes → Consumes b c f → limit < length bytes + length f → IfSome a (λ s. limit < length s)
too_many None b c bytes f limit h k e = tt
too_many (Some xs) None c bytes f limit h k e = absurd h
too_many (Some xs) (Some ys) None bytes f limit h k e = absurd k
too_many (Some xs) (Some ys) (Some zs) bytes f limit h k e = rw (h, k) (omega (arith, length-append bytes (f ++ zs), length-append f zs))

-- what a slice from n on has
pub tail_from : (n : ℕ) (text : List ℕ) → take (length text - n) (drop n text) ≡ drop n text
tail_from n text = take_all (length text - n) (drop n text) (omega (arith, length-drop n text))

-- a reader's bytes, and a writer's, that stayed before a call
pub kept_then_consumed : (a b c : Option (List ℕ)) (bs : List ℕ) → Keeps a b → Consumes b c bs → Consumes a c bs
kept_then_consumed None b c bs h k = tt
kept_then_consumed (Some xs) None c bs h k = absurd h
kept_then_consumed (Some xs) (Some ys) None bs h k = absurd k
kept_then_consumed (Some xs) (Some ys) (Some zs) bs h k = sym h ∙ k

pub kept_then_appended : (a b c : Option (List ℕ)) (bs : List ℕ) → Keeps a b → Appends b c bs → Appends a c bs
kept_then_appended None b c bs h k = tt
kept_then_appended (Some xs) None c bs h k = absurd h
kept_then_appended (Some xs) (Some ys) None bs h k = absurd k
kept_then_appended (Some xs) (Some ys) (Some zs) bs h k = k ∙ ap (λ l. l ++ bs) h
