-- What a device hears of one frame more, and what any list says of one element more.
use Rattle.std.proofs.Common.{◌≡◌, ℕ, false, cond, ◌||◌, arith, List, [], ◌∷◌, ◌++◌, Option, Some, None, refl, ap, ◌∙◌, append_assoc, append-nil}
use Rattle.std.proofs.lemmas.Grind.{common_steps, flat_map-append}
use Rattle.std.proofs.Math.Bool.{or-false}
use Rattle.std.specs.List.{flat_map, last_or, list_any}
use Rattle.std.specs.Option.{option_to_list}
use Rattle.pr_wire.specs.declared.Frame.{Frame}
use Rattle.pr_page.specs.Before.{with_before}
use Rattle.pr_receiver.specs.Heard.{is_listen, is_unlisten, is_listening, is_called, input_of, heard_of}

-- the elements before each, for two parts
pub with_before-append : {X : Type 0} (before xs ys : List X) → with_before before (xs ++ ys) ≡ with_before before xs ++ with_before (before ++ xs) ys
with_before-append before [] ys = rw append-nil
with_before-append before (x ∷ xs) ys = rw (with_before-append (before ++ x ∷ []) xs ys, append_assoc)

-- what comes of each element after those before it, for two parts
pub each-append : {X A : Type 0} (f : List X × X → List A) (xs ys : List X)
    → flat_map f (with_before [] (xs ++ ys)) ≡ flat_map f (with_before [] xs) ++ flat_map f (with_before xs ys)
each-append f xs ys = ap (flat_map f) (with_before-append [] xs ys) ∙ flat_map-append f (with_before [] xs) (with_before xs ys)

-- the same for one element more
pub each-push : {X A : Type 0} (f : List X × X → List A) (xs : List X) (x : X)
    → flat_map f (with_before [] (xs ++ x ∷ [])) ≡ flat_map f (with_before [] xs) ++ f (xs, x)
each-push f xs x = each-append f xs (x ∷ []) ∙ ap (λ z. flat_map f (with_before [] xs) ++ z) (append-nil (f (xs, x)))

-- the last of a list with one element more is that one
last_or-push : {X : Type 0} (o : Option X) (xs : List X) (x : X) → last_or o (xs ++ x ∷ []) ≡ Some x
last_or-push o [] x = refl
last_or-push o (y ∷ xs) x = last_or-push (Some y) xs x

-- only the last frame can have called the device
pub is_called-push : (device : ℕ) (frames : List Frame) (frame : Frame) → is_called device (frames ++ frame ∷ []) ≡ is_listen device frame
is_called-push device frames frame =
    ap (λ o. list_any (is_listen device) (option_to_list o)) (last_or-push None frames frame) ∙ or-false (is_listen device frame)

-- one frame more gives what it gives after the others
pub heard_of-push : (device : ℕ) (frames : List Frame) (frame : Frame) → heard_of device (frames ++ frame ∷ []) ≡ heard_of device frames ++ option_to_list (input_of device frames frame)
heard_of-push device frames frame = each-push (λ p. option_to_list (input_of device p.0 p.1)) frames frame

-- an UNLISTEN ends listening, a LISTEN to the device begins it
pub is_listening-push : (device : ℕ) (frames : List Frame) (frame : Frame)
    → is_listening device (frames ++ frame ∷ []) ≡ cond (is_unlisten frame) false (is_listening device frames || is_listen device frame)
is_listening-push device frames frame = grind (arith, common_steps)
