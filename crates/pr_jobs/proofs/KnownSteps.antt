-- A step of a reader's known bytes.
use Rattle.std.proofs.Common.{◌<◌, ◌+◌, ℕ, List, ◌++◌, length, length-append, arith, Option, Some, None, IfSome}
use Rattle.std.specs.Io.KnownBytes.{Consumes}

-- more bytes than the limit
pub too_many : (a b c : Option (List ℕ)) (bytes f : List ℕ) (limit : ℕ) → Consumes a b bytes → Consumes b c f → limit < length bytes + length f → IfSome a (λ s. limit < length s)
too_many None b c bytes f limit h k e = tt
too_many (Some xs) None c bytes f limit h k e = absurd h
too_many (Some xs) (Some ys) None bytes f limit h k e = absurd k
too_many (Some xs) (Some ys) (Some zs) bytes f limit h k e = rw (h, k) (omega (arith, length-append bytes (f ++ zs), length-append f zs))
