-- Trusted: what a recording says of the bus, and how its signals are named.
use Rattle.std.specs.Prelude.{ℕ, ◌==◌, ◌&&◌, ◌||◌, Bool, true, false, not, List, [], ◌∷◌, ◌++◌, codes, nat_le, if◌then◌else◌, Option, Some, None, Result, Ok, Err}
use Rattle.std.specs.Char.{eq_ignore_ascii_case}
use Rattle.std.specs.List.{list_all}
use Rattle.pr_wire.specs.declared.Edge.{Edge}
use Rattle.pr_capture.specs.declared.fault.CaptureFault.{CaptureFault}
use Rattle.pr_capture.specs.declared.fault.CaptureFault.TheVariants.{BadLevel, Floating, NoSignal, Unknown}
use Rattle.pr_capture.specs.declared.fault.Wire.{Wire}
use Rattle.pr_capture.specs.declared.fault.Wire.TheVariants.{Atn, Clock, Data}
use Rattle.pr_capture.specs.declared.signals.Probes.{Probes}
use Rattle.pr_capture.specs.declared.signals.Signals.{Signals}

-- what a recording says: its samples up to its fault, if it has one, so that clauses also say what comes before a fault
pub record CaptureContents : Type 0 where
  pub samples : List Edge
  pub fault : Option CaptureFault

-- it ends here
abbrev pub ended : CaptureContents
ended = record { samples = []; fault = None }

-- it has a fault here
abbrev pub refused : CaptureFault → CaptureContents
refused f = record { samples = []; fault = Some f }

-- samples, and what comes after them
abbrev pub with_samples : List Edge → CaptureContents → CaptureContents
with_samples ss t = record { samples = ss ++ t.samples; fault = t.fault }

-- the next step where there is no fault; else the fault
infixl 10 ◌>>=◌
abbrev pub ◌>>=◌ : {A B : Type 0} → Result A CaptureFault → (A → Result B CaptureFault) → Result B CaptureFault
(Ok x) >>= f = f x
(Err e) >>= f = Err e

-- the fault of a wire that has no signal of its own: CLOCK has that of ATN, or DATA that of another
abbrev pub shared : (number : ℕ) → (clock line : Bool) → Option CaptureFault
shared number true line = Some (NoSignal number Clock)
shared number false true = Some (NoSignal number Data)
shared number false false = None

-- what is read where there is no such fault
abbrev pub unless : {A : Type 0} → Option CaptureFault → Result A CaptureFault → Result A CaptureFault
unless None read = read
unless (Some f) read = Err f

-- white space (a space, and the bytes from tab to carriage return) and quotation marks, which mean
-- nothing around a field
abbrev pub is_framing : ℕ → Bool
is_framing b = b == 32 || b == 34 || (nat_le 9 b && nat_le b 13)

-- a field without these bytes in front
abbrev pub without_front : List ℕ → List ℕ
without_front [] = []
without_front (b ∷ bs) = if is_framing b then without_front bs else b ∷ bs

-- what follows a letter, if that is here, a capital or not
abbrev pub behind_letter : ℕ → List ℕ → Option (List ℕ)
behind_letter n [] = None
behind_letter n (l ∷ ls) = if eq_ignore_ascii_case n l then Some ls else None

-- the same of a letter of a name, in which white space and quotation marks do not count
abbrev pub behind_sign : ℕ → List ℕ → Option (List ℕ)
behind_sign n ls = if is_framing n then Some ls else behind_letter n (without_front ls)

-- what follows a sign is a name, or nothing is there
abbrev pub name_behind : Option (List ℕ) → (List ℕ → Bool) → Bool
name_behind None rest = false
name_behind (Some ls) rest = rest ls

-- a field is a signal's name: its letters, whichever of them are capitals. White space and quotation marks do not count
abbrev pub is_named : (name field : List ℕ) → Bool
is_named [] ls = list_all is_framing ls
is_named (n ∷ ns) ls = name_behind (behind_sign n ls) (λ rest. is_named ns rest)

-- CLOCK's other name, for a recording without its first: CLK, if the first is CLOCK
abbrev pub second_name : Signals → List ℕ
second_name s = if is_named (codes "clock") s.clock.now then codes "clk" else s.clock.now

-- the first of two, if there is one, or else the second
abbrev pub first_some : {A : Type 0} → (first second : Option A) → Option A
first_some None second = second
first_some (Some x) second = Some x

-- all probes alike: they invert, or none does; they show levels, not volts
abbrev pub alike : Bool → Probes
alike inverted = record { atn = inverted; clock = inverted; line = inverted; threshold = None }

-- the probe of a wire inverts
abbrev pub inverts : Probes → Wire → Bool
inverts p Atn = p.atn
inverts p Clock = p.clock
inverts p Data = p.line

-- one of them does
abbrev pub inverts_any : Probes → Bool
inverts_any p = p.atn || p.clock || p.line

-- a level, on a line: 1 and H are released, 0 and L pulled, unless the wire's probe inverts
abbrev pub level_in : (number : ℕ) → (inverted : Bool) → ℕ → Result Bool CaptureFault
level_in number inverted b =
    if b == 48 || b == 76 || b == 108 then Ok inverted
    else (if b == 49 || b == 72 || b == 104 then Ok (not inverted)
    else (if b == 120 || b == 88 then Err (Unknown number)
    else (if b == 122 || b == 90 then Err (Floating number)
    else Err (BadLevel number))))
