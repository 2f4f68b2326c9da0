-- Trusted: small words of both formats.
use Rattle.std.specs.Prelude.{ℕ, ◌+◌, ◌%◌, Bool, List, [], ◌∷◌, ◌++◌, ◌==◌, ◌||◌, codes, decimal, if◌then◌else◌}
use Rattle.pr_channels.specs.declared.faults.Stop.{Stop}
use Rattle.pr_channels.specs.declared.faults.Stop.TheVariants.{TooManyFiles, FileOpen, FileNotOpen, DeviceNotPresent, NotInputFile}

-- a text where a test holds
abbrev pub text_if : Bool → List ℕ → List ℕ
text_if holds text = if holds then text else []

-- one of two texts
abbrev pub either_text : Bool → List ℕ → List ℕ → List ℕ
either_text holds this other = if holds then this else other

-- a blank: a space, or a no-break space
abbrev pub is_blank : ℕ → Bool
is_blank u = u == 32 || u == 160

-- numbers, each after a space; every 18th begins a new line with this text; `count` is the number of the first
abbrev pub numbers_text : List ℕ → ℕ → List ℕ → List ℕ
numbers_text line count [] = []
numbers_text line count (n ∷ ns) =
    text_if (count % 18 == 0) line ++ codes " " ++ decimal n ++ numbers_text line (count + 1) ns

-- the name of an error
abbrev pub stop_name : Stop → List ℕ
stop_name TooManyFiles = codes "?TOO MANY FILES"
stop_name FileOpen = codes "?FILE OPEN"
stop_name FileNotOpen = codes "?FILE NOT OPEN"
stop_name DeviceNotPresent = codes "?DEVICE NOT PRESENT"
stop_name NotInputFile = codes "?NOT INPUT FILE"
