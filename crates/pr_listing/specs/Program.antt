-- Trusted: a saved program: the lines in its bytes, and where it is cut off.
use Rattle.std.specs.Prelude.{◌≡◌, IsTrue, ℕ, suc, ◌+◌, ◌*◌, ◌<◌, ◌⊎◌, ◌==◌, not, Bool, List, [], ◌∷◌, ◌++◌, length}
use Rattle.std.specs.List.{list_all}
use Rattle.pr_listing.specs.declared.fault.ListingFault.{ListingFault}
use Rattle.pr_listing.specs.declared.fault.ListingFault.TheVariants.{CutOff, NoAddress, NoLine}

-- a line: its number, and its bytes
pub record Line : Type 0 where
  pub number : ℕ
  pub bytes : List ℕ

-- any byte but 0
abbrev pub is_not_zero : ℕ → Bool
is_not_zero b = not (b == 0)

-- bytes begin with a line, and the rest follows: two bytes of a link that are not both 0, two bytes
-- of the line's number, the low one first, the line's own bytes, none of them 0, and a 0
pub record BeginsWith (line : Line) (bytes rest : List ℕ) : Type 0 where
  pub link_low : ℕ
  pub link_high : ℕ
  pub low : ℕ
  pub high : ℕ
  pub cut : bytes ≡ link_low ∷ link_high ∷ low ∷ high ∷ line.bytes ++ 0 ∷ rest
  pub linked : 0 < link_low + link_high
  pub numbered : line.number ≡ low + 256 * high
  pub no_zero : IsTrue (list_all is_not_zero line.bytes)

-- bytes begin with these lines, and the rest follows
abbrev pub BeginsWithLines : List Line → List ℕ → List ℕ → Type 0
BeginsWithLines [] bytes rest = bytes ≡ rest
BeginsWithLines (l ∷ ls) bytes rest = (after : List ℕ) × BeginsWith l bytes after
    × BeginsWithLines ls after rest

-- a file begins with a load address and these lines, and the rest follows
abbrev pub Holds : List Line → List ℕ → List ℕ → Type 0
Holds lines file rest = (low : ℕ) × (high : ℕ) × (bytes : List ℕ)
    × (file ≡ low ∷ high ∷ bytes) × BeginsWithLines lines bytes rest

-- a file is a saved program of these lines, one at least: after them comes a link of 0, and then any bytes
abbrev pub IsProgram : List Line → List ℕ → Type 0
IsProgram lines file = (more : List ℕ) × Holds lines file (0 ∷ 0 ∷ more) × (0 < length lines)

-- bytes end before the end of a line, or before the link of 0
abbrev pub IsCutOff : List ℕ → Type 0
IsCutOff bytes = (length bytes < 2)
    ⊎ ((link_low : ℕ) × (link_high : ℕ) × (rest : List ℕ) × (bytes ≡ link_low ∷ link_high ∷ rest)
    × (0 < link_low + link_high)
    × ((length rest < 2)
    ⊎ ((low : ℕ) × (high : ℕ) × (line : List ℕ) × (rest ≡ low ∷ high ∷ line)
    × IsTrue (list_all is_not_zero line))))

-- why a file is no saved program: it has no load address, it has no line, or it ends in the line after
-- these lines
abbrev pub IsProgramFault : List ℕ → ListingFault → Type 0
IsProgramFault file fault = ((length file < 2) × (fault ≡ NoAddress))
    ⊎ (((more : List ℕ) × Holds [] file (0 ∷ 0 ∷ more) × (fault ≡ NoLine))
    ⊎ ((lines : List Line) × (rest : List ℕ) × Holds lines file rest × IsCutOff rest
    × (fault ≡ CutOff (suc (length lines)))))
