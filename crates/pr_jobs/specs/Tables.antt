-- Linking words, for proofs: short texts that are ready in a list. No reader needs to believe them.
use Rattle.std.specs.Prelude.{◌≡◌, ℕ, ◌<◌, List, ◌++◌, decimal, slice_index_or}

-- at each place below count, the number of that place in decimal between two texts
abbrev pub HasNumbers : List (List ℕ) → ℕ → List ℕ → List ℕ → Type 0
HasNumbers texts count before after =
    (k : ℕ) (d : List ℕ) → k < count → slice_index_or texts k d ≡ before ++ decimal k ++ after
