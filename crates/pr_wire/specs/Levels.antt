-- Trusted: edges and bytes.
use Rattle.std.specs.Prelude.{ℕ, ◌+◌, ◌*◌, Bool, true, if◌then◌else◌, List, [], ◌∷◌}
use Rattle.pr_wire.specs.declared.Edge.{Edge}

-- the edge at a moment, with the levels of ATN, CLOCK and DATA after it
abbrev pub edge_at : ℕ → Bool → Bool → Bool → Edge
edge_at t atn clock line = record { time = t; levels = record { atn = atn; clock = clock; line = line } }

-- the edge with which each trace starts: all lines are released
abbrev pub start : Edge
start = edge_at 0 true true true

-- the number of a list of bits, the lowest first
abbrev pub byte_of : List Bool → ℕ
byte_of [] = 0
byte_of (b ∷ bs) = (if b then 1 else 0) + 2 * byte_of bs
