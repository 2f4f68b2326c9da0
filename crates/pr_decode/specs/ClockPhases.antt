-- Trusted: a recording, cut into stretches: neighbouring edges over which CLOCK keeps its level.
-- Where ATN is pulled, a new stretch begins.
use Rattle.std.specs.Prelude.{Bool, false, not, ◌&&◌, List, [], ◌∷◌, ◌++◌, if◌then◌else◌}
use Rattle.pr_wire.specs.declared.Edge.{Edge}
use Rattle.pr_wire.specs.Table.{same}

-- a stretch: whether its first edge pulls ATN, its first edge, and the further ones
pub record ClockPhase : Type 0 where
  pub attention : Bool
  pub first : Edge
  pub rest : List Edge

-- all edges of a stretch
abbrev pub edges_in : ClockPhase → List Edge
edges_in s = s.first ∷ s.rest

-- an edge pulls ATN, which was released at the edge before it
abbrev pub calls : (last : Edge) → Edge → Bool
calls last e = last.levels.atn && not e.levels.atn

-- an edge belongs to the stretch before it, which has these first and last edges
abbrev pub goes_on : (first last : Edge) → Edge → Bool
goes_on first last e = same e.levels.clock first.levels.clock && not (calls last e)

-- a stretch of one edge, and one with one more edge
abbrev pub begun : (attention : Bool) → Edge → ClockPhase
begun attention e = record { attention = attention; first = e; rest = [] }

abbrev pub longer : ClockPhase → Edge → ClockPhase
longer s e = record s { rest = s.rest ++ e ∷ [] }

-- the stretches of a stretch that has begun, with its last edge, and of the edges after it
abbrev pub stretches_from : ClockPhase → (last : Edge) → List Edge → List ClockPhase
stretches_from s last [] = s ∷ []
stretches_from s last (e ∷ es) =
    if goes_on s.first last e then stretches_from (longer s e) e es
    else s ∷ stretches_from (begun (calls last e) e) e es

-- the stretches of a recording, whatever its first levels
abbrev pub stretches : List Edge → List ClockPhase
stretches [] = []
stretches (e ∷ es) = stretches_from (begun false e) e es
