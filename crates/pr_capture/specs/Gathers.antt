-- Trusted: what each call of an edge detector does. `HasGathered` holds of a new detector with no
-- sample; each call says for which samples it holds next; and at the end the edges are those of all
-- samples for which it holds.
use Rattle.std.specs.Prelude.{◌≡◌, ℕ, List, [], ◌∷◌, ◌++◌}
use Rattle.pr_wire.specs.declared.Levels.{Levels}
use Rattle.pr_wire.specs.declared.Edge.{Edge}
use Rattle.pr_capture.specs.declared.edge_detector.EdgeDetector.{EdgeDetector}
use Rattle.pr_capture.specs.Gathering.{HasGathered}

-- the detector has taken these samples after those before, and has given these edges
abbrev pub GathersMore : (samples edges : List Edge) (old new : EdgeDetector) → Type 0
GathersMore samples edges old new =
    (start : ℕ) (before given : List Edge) → HasGathered start before given old
    → HasGathered start (before ++ samples) (given ++ edges) new

-- each of these samples has these levels
abbrev pub AllHave : Levels → List Edge → Type 0
AllHave l [] = Unit {0}
AllHave l (s ∷ ss) = (s.levels ≡ l) × AllHave l ss

-- the detector has taken samples with the levels of this one, and then this one, whatever those are, and has given no edge
abbrev pub GathersRepeats : (last : Edge) → (old new : EdgeDetector) → Type 0
GathersRepeats last old new = (between : List Edge) → AllHave last.levels between → GathersMore (between ++ last ∷ []) [] old new
