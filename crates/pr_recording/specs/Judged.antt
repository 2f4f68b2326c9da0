-- Linking words, for proofs: edges that were judged. No reader needs to believe them.
use Rattle.std.specs.Prelude.{ℕ, List, ◌++◌}
use Rattle.pr_wire.specs.declared.Edge.{Edge}
use Rattle.pr_wire.specs.declared.Frame.{Frame}
use Rattle.pr_wire.specs.declared.follower.TraceFollower.{TraceFollower}
use Rattle.pr_wire.specs.Following.{HasFollowed}
use Rattle.pr_capture.specs.declared.format.InputFormat.{InputFormat}
use Rattle.pr_jobs.specs.Begun.{HasBegun}
use Rattle.pr_jobs.specs.Report.{edges_checked}
use Rattle.pr_recording.specs.declared.judge.Judge.{Judge}

-- a follower was given these edges
abbrev pub IsFollowed : (edges : List Edge) → TraceFollower → Type 0
IsFollowed edges f = (frames : List Frame) × HasFollowed edges frames f

-- these edges of an input in this format were judged
pub record HasJudged (source : InputFormat) (edges : List Edge) (j : Judge) : Type 0 where
  pub begun : HasBegun source edges j.beginning
  pub followed : IsFollowed (edges_checked source edges) j.follower

-- with more edges
abbrev pub JudgesMore : (more : List Edge) → (old new : Judge) → Type 0
JudgesMore more old new =
    (source : InputFormat) (edges : List Edge) → HasJudged source edges old → HasJudged source (edges ++ more) new

-- how many edges were judged
abbrev pub edges_judged : Judge → ℕ
edges_judged j = j.follower.taken
