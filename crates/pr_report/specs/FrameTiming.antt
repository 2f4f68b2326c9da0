-- Linking words: which edges a timer has taken, and which frames it has given. The clauses of `FrameTimer`
-- say all that a caller needs of them. No reader needs to believe them.
use Rattle.std.specs.Prelude.{◌≡◌, ℕ, Bool, List, [], ◌∷◌, ◌++◌, Option, Some, None, if◌then◌else◌}
use Rattle.pr_wire.specs.declared.Edge.{Edge}
use Rattle.pr_wire.specs.declared.Frame.{Frame}
use Rattle.pr_wire.specs.declared.bus_state.BusState.{BusState}
use Rattle.pr_wire.specs.declared.bus_state.BusState.TheVariants.{Idle}
use Rattle.pr_wire.specs.Following.{HasAccepted}
use Rattle.pr_wire.specs.Table.{is_start}
use Rattle.pr_report.specs.declared.timed_frame.TimedFrame.{TimedFrame}
use Rattle.pr_report.specs.declared.frame_timer.FrameTimer.{FrameTimer}
use Rattle.pr_report.specs.StoryText.{is_data, story_line}
use Rattle.pr_report.specs.Moments.{timed_frames, timed_from}

-- how many edges a timer has taken
abbrev pub number_taken : FrameTimer → ℕ
number_taken s = s.follower.taken

-- the frames that edges end after the last edge, if there is one
abbrev pub timed_behind : (look : ℕ) → (last : Option Edge) → BusState → List Edge → List TimedFrame
timed_behind look (Some last) p es = timed_from look last p es
timed_behind look None p [] = []
timed_behind look None p (e ∷ es) = if is_start e then timed_from look e (Idle 0) es else []

-- these edges were taken, and these frames were given: whatever edges follow, all frames are these and those that come yet
pub record HasTold (edges : List Edge) (given : List TimedFrame) (s : FrameTimer) : Type 0 where
  pub frames : List Frame
  pub accepted : HasAccepted edges frames s.follower
  pub works : s.follower.refused ≡ None
  pub told : (more : List Edge) → timed_frames (edges ++ more)
      ≡ given ++ timed_behind s.look s.follower.last s.follower.state more

-- the lines of the frame that an edge ends, if it ends one
abbrev pub line_if : (behind_data : Bool) → Option TimedFrame → List ℕ
line_if behind_data None = []
line_if behind_data (Some f) = story_line behind_data f

-- whether the last frame is then a data byte
abbrev pub data_after : (behind_data : Bool) → Option TimedFrame → Bool
data_after behind_data None = behind_data
data_after behind_data (Some f) = is_data f.sending
