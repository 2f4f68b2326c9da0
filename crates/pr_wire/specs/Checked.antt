-- Linking words: what a checker has taken of a text, and which frames came by. The clauses of `Checker` say all that a caller needs of
-- them. No reader needs to believe them.
use Rattle.std.specs.Prelude.{◌≡◌, ℕ, ◌+◌, Bool, true, false, not, ◌==◌, List, [], ◌∷◌, ◌++◌, length, Option}
use Rattle.std.specs.List.{list_all}
use Rattle.pr_wire.specs.declared.Edge.{Edge}
use Rattle.pr_wire.specs.declared.Frame.{Frame}
use Rattle.pr_wire.specs.declared.line_part.LinePart.{LinePart}
use Rattle.pr_wire.specs.declared.line_part.LinePart.TheVariants.{Nothing}
use Rattle.pr_wire.specs.declared.checker.Checker.{Checker}
use Rattle.pr_wire.specs.declared.follower.TraceFollower.{TraceFollower}
use Rattle.pr_wire.specs.Checking.{with_frame}
use Rattle.pr_wire.specs.Following.{HasFollowed}
use Rattle.pr_wire.specs.LineParts.{part_with}
use Rattle.pr_wire.specs.TraceText.{AreEdgeLines, IsFirstBad}
use Rattle.pr_base.specs.Lines.{lines_of}

-- how many lines have spelled an edge: those accepted, and those from the first one on that was not
abbrev pub line_count : Checker → ℕ
line_count c = c.follower.taken + c.later

-- a byte does not end a line
abbrev pub is_inner : ℕ → Bool
is_inner b = not (b == 10)

-- the whole lines of a text spell these edges, and a part of the next line has come, whatever comes next
pub record IsScanned (text : List ℕ) (edges : List Edge) (part : LinePart) : Type 0 where
  pub good : List (List ℕ)
  pub line : List ℕ
  pub lines : (more : List ℕ) → lines_of (text ++ more) ≡ good ++ lines_of (line ++ more)
  pub are_edges : AreEdgeLines good edges
  pub inner : list_all is_inner line ≡ true
  pub part_is : part ≡ part_with Nothing line

-- no line is bad so far: their edges were given to the follower
pub record IsFollowed (text : List ℕ) (frames : List Frame) (part : LinePart) (count : ℕ)
    (follower : TraceFollower) : Type 0 where
  pub edges : List Edge
  pub scanned : IsScanned text edges part
  pub count_is : length edges ≡ count
  pub followed : HasFollowed edges frames follower

-- what has been taken, by whether the line after the good ones is bad
abbrev pub IsTaken : Bool → List ℕ → List Frame → LinePart → ℕ → TraceFollower → Type 0
IsTaken true text frames part count follower = (more : List ℕ) → IsFirstBad (count + 1) (text ++ more)
IsTaken false text frames part count follower = IsFollowed text frames part count follower

-- the checker has taken the text, and these frames came by
abbrev pub HasChecked : List ℕ → List Frame → Checker → Type 0
HasChecked text frames c = IsTaken c.is_bad text frames c.part (line_count c) c.follower

-- the checker has taken these bytes too, after whatever it had taken, and the frame that they end came by, if they end one
abbrev pub ChecksMore : List ℕ → Option Frame → Checker → Checker → Type 0
ChecksMore more frame old new =
    (text : List ℕ) (frames : List Frame) → HasChecked text frames old
    → HasChecked (text ++ more) (with_frame frames frame) new

-- one edge more was given to a follower, and ends this frame, if it ends one
abbrev pub GoesOn : TraceFollower → Edge → Option Frame → TraceFollower → Type 0
GoesOn old edge frame new =
    (edges : List Edge) (frames : List Frame) → HasFollowed edges frames old
    → HasFollowed (edges ++ edge ∷ []) (with_frame frames frame) new
