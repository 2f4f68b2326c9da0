-- Linking words: which edges a follower was given, which of them it has accepted, and where they lead; for crates above. The clauses of
-- `TraceFollower` say all that a caller needs of them. No reader needs to believe them.
use Rattle.std.specs.Prelude.{◌≡◌, ℕ, ◌+◌, ◌-◌, ◌<◌, ◌≤◌, List, [], ◌∷◌, ◌++◌, length, reverse, take, Option, Some, None, Result, Ok, Err, MatchResult}
use Rattle.pr_wire.specs.declared.Edge.{Edge}
use Rattle.pr_wire.specs.declared.Frame.{Frame}
use Rattle.pr_wire.specs.declared.WaveFault.{WaveFault}
use Rattle.pr_wire.specs.declared.WaveFault.TheVariants as fault
use Rattle.pr_wire.specs.declared.bus_state.Step.{Step}
use Rattle.pr_wire.specs.declared.follower.Refusal.{Refusal}
use Rattle.pr_wire.specs.declared.follower.Refusal.TheVariants.{Start, Flawed}
use Rattle.pr_wire.specs.declared.follower.TraceFollower.{TraceFollower}
use Rattle.pr_wire.specs.Ahead.{last_of}
use Rattle.pr_wire.specs.Checking.{with_frame}
use Rattle.pr_wire.specs.Reached.{Reached, begin, reached, step_of}
use Rattle.pr_wire.specs.Table.{fault_at}

-- the fault of the edge at an index that is refused so
abbrev pub refusal_at : Refusal → ℕ → WaveFault
refusal_at Start n = fault.Start 0
refusal_at (Flawed flaw) n = fault_at flaw n

-- the same, where an edge is refused
abbrev pub refused_at : Option Refusal → ℕ → Option WaveFault
refused_at None n = None
refused_at (Some refusal) n = Some (refusal_at refusal n)

-- the fault with which a follower refuses, if it has refused an edge: that of the edge after those accepted
abbrev pub kept_fault : TraceFollower → Option WaveFault
kept_fault f = refused_at f.refused f.taken

-- where the edges accepted lead, with the frames that they end
abbrev pub where_led : TraceFollower → List Frame → Reached
where_led f frames = record { last = f.last; place = f.state; before = reverse frames; count = f.taken }

-- the follower has accepted these edges, in this order, and no others, and they end these frames
abbrev pub HasAccepted : (edges : List Edge) → (frames : List Frame) → TraceFollower → Type 0
HasAccepted edges frames f = reached begin edges ≡ Ok (where_led f frames)

-- what edges come to, by the fault kept and by where those accepted lead
abbrev pub outcome : Option WaveFault → Reached → Result Reached WaveFault
outcome None r = Ok r
outcome (Some w) r = Err w

-- the follower was given these edges, in this order, and no others: all were accepted and end these frames, or the first that was not has
-- the fault kept
abbrev pub HasFollowed : (edges : List Edge) → (frames : List Frame) → TraceFollower → Type 0
HasFollowed edges frames f = reached begin edges ≡ outcome (kept_fault f) (where_led f frames)

-- the frames, with the one that an edge ends after them, if it is accepted and ends one
abbrev pub frames_with : List Frame → Result (Option Frame) WaveFault → List Frame
frames_with frames (Ok frame) = with_frame frames frame
frames_with frames (Err w) = frames

-- a follower refuses with this fault, and has accepted what it had
pub record Refuses (old : TraceFollower) (w : WaveFault) (new : TraceFollower) : Type 0 where
  pub keeps : kept_fault new ≡ Some w
  pub stays : new ≡ record old { refused = new.refused }

-- what one edge changes where none was refused: it is accepted and reaches the state of its step in the table, or it is refused
abbrev pub Moves : TraceFollower → Edge → Result (Option Frame) WaveFault → TraceFollower → Type 0
Moves f edge result new =
    MatchResult (step_of f.last f.state f.taken edge)
    (λ (s : Step). (result ≡ Ok s.frame)
    × (new ≡ record { taken = f.taken + 1; last = Some edge; state = s.place; refused = None }))
    (λ (w : WaveFault). (result ≡ Err w) × Refuses f w new)

-- these edges are allowed, and end these frames
abbrev pub LeadBy : (edges : List Edge) → (frames : List Frame) → Type 0
LeadBy edges frames = MatchResult (reached begin edges) (λ r. r.before ≡ reverse frames) (λ _. ⊥)

-- this many edges in front are accepted at once, and the last of them alone ends a frame, this one
pub record TakesFrame (old : TraceFollower) (edges : List Edge) (n : ℕ) (frame : Frame)
    (new : TraceFollower) : Type 0 where
  pub some : 0 < n
  pub within : n ≤ length edges
  pub works : old.refused ≡ None
  pub accepted : (before : List Edge) (frames : List Frame) → HasAccepted before frames old
      → HasAccepted (before ++ take n edges) (frames ++ frame ∷ []) new
  pub sooner : (before : List Edge) (frames : List Frame) → HasAccepted before frames old
      → LeadBy (before ++ take (n - 1) edges) frames
  pub count : new.taken ≡ old.taken + n
  pub last : new.last ≡ Some (last_of edges n)
  pub stays : new.refused ≡ None
