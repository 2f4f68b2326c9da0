-- Laws: lawful traces, the places that edges reach, and delays. `lawful_traces`, `allowed_traces` and `delays_within_bounds` prove them,
-- and callers take them from there.
use Rattle.std.specs.Prelude.{◌≡◌, ◌↔◌, ℕ, true, List, [], ◌∷◌, ◌++◌, length, reverse, None, Ok}
use Rattle.pr_wire.specs.declared.Edge.{Edge}
use Rattle.pr_wire.specs.declared.Frame.{Frame}
use Rattle.pr_wire.specs.declared.delay.Kind.{Kind}
use Rattle.pr_wire.specs.Delays.{bounds_of, delay_at}
use Rattle.pr_wire.specs.Pieces.{IsWithin, IsLawful, Spells}
use Rattle.pr_wire.specs.Reached.{Reached, begin, reached, one_more, led, may_stop, fault_by}
use Rattle.pr_wire.specs.Table.{fault_of, IsAllowed}

-- the lawful traces, cut into whole pieces, are the lists without a fault in the table
abbrev pub LawfulIsFaultless : Type 0
LawfulIsFaultless = (edges : List Edge) → IsLawful edges ↔ (fault_of edges ≡ None)

-- a trace spells one list of frames, however it is cut
abbrev pub SpellsOnce : Type 0
SpellsOnce = (edges : List Edge) (fs gs : List Frame) → Spells edges fs → Spells edges gs → fs ≡ gs

-- the allowed lists are those that lead somewhere
abbrev pub AllowedIsReached : Type 0
AllowedIsReached = (edges : List Edge) → IsAllowed edges ↔ ((r : Reached) × (reached begin edges ≡ Ok r))

-- the lawful lists are the allowed ones that may end where they lead
abbrev pub LawfulIsAllowedToEnd : Type 0
LawfulIsAllowedToEnd =
    (edges : List Edge)
    → IsLawful edges ↔ ((r : Reached) × (reached begin edges ≡ Ok r) × (may_stop r.last r.place ≡ true))

-- a trace spells the frames that its edges come by, where they may end
abbrev pub SpellsTheFramesReached : Type 0
SpellsTheFramesReached =
    (edges : List Edge) (frames : List Frame)
    → Spells edges frames ↔
    ((r : Reached) × (reached begin edges ≡ Ok r) × (may_stop r.last r.place ≡ true) × (r.before ≡ reverse frames))

-- the fault of a list is that of its first edge that has one, or of its end
abbrev pub FaultIsReached : Type 0
FaultIsReached = (edges : List Edge) → fault_of edges ≡ fault_by (reached begin edges)

-- one edge more goes one step on, and what was reached counts the edges
pub record OneEdgeMore : Type 0 where
  pub step : (edges : List Edge) (e : Edge) → reached begin (edges ++ e ∷ [])
      ≡ led (λ r. one_more r e) (reached begin edges)
  pub count : (edges : List Edge) (r : Reached) → reached begin edges ≡ Ok r → r.count ≡ length edges

-- whatever the numbers, a delay lies within the bounds of its kind
abbrev pub DelaysLieWithinBounds : Type 0
DelaysLieWithinBounds =
    (k : Kind) (numbers : List ℕ) (i : ℕ) → IsWithin (delay_at k numbers i) (bounds_of k).0 (bounds_of k).2
