-- Trusted: what each call of a filter of pulses does. `HasSifted` holds of a new filter with no edge; each call says for which
-- edges it holds next; and at the end the edges are those without pulses of all edges for which it holds.
use Rattle.std.specs.Prelude.{◌≡◌, ℕ, List, [], ◌∷◌, ◌++◌}
use Rattle.pr_wire.specs.declared.Edge.{Edge}
use Rattle.pr_capture.specs.declared.pulse_filter.PulseFilter.{PulseFilter}
use Rattle.pr_capture.specs.Pulses.{steady_after, without_pulses}

-- the edges that come yet, of those held and those that follow
abbrev pub still_to_come : PulseFilter → List Edge → List Edge
still_to_come f more = steady_after f.limit f.told (f.held ++ more)

-- these edges were taken, and these were given: whatever edges follow, all without pulses are these and those that come yet
abbrev pub HasSifted : (limit : ℕ) (taken given : List Edge) → PulseFilter → Type 0
HasSifted limit taken given f =
    (more : List Edge) → without_pulses limit (taken ++ more) ≡ given ++ still_to_come f more

-- the filter has taken this edge too, and has given these
abbrev pub SiftsMore : Edge → (known : List Edge) → (old new : PulseFilter) → Type 0
SiftsMore edge known old new =
    (limit : ℕ) (taken given : List Edge) → HasSifted limit taken given old
    → HasSifted limit (taken ++ edge ∷ []) (given ++ known) new

-- whatever follows the edges that a filter has taken, the edges that it has given come first
abbrev pub SteadyEdgesComeFirst : Type 0
SteadyEdgesComeFirst =
    (limit : ℕ) (taken more given : List Edge) (f : PulseFilter) → HasSifted limit taken given f
    → (later : List Edge) × (without_pulses limit (taken ++ more) ≡ given ++ later)
