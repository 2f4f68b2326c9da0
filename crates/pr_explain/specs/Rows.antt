-- Trusted: which edges a row of the table allows, and which a place allows.
use Rattle.std.specs.Prelude.{◌≡◌, ℕ, ◌<◌, ◌^◌, List, [], ◌∷◌, Bool, true, false, not, ◌&&◌, Option, Some, None, Result, Ok, Err, nat_lt}
use Rattle.std.specs.List.{list_all, list_any}
use Rattle.pr_wire.specs.declared.Levels.{Levels}
use Rattle.pr_wire.specs.declared.Edge.{Edge}
use Rattle.pr_wire.specs.declared.bus_state.Step.{Step}
use Rattle.pr_wire.specs.declared.bus_state.EdgeError.{EdgeError}
use Rattle.pr_wire.specs.declared.bus_state.BusState.{BusState}
use Rattle.pr_wire.specs.Table.{by_row, differ, is_late, same, verdict}
use Rattle.pr_explain.specs.declared.rows.Row.{Row}

-- an edge has these levels and a moment in this interval
abbrev pub lies : Levels → ℕ → Option ℕ → Edge → Bool
lies l low high e =
    same l.atn e.levels.atn
    && (same l.clock e.levels.clock
    && (same l.line e.levels.line && (not (nat_lt e.time low) && not (is_late e.time high))))

-- a row takes an edge; without a row none is taken
abbrev pub takes : Option Row → Edge → Bool
takes None e = false
takes (Some r) e = lies r.levels r.earliest r.latest e

-- a row has a moment: its earliest is no later than its latest
abbrev pub has_moment : Option Row → Bool
has_moment None = true
has_moment (Some r) = not (is_late r.earliest r.latest)

-- two rows lead to other levels, if there are two
abbrev pub lead_apart : Option Row → Option Row → Bool
lead_apart r None = true
lead_apart None (Some s) = true
lead_apart (Some r) (Some s) = differ r.levels s.levels

-- no two rows lead to the same levels
abbrev pub all_lead_apart : List (Option Row) → Bool
all_lead_apart [] = true
all_lead_apart (r ∷ rs) = list_all (lead_apart r) rs && all_lead_apart rs

-- a step, and not an error
abbrev pub is_step : Result Step EdgeError → Bool
is_step (Ok step) = true
is_step (Err flaw) = false

-- the table takes an edge at a place
abbrev pub is_taken : BusState → Edge → Bool
is_taken p e = is_step (by_row p e)

-- these are the rows of a place: the table takes an edge there exactly if one of them takes it
abbrev pub AreRows : List (Option Row) → BusState → Type 0
AreRows rows p = (e : Edge) → e.time < 2 ^ 64 → list_any (λ row. takes row e) rows ≡ is_taken p e

-- an edge is later than the last one, and has other levels
abbrev pub comes_after : Edge → Edge → Bool
comes_after last e = nat_lt last.time e.time && differ last.levels e.levels

-- these are the rows of a place after the last edge: an edge may follow there exactly if one of them takes it
abbrev pub AreRowsBehind : List (Option Row) → Edge → BusState → Type 0
AreRowsBehind rows last p =
    (e : Edge) → e.time < 2 ^ 64 → list_any (λ row. takes row e) rows ≡ is_step (verdict last p e)
