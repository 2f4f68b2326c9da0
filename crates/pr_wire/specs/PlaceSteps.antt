-- Machine steps: what the tests of an edge in its place find. No reader needs to believe them.
use Rattle.std.specs.Prelude.{◌≡◌, None, Result, Ok, Err, MatchResult}
use Rattle.pr_wire.specs.declared.bus_state.EdgeError.{EdgeError}
use Rattle.pr_wire.specs.declared.bus_state.BusState.{BusState}
use Rattle.pr_wire.specs.declared.bus_state.Step.{Step}

-- a test finds no flaw where a row of the table leads to a place, and else the flaw that the row finds
abbrev pub FindsAs : {A : Type 0} → Result A EdgeError → BusState → Result Step EdgeError → Type 0
FindsAs found place row =
    MatchResult found (λ _. row ≡ Ok (record { place = place; frame = None })) (λ flaw. row ≡ Err flaw)
