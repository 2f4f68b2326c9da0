-- Trusted: the first fault of a script, from the left: what comes before it is as the grammar says,
-- and a rule of the table of faults holds there.
use Rattle.std.specs.Prelude.{ℕ, List}
use Rattle.pr_basic.specs.FaultPlaces.{IsFirstFaultAt}
use Rattle.pr_basic.specs.declared.fault.ScriptFault.{ScriptFault}

-- the first fault of the bytes, with the number of its line from 1, at any place in the line
abbrev pub IsFirstFault : List ℕ → ScriptFault → Type 0
IsFirstFault bytes fault = (place : ℕ) × IsFirstFaultAt bytes fault place
