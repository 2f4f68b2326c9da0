-- Laws: what follows from the definitions of faults and their places.
use Rattle.std.specs.Prelude.{◌≡◌, ℕ, List}
use Rattle.pr_basic.specs.FaultPlaces.{IsFirstFaultAt, at_number}
use Rattle.pr_basic.specs.Faults.{IsFirstFault}
use Rattle.pr_basic.specs.FaultsAlone.{IsFirstFaultAlone}
use Rattle.pr_basic.specs.LineAt.{IsLineAt}
use Rattle.pr_basic.specs.declared.fault.LineFault.{LineFault}
use Rattle.pr_basic.specs.declared.fault.ScriptFault.{ScriptFault}

-- a text has a first fault exactly where it has it by rules that give no place
abbrev pub PlacesChangeNoFault : Type 0
PlacesChangeNoFault = (bytes : List ℕ) (fault : ScriptFault)
    → (IsFirstFault bytes fault → IsFirstFaultAlone bytes fault)
    × (IsFirstFaultAlone bytes fault → IsFirstFault bytes fault)

-- the first fault of a text is in a line, whose number it gives
abbrev pub FaultsTellTheirLine : Type 0
FaultsTellTheirLine = (bytes : List ℕ) (fault : ScriptFault) (place : ℕ) → IsFirstFaultAt bytes fault place
    → (f : LineFault) × (start : ℕ) × (line : List ℕ) × (number : ℕ) × IsLineAt bytes place start line number
    × (fault ≡ at_number f number)

-- a place is in one line
abbrev pub PlacesHaveOneLine : Type 0
PlacesHaveOneLine = (text : List ℕ) (place start begin : ℕ) (line other : List ℕ) (number count : ℕ)
    → IsLineAt text place start line number → IsLineAt text place begin other count → (start ≡ begin) × (line ≡ other)
    × (number ≡ count)
