-- Linking words: an edge in the numbers of a caller. No reader needs to believe them.
use Rattle.pr_wire.specs.declared.Edge.{Edge}
use Rattle.pr_ear.specs.declared.WireEdge.{WireEdge}
use Rattle.pr_ear.specs.Hearing.{bit_of}

-- an edge in a caller's numbers
abbrev pub wire_of : Edge → WireEdge
wire_of e = record
    { time = e.time; atn = bit_of e.levels.atn; clock = bit_of e.levels.clock; «data» = bit_of e.levels.line }
