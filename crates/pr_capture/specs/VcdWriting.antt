-- Linking words: what a writer of Value Change Dumps keeps. No reader needs to believe them.
use Rattle.std.specs.Prelude.{Option}
use Rattle.pr_wire.specs.declared.Edge.{Edge}
use Rattle.pr_capture.specs.declared.vcd.VcdWriter.{VcdWriter}

-- the last edge that was written, if any
abbrev pub last_written : VcdWriter → Option Edge
last_written w = w.last
