-- Laws: Value Change Dumps, written and read. `vcd_is_read_back` proves them, and callers take them from there.
use Rattle.std.specs.Prelude.{◌≡◌, ◌+◌, ◌<◌, ◌^◌, true, false, List, [], ◌∷◌, codes, Option, Some, None}
use Rattle.pr_wire.specs.declared.Edge.{Edge}
use Rattle.pr_wire.specs.Table.{differ}
use Rattle.pr_capture.specs.declared.signals.Signals.{Signals}
use Rattle.pr_capture.specs.Recording.{alike}
use Rattle.pr_capture.specs.Samples.{edges_of}
use Rattle.pr_capture.specs.Vcd.{vcd_of}
use Rattle.pr_capture.specs.VcdReading.{vcd_contents}

-- the signals are those that are written
pub record IsAsWritten (s : Signals) : Type 0 where
  pub atn : s.atn.now ≡ codes "ATN"
  pub clock : s.clock.now ≡ codes "CLOCK"
  pub line : s.line.now ≡ codes "DATA"
  pub straight : s.probes ≡ alike false

-- edges after the edge before, if any: each is later and has other levels, and the time stamp after it is below 2 ^ 64
abbrev pub RunsOn : (before : Option Edge) → List Edge → Type 0
RunsOn before [] = Unit {0}
RunsOn None (e ∷ es) = (e.time + 1000 < 2 ^ 64) × RunsOn (Some e) es
RunsOn (Some b) (e ∷ es) =
    (b.time < e.time) × (differ b.levels e.levels ≡ true) × (e.time + 1000 < 2 ^ 64) × RunsOn (Some e) es

-- what is written of edges has no fault, and is read as these edges
pub record VcdIsReadBack : Type 0 where
  pub sound : (s : Signals) (es : List Edge) → IsAsWritten s → RunsOn None es → (vcd_contents s (vcd_of es)).fault
      ≡ None
  pub edges : (s : Signals) (es : List Edge) → IsAsWritten s → RunsOn None es
      → edges_of 0 (vcd_contents s (vcd_of es)).samples ≡ es
