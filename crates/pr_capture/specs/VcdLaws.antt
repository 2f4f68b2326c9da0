-- Laws: Value Change Dumps. `vcd_adds_up` proves them, and callers take them from there.
use Rattle.std.specs.Prelude.{◌≡◌, List, ◌++◌, Option}
use Rattle.pr_wire.specs.declared.Edge.{Edge}
use Rattle.pr_capture.specs.Vcd.{last_edge, vcd_changes}

-- edges after edges are written after them
pub record VcdAddsUp : Type 0 where
  pub changes : (before : Option Edge) (es fs : List Edge)
      → vcd_changes before (es ++ fs) ≡ vcd_changes before es ++ vcd_changes (last_edge before es) fs
  pub last : (before : Option Edge) (es fs : List Edge) → last_edge before (es ++ fs)
      ≡ last_edge (last_edge before es) fs
