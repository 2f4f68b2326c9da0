-- Edges after edges.
use Rattle.std.proofs.Common.{◌≡◌, List, [], ◌∷◌, ◌++◌, Option, Some, refl, ap, sym, ◌∙◌, append_assoc}
use Rattle.pr_wire.specs.declared.Edge.{Edge}
use Rattle.pr_capture.specs.Vcd.{edge_changes, last_edge, vcd_changes}

-- the changes of two parts
pub changes-append : (before : Option Edge) (es fs : List Edge) → vcd_changes before (es ++ fs) ≡ vcd_changes before es ++ vcd_changes (last_edge before es) fs
changes-append before [] fs = refl
changes-append before (e ∷ es) fs =
    ap (λ v. edge_changes before e ++ v) (changes-append (Some e) es fs)
    ∙ sym (append_assoc (edge_changes before e) (vcd_changes (Some e) es) (vcd_changes (last_edge (Some e) es) fs))

-- the last edge of two parts
pub last-append : (before : Option Edge) (es fs : List Edge) → last_edge before (es ++ fs) ≡ last_edge (last_edge before es) fs
last-append before [] fs = refl
last-append before (e ∷ es) fs = last-append (Some e) es fs
