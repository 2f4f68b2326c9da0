use Rattle.std.proofs.Common.{◌≡◌, ◌++◌, drop}
use Rattle.pr_capture.specs.Vcd.{last_edge, vcd_changes}
use Rattle.pr_capture.proofs.vcd.VcdWriter.push_edges.Given as goal

-- the text so far and that of what is left make the whole
abbrev pub invariant-loop-edge : goal.invariant-loop-edge
invariant-loop-edge l = record {
  text : l.text.items ++ vcd_changes l.self.last (drop l.edge-index l.edges) ≡ l.fn.text.items ++ vcd_changes l.fn.self.last l.edges;
  last : last_edge l.self.last (drop l.edge-index l.edges) ≡ last_edge l.fn.self.last l.edges;
}
