use Rattle.std.proofs.Common.{◌≡◌, ◌*◌, ◌≤◌, ◌++◌, drop, length, take}
use Rattle.std.specs.Prelude.{flat_map}
use Rattle.pr_wire.specs.TraceText.{edge_text}
use Rattle.pr_wire.proofs.line_writer.Writer.fill.Given as goal

-- the lines in the block and those of what is left make the whole
abbrev pub invariant-loop-edge : goal.invariant-loop-edge
invariant-loop-edge l = record {
  text : take l.end l.block ++ flat_map edge_text (drop l.edge-index l.edges) ≡ flat_map edge_text l.edges;
  within : l.end ≤ 32 * l.edge-index;
  length : length l.block ≡ 1024;
}
