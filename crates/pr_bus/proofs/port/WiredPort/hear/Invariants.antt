use Rattle.std.proofs.Common.{◌≡◌, ◌+◌, ◌-◌, ◌≤◌, ◌++◌, List, length, take}
use Rattle.std.specs.Prelude.{vec_capacity}
use Rattle.pr_wire.specs.declared.Edge.{Edge}
use Rattle.pr_wire.specs.Table.{IsAllowed}
use Rattle.pr_receiver.specs.Taken.{device_of, number_taken}
use Rattle.pr_bus.specs.PortState.{IsHearing}
use Rattle.pr_bus.proofs.port.WiredPort.hear.Given as goal

-- the edges so far are heard
abbrev pub invariant-loop-at : goal.invariant-loop-at
invariant-loop-at l = record {
  hears : (forgotten trace : List Edge) → IsAllowed (trace ++ l.edges) → IsHearing forgotten trace l.fn.self → IsHearing forgotten (trace ++ take l.at l.edges) l.self;
  within : l.at ≤ length l.edges;
  device : device_of l.self.receiver ≡ device_of l.fn.self.receiver;
  present : l.self.present ≡ l.fn.self.present;
  count : number_taken l.self.receiver ≤ number_taken l.fn.self.receiver + l.at;
  capacity : vec_capacity l.self.inputs ≡ vec_capacity l.fn.self.inputs;
}

abbrev pub decreases-loop-at : goal.decreases-loop-at
decreases-loop-at l = length l.edges - l.at
