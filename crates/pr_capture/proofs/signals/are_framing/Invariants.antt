use Rattle.std.proofs.Common.{◌≡◌, drop}
use Rattle.std.specs.List.{list_all}
use Rattle.pr_capture.specs.Recording.{is_framing}
use Rattle.pr_capture.proofs.signals.are_framing.Given as goal

-- the bytes left decide
abbrev pub invariant-loop-b : goal.invariant-loop-b
invariant-loop-b l = list_all is_framing (drop l.b-index l.bytes) ≡ list_all is_framing l.bytes
