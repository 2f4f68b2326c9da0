use Rattle.std.proofs.Common.{◌≡◌, ◌+◌, ◌++◌, List, take}
use Rattle.pr_page.specs.declared.input.Input.{Input}
use Rattle.pr_page.specs.Taken.{HasTaken, number_taken}
use Rattle.pr_system.proofs.running.feed.Given as goal

-- the inputs so far are taken
abbrev pub invariant-loop-input : goal.invariant-loop-input
invariant-loop-input l = record {
  taken : (before : List Input) → HasTaken before l.fn.printer → HasTaken (before ++ take l.input-index l.inputs) l.printer;
  count : number_taken l.printer ≡ number_taken l.fn.printer + l.input-index;
}
