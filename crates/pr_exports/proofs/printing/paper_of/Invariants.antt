use Rattle.std.proofs.Common.{◌≡◌, take}
use Rattle.std.specs.Prelude.{map}
use Rattle.pr_page.specs.Taken.{HasTaken, number_taken}
use Rattle.pr_exports.specs.Printing.{input_of}
use Rattle.pr_exports.proofs.printing.paper_of.Given as goal

-- the inputs so far are taken
abbrev pub invariant-loop-number : goal.invariant-loop-number
invariant-loop-number l = record {
  taken : HasTaken (map input_of (take l.number-index l.numbers)) l.printer;
  count : number_taken l.printer ≡ l.number-index;
}
