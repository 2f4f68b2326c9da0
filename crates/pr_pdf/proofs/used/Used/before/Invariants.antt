use Rattle.std.proofs.Common.{◌≡◌, ◌≤◌}
use Rattle.pr_pdf.specs.Fonts.{used_before}
use Rattle.pr_pdf.proofs.used.Used.before.Given as goal

abbrev pub invariant-loop-number : goal.invariant-loop-number
invariant-loop-number l = record {
  count : l.count ≡ used_before l.self l.number;
  within : l.count ≤ l.number;
}
