use Rattle.std.proofs.Common.{◌≡◌, ◌≤◌, ◌++◌, drop}
use Rattle.pr_pdf.specs.Linked.{rest_pdf}
use Rattle.pr_pdf.proofs.runs.push_runs.Given as goal

-- the text so far and that of what is left, after the run that has begun, make the whole
abbrev pub invariant-loop-placed : goal.invariant-loop-placed
invariant-loop-placed l = record {
  text : l.text.items ++ rest_pdf l.height l.open l.end (drop l.placed-index l.marks)
      ≡ l.fn.text.items ++ rest_pdf l.height 9 0 l.marks;
  few : l.open ≤ 9;
}
