use Rattle.std.proofs.Common.{◌≡◌, ◌≤◌, ◌+◌, ◌-◌, ◌^◌, drop, length}
use Rattle.std.specs.List.{prefix_len}
use Rattle.pr_capture.specs.Csv.{is_inner}
use Rattle.pr_input.specs.Watched.{wrapped}
use Rattle.pr_cli.specs.Reading.{ReadsMore}
use Rattle.pr_cli.specs.StartSteps.{GoesOn}
use Rattle.pr_cli.proofs.starts.line_len.Given as goal

-- no line ends in what was seen
abbrev pub invariant-blocks-2 : goal.invariant-blocks-2
invariant-blocks-2 g l = record {
  from : l.from ≤ l.seen;
  seen : l.seen ≤ length l.first.items;
  inner : prefix_len is_inner (drop l.from l.first.items) ≡ (l.seen - l.from) + prefix_len is_inner (drop l.seen l.first.items);
  on : GoesOn l.fn.first.items l.first.items;
  more : ReadsMore l.fn.first.items l.first.items (g.R.Read.remaining (wrapped l.fn.input)) (g.R.Read.remaining (wrapped l.input));
}

abbrev pub decreases-blocks-2 : goal.decreases-blocks-2
decreases-blocks-2 g l = 2 ^ 64 - length l.first.items
