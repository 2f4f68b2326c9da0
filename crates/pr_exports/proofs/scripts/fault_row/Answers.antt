use Rattle.std.proofs.Common.{inr}
use Rattle.std.proofs.lemmas.List.{take_rest}
use Rattle.pr_exports.proofs.scripts.fault_row.Goals as goal

pub returns : goal.returns
returns c = inr (record {
  fault = c.in-Err.refused.fault;
  place = c.in-Err.refused.place;
  start = c.line_of-line.result.start;
  line = c.line_of-line.result.bytes.now;
  number = c.line_of-line.result.number;
  label = c.label_of.result;
  width = c.width_of.result;
  is_first = c.line_of-line.ensures.first;
  is_line = c.line_of-line.ensures.line;
  is_label = c.label_of.ensures;
  is_width = rw (← take_rest) c.width_of.ensures;
  are_numbers = rw c.new-numbers.ensures.items at c.in_ok-extend_from_slice.ensures.items;
})
