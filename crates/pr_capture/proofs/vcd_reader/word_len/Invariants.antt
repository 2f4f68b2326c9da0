use Rattle.std.proofs.Common.{◌≡◌, ◌+◌, drop}
use Rattle.std.specs.List.{prefix_len}
use Rattle.pr_capture.specs.VcdSteps.{is_letter}
use Rattle.pr_capture.proofs.vcd_reader.word_len.Given as goal

-- all so far count
abbrev pub invariant-loop-i : goal.invariant-loop-i
invariant-loop-i l = prefix_len is_letter l.text ≡ l.i + prefix_len is_letter (drop l.i l.text)
