use Rattle.std.proofs.Common.{◌≡◌, length, drop}
use Rattle.std.specs.Prelude.{◌==◌, false}
use Rattle.std.specs.List.{slice_split}
use Rattle.pr_capture.specs.Recording.{alike}
use Rattle.pr_options.specs.Options.{with_lines}
use Rattle.pr_options.proofs.option_values.read_inverted.Given as goal

-- with the names that are left the lines are those of all names
abbrev pub invariant-loop-name : goal.invariant-loop-name
invariant-loop-name l = record {
  can : goal.iterator-loop-name.can_next l.name-iterator;
  finite : goal.iterator-loop-name.is_finite l.name-iterator;
  lines : with_lines l.probes (drop (length l.yielded) (slice_split (λ x. x == 44) l.text)) ≡ with_lines (alike false) (slice_split (λ x. x == 44) l.text);
}
