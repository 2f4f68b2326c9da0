use Rattle.std.proofs.Common.{◌≡◌, ◌++◌, length, drop, map}
use Rattle.std.specs.Prelude.{◌==◌}
use Rattle.std.specs.List.{list_all, slice_split}
use Rattle.pr_base.specs.Digits.{number_of}
use Rattle.pr_options.specs.DelayLists.{is_raw_number}
use Rattle.pr_options.proofs.delays.read_list.Given as goal

-- what is left of the words decides, and its numbers are those still to come
abbrev pub invariant-loop-word : goal.invariant-loop-word
invariant-loop-word l = record {
  can : goal.iterator-loop-word.can_next l.word-iterator;
  finite : goal.iterator-loop-word.is_finite l.word-iterator;
  words : list_all is_raw_number (drop (length l.yielded) (slice_split (λ x. x == 44) l.text)) ≡ list_all is_raw_number (slice_split (λ x. x == 44) l.text);
  numbers : l.numbers.items ++ map number_of (drop (length l.yielded) (slice_split (λ x. x == 44) l.text)) ≡ map number_of (slice_split (λ x. x == 44) l.text);
}
