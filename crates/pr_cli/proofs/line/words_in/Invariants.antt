use Rattle.std.proofs.Common.{◌≡◌, ◌++◌, length, drop}
use Rattle.std.specs.Prelude.{map}
use Rattle.pr_cli.specs.Words.{words_in}
use Rattle.pr_cli.proofs.line.words_in.Given as goal

-- the words so far, and those that are left
abbrev pub invariant-loop-word : goal.invariant-loop-word
invariant-loop-word l = record {
  can : goal.iterator-loop-word.can_next l.word-iterator;
  finite : goal.iterator-loop-word.is_finite l.word-iterator;
  words : map (λ s. s.now) l.words.items ++ drop (length l.yielded) (words_in l.text) ≡ words_in l.text;
}
