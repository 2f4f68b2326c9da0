use Rattle.std.proofs.Common.{◌≡◌, drop}
use Rattle.pr_capture.specs.Numbers.{behind_word}
use Rattle.pr_capture.proofs.numbers.behind_word.Given as goal

-- the letters left decide
abbrev pub invariant-loop-letter : goal.invariant-loop-letter
invariant-loop-letter l = behind_word (drop l.letter-index l.word) l.left ≡ behind_word l.word l.text
