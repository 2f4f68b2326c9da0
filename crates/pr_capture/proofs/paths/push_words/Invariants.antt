use Rattle.std.proofs.Common.{◌≡◌, ◌++◌, drop}
use Rattle.pr_capture.specs.VcdReading.{joined}
use Rattle.pr_capture.specs.VcdSteps.{words_in}
use Rattle.pr_capture.proofs.paths.push_words.Given as goal

-- the path so far and the words left make the whole
abbrev pub invariant-loop-word : goal.invariant-loop-word
invariant-loop-word l = l.path.items ++ joined (words_in (drop l.word-index l.words)) ≡ l.fn.path.items ++ joined (words_in l.words)
