use Rattle.std.proofs.Common.{◌≡◌, ◌+◌, drop}
use Rattle.std.specs.List.{prefix_len}
use Rattle.pr_interpreter.specs.Statements.{is_passed}
use Rattle.pr_interpreter.proofs.statement_reader.front_size.Given as goal

abbrev pub invariant-loop-i : goal.invariant-loop-i
invariant-loop-i l = prefix_len is_passed l.lexemes ≡ l.i + prefix_len is_passed (drop l.i l.lexemes)
