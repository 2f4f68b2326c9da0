use Rattle.std.proofs.Common.{◌≡◌, ◌≤◌, length}
use Rattle.pr_basic.specs.Lexing.{IsRest, later}
use Rattle.pr_basic.proofs.lexemes.after_colon.Given as goal

-- what is left is of the same part
abbrev pub invariant-loop-lexeme : goal.invariant-loop-lexeme
invariant-loop-lexeme l = record { same : later l.rest ≡ later l.bytes; within : length l.rest ≤ length l.bytes; rest : IsRest l.rest l.bytes }

abbrev pub decreases-loop-lexeme : goal.decreases-loop-lexeme
decreases-loop-lexeme l = length l.rest
