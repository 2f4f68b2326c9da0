use Rattle.std.proofs.Common.{◌≡◌, ◌≤◌, length}
use Rattle.pr_basic.specs.Lexing.{IsRest, here, later}
use Rattle.pr_basic.specs.Reading.{line_in}
use Rattle.pr_basic.proofs.lists.list.Given as goal

-- what is left goes on to the same list, in the same part
abbrev pub invariant-loop-lexeme : goal.invariant-loop-lexeme
invariant-loop-lexeme l = record {
  list : line_in l.fn.line.bytes l.fn.line.ends (here l.fn.bytes) ≡ line_in l.line.bytes l.line.ends (here l.rest);
  more : later l.rest ≡ later l.fn.bytes;
  within : length l.rest ≤ length l.fn.bytes;
  rest : IsRest l.rest l.fn.bytes;
}

abbrev pub decreases-loop-lexeme : goal.decreases-loop-lexeme
decreases-loop-lexeme l = length l.rest
