use Rattle.std.proofs.Common.{◌≡◌, drop}
use Rattle.pr_basic.specs.Lexing.{lexemes_of, unspaced}
use Rattle.pr_basic.proofs.lexemes.after_spaces.Given as goal

-- what was passed holds no lexeme
abbrev pub invariant-loop-i : goal.invariant-loop-i
invariant-loop-i l = record { lexemes : lexemes_of (drop l.i l.bytes) ≡ lexemes_of l.bytes; passed : unspaced (drop l.i l.bytes) ≡ unspaced l.bytes }
