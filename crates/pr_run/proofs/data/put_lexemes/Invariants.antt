use Rattle.std.proofs.Common.{◌≡◌, ◌++◌, true, drop}
use Rattle.pr_run.specs.Data.{lexeme_items}
use Rattle.pr_run.proofs.data.put_lexemes.Given as goal

abbrev pub invariant-each : goal.invariant-each
invariant-each l =
    l.found.items ++ lexeme_items l.text l.line l.begins (drop l.lexeme-index l.lexemes)
    ≡ l.fn.found.items ++ lexeme_items l.text l.line true l.lexemes
