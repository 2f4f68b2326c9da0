-- Linking words: a lexeme of the code, without the place of its bytes. No reader needs to believe it.
use Rattle.pr_basic.specs.Lexemes as spec
use Rattle.pr_basic.specs.declared.lexemes.Lexeme.{Lexeme}
use Rattle.pr_basic.specs.declared.lexemes.Lexeme.TheVariants.{Word, Remark, Digits, Quoted, Comma, Semicolon, Colon, OpenParen, CloseParen, Stray}

-- the lexeme with its bytes alone
abbrev pub seen : Lexeme → spec.Lexeme
seen (Word k) = spec.Word k
seen Remark = spec.Remark
seen (Digits ds) = spec.Digits ds.now
seen (Quoted bs) = spec.Quoted bs.now
seen Comma = spec.Comma
seen Semicolon = spec.Semicolon
seen Colon = spec.Colon
seen OpenParen = spec.OpenParen
seen CloseParen = spec.CloseParen
seen Stray = spec.Stray
