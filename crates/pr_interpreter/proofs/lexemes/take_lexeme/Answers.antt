use Rattle.pr_interpreter.proofs.LexemeLemmas.{lexeme_taken}
use Rattle.pr_interpreter.proofs.lexemes.take_lexeme.Goals as goal

pub returns-clause-lexemes : goal.returns-clause-lexemes
returns-clause-lexemes c =
    lexeme_taken _ _ _ _ _ _ c.requires c.word_of-word.ensures.value c.word_of-word.ensures.some
    c.in_ok-push.ensures.items
