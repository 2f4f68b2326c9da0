use Rattle.pr_interpreter.proofs.SymbolLemmas.{keyword_some, no_token, token_is, token_is_not, token_start}
use Rattle.pr_interpreter.proofs.symbols.typed_keyword.Goals as goal

pub loop-token-init : goal.loop-token-init
loop-token-init c = token_start _

pub returns-then-begins-clause-value : goal.returns-then-begins-clause-value
returns-then-begins-clause-value c =
    token_is c.loop-token.token _ _ _ _ c.loop-token-test.true c.token_name-word.ensures c.begins.ensures.test
    c.if-begins.true c.loop-token.invariant

pub returns-then-begins-clause-some : goal.returns-then-begins-clause-some
returns-then-begins-clause-some c =
    keyword_some c.loop-token.token _ c.loop-token.auto.token c.loop-token-test.true c.token_name-word.ensures

pub loop-token-preserved : goal.loop-token-preserved
loop-token-preserved c =
    token_is_not c.loop-token.token _ _ _ _ c.loop-token-test.true c.token_name-word.ensures c.begins.ensures.test
    c.if-begins.false c.loop-token.invariant

pub returns-clause-value : goal.returns-clause-value
returns-clause-value c = no_token c.loop-token.token _ _ c.loop-token-test.false c.loop-token.invariant
