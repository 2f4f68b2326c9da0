use Rattle.std.proofs.Common.{append-nil, sym}
use Rattle.pr_interpreter.proofs.SymbolLemmas.{front_taken}
use Rattle.pr_interpreter.proofs.symbols.take_front.Goals as goal

pub returns-in_ok-push-clause-symbols : goal.returns-in_ok-push-clause-symbols
returns-in_ok-push-clause-symbols c =
    front_taken _ _ _ _ _ _ _ c.requires.some c.front_of-front.ensures.value c.front_of-front.ensures.some c.in-Some.is
    c.in_ok-push.ensures.items

pub returns-in_default-clause-symbols : goal.returns-in_default-clause-symbols
returns-in_default-clause-symbols c =
    front_taken _ _ _ _ _ _ _ c.requires.some c.front_of-front.ensures.value c.front_of-front.ensures.some
    c.in_default.is (sym (append-nil _))
