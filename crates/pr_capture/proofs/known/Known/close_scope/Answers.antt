use Rattle.std.proofs.Common.{arith}
use Rattle.pr_capture.proofs.VcdWords.{words-cut}
use Rattle.pr_capture.proofs.known.Known.close_scope.Goals as goal

pub returns-clause-scopes : goal.returns-clause-scopes
returns-clause-scopes c =
    words-cut c.args.self.now.scopes.items _ _ c.truncate.ensures.items (omega (arith, c.saturating_sub.ensures, c.len-len.ensures, c.args.self.now.scopes.ok))
