use Rattle.std.proofs.Common.{◌≡◌, ◌+◌, drop, false}
use Rattle.pr_listing.specs.Typed.{before_remark}
use Rattle.pr_listing.proofs.typed.before_remark.Given as goal

-- no remark begins so far
abbrev pub invariant-loop-i : goal.invariant-loop-i
invariant-loop-i l = before_remark false l.line ≡ l.i + before_remark l.quoted (drop l.i l.line)
