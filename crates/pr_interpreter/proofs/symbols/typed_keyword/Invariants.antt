use Rattle.std.proofs.Common.{◌≡◌, ◌-◌}
use Rattle.pr_interpreter.specs.Symbols.{first_token, typed_token}
use Rattle.pr_interpreter.proofs.symbols.typed_keyword.Given as goal

abbrev pub invariant-loop-token : goal.invariant-loop-token
invariant-loop-token l = first_token l.token (204 - l.token) l.text ≡ typed_token l.text
