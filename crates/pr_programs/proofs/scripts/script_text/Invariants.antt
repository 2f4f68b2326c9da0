use Rattle.std.proofs.Common.{◌≡◌, ◌++◌, drop}
use Rattle.pr_programs.specs.Scripts.{script_text}
use Rattle.pr_programs.proofs.scripts.script_text.Given as goal

-- the text so far and that of the statements that are left are the whole
abbrev pub invariant-loop-done : goal.invariant-loop-done
invariant-loop-done l = l.text.items ++ script_text (drop l.done-index l.performed) ≡ script_text l.performed
