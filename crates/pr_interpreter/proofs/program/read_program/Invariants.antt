use Rattle.std.proofs.Common.{◌≡◌, drop}
use Rattle.pr_interpreter.specs.Programs.{each_line, program}
use Rattle.pr_interpreter.proofs.program.read_program.Given as goal

abbrev pub invariant-lines : goal.invariant-lines
invariant-lines l = each_line l.text l.found.items (drop l.line-index l.line-items) ≡ program l.text
