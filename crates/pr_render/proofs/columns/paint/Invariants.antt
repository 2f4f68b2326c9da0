use Rattle.std.proofs.Common.{◌≡◌, drop}
use Rattle.pr_render.specs.Plain.{painted}
use Rattle.pr_render.proofs.columns.paint.Given as goal

-- what is left, over what shows, gives the whole
abbrev pub invariant-loop-placed : goal.invariant-loop-placed
invariant-loop-placed l = painted l.look l.columns (drop l.placed-index l.marks) ≡ painted l.look l.initial.columns l.marks
