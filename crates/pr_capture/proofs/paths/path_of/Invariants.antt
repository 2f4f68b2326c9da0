use Rattle.std.proofs.Common.{◌≡◌, ◌++◌, drop}
use Rattle.pr_capture.specs.VcdReading.{path_of}
use Rattle.pr_capture.specs.VcdSteps.{words_in}
use Rattle.pr_capture.proofs.paths.path_of.Given as goal

-- the path so far and that of the scopes left make the whole
abbrev pub invariant-loop-scope : goal.invariant-loop-scope
invariant-loop-scope l = l.path.items ++ path_of (words_in (drop l.scope-index l.scopes)) (words_in l.inside) ≡ path_of (words_in l.scopes) (words_in l.inside)
