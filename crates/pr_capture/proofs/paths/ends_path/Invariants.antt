use Rattle.std.proofs.Common.{◌≡◌, drop}
use Rattle.pr_capture.specs.VcdReading.{ends_path}
use Rattle.pr_capture.proofs.paths.ends_path.Given as goal

-- what is left of the path decides
abbrev pub invariant-loop-i : goal.invariant-loop-i
invariant-loop-i l = ends_path l.name (drop l.i l.path) ≡ ends_path l.name l.path
