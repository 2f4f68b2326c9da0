use Rattle.std.proofs.Common.{refl}
use Rattle.pr_exports.proofs.settings.source_for.Goals as goal

pub returns-in-3 : goal.returns-in-3
returns-in-3 c = rw (c.in-3.is, c.found_in.ensures) refl

pub returns-in-4 : goal.returns-in-4
returns-in-4 c = rw (c.in-4.is, c.found_in-in-4.ensures) refl
