use Rattle.std.proofs.Common.{ap}
use Rattle.pr_run.specs.declared.place.Place.{Place}
use Rattle.pr_run.specs.Seen.{state_of}
use Rattle.pr_run.proofs.PlaceLemmas.{truth_place}
use Rattle.pr_run.proofs.jumps.if_statement.Goals as goal

pub branch-program-requires : goal.branch-program-requires
branch-program-requires c =
    let same =
    truth_place c.args.program.now (state_of c.args.run.now) _ c.args.condition.now _ c.in_ok-answer.ensures.ok in
    rw (ap (λ (p : Place). p.line) same) c.requires
