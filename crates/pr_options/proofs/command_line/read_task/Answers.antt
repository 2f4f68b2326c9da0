use Rattle.std.proofs.Common.{◌≡◌, ◌⊎◌, ap, ◌∙◌, map, subst, IfErr, IfOk, Some, Ok, Err}
use Rattle.clap.specs.Words.{App, takes}
use Rattle.pr_options.specs.Jobs.{task_view}
use Rattle.pr_options.specs.Steps.{Met, wanted_of}
use Rattle.pr_options.specs.declared.command_line.JobFault.TheVariants as fault
use Rattle.pr_options.proofs.CommandLemmas.{has_kind, met_is, no_fault}
use Rattle.pr_options.proofs.FaultLemmas.{bad_is, on_ok, refused_is}
use Rattle.pr_options.proofs.command_line.read_task.Goals as goal

pub returns-in-Ok-try_get_matches_from-clause-ok : goal.returns-in-Ok-try_get_matches_from-clause-ok
returns-in-Ok-try_get_matches_from-clause-ok c =
    let words = map (λ s. s.now) c.args.words.now in
    let P : Met → Type 0 = λ m. IfOk c.task_of.result (λ task. wanted_of m ≡ Some (Ok (task_view task))) in
    subst P (met_is _ words c.in-Ok-try_get_matches_from.matches c.in-Ok.ensures.app c.in-Ok-try_get_matches_from.ensures.matches) c.task_of.ensures.ok

pub returns-in-Ok-try_get_matches_from-clause-bad : goal.returns-in-Ok-try_get_matches_from-clause-bad
returns-in-Ok-try_get_matches_from-clause-bad c =
    let words = map (λ s. s.now) c.args.words.now in
    let P : Met → Type 0 = λ m. IfErr c.task_of.result (λ f. (f ≡ fault.NoMemory) ⊎ (wanted_of m ≡ Some (Err f))) in
    bad_is words c.task_of.result
    (subst P (met_is _ words c.in-Ok-try_get_matches_from.matches c.in-Ok.ensures.app c.in-Ok-try_get_matches_from.ensures.matches) c.task_of.ensures.bad)
    c.task_of.ensures.own
    (no_fault _ words c.in-Ok.ensures.app c.in-Ok-try_get_matches_from.ensures.kinds)

pub returns-in-Ok-try_get_matches_from-clause-taken : goal.returns-in-Ok-try_get_matches_from-clause-taken
returns-in-Ok-try_get_matches_from-clause-taken c =
    let words = map (λ s. s.now) c.args.words.now in
    on_ok c.task_of.result (no_fault _ words c.in-Ok.ensures.app c.in-Ok-try_get_matches_from.ensures.kinds)

pub returns-in-Err-clause-bad : goal.returns-in-Err-clause-bad
returns-in-Err-clause-bad c =
    let words = map (λ s. s.now) c.args.words.now in
    refused_is words c.in-Err.error c.refused_by_clap.result c.refused_by_clap.ensures
    (λ t. c.in-Err.ensures.passes (ap (λ (a : App). takes a words) c.in-Ok.ensures.app ∙ t))
    (has_kind _ words c.in-Err.error c.in-Ok.ensures.app c.in-Err.ensures.kinds)
