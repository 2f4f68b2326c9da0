use Rattle.std.proofs.Common.{◌≡◌, ◌∙◌, ap, refl, Option, Some, None}
use Rattle.std.specs.Prelude.{ok_or, option_map}
use Rattle.pr_capture.specs.declared.signals.Signals.{Signals}
use Rattle.pr_options.specs.SignalNames.{names_of, names_of_signals}
use Rattle.pr_options.specs.Steps.{signals_result}
use Rattle.pr_options.specs.declared.command_line.JobFault.{JobFault}
use Rattle.pr_options.specs.declared.command_line.JobFault.TheVariants as fault
use Rattle.pr_options.specs.declared.options.Opt.TheVariants.{Names}
use Rattle.pr_options.proofs.values_given.signals_in.Goals as goal

-- names are seen before a missing one becomes a fault, or after
names_first : (o : Option Signals) (f : JobFault) → signals_result (ok_or o f) ≡ ok_or (option_map names_of_signals o) f
names_first None f = refl
names_first (Some s) f = refl

pub returns-clause-names : goal.returns-clause-names
returns-clause-names c =
    ap signals_result c.ok_or.ensures.value ∙ names_first c.read_signals.result (fault.Bad Names)
    ∙ ap (λ o. ok_or o (fault.Bad Names)) (c.read_signals.ensures.names ∙ ap names_of c.value_in.ensures)
