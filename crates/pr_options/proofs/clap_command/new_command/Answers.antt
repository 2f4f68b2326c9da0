use Rattle.std.proofs.Common.{ap, ◌∙◌, Bool}
use Rattle.clap.specs.declared.Command.{Command}
use Rattle.clap.specs.declared.Command.TheOpen.{Command-F}
use Rattle.clap.specs.Simple.{app_of_fields}
use Rattle.pr_options.proofs.clap_command.new_command.Goals as goal

globals : Command-F Command → Bool
globals f = f.has_globals

pub returns-clause-app : goal.returns-clause-app
returns-clause-app c = ap app_of_fields c.after_help.ensures ∙ ap app_of_fields c.override_usage.ensures ∙ ap app_of_fields c.about.ensures ∙ c.new.ensures.app

pub returns-clause-local : goal.returns-clause-local
unfolding globals
returns-clause-local c = ap globals c.after_help.ensures ∙ ap globals c.override_usage.ensures ∙ ap globals c.about.ensures ∙ c.new.ensures.local
