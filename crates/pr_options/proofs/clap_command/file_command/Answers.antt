use Rattle.std.proofs.Common.{ap₂, ◌∙◌}
use Rattle.clap.specs.Words.{with_rule}
use Rattle.pr_options.proofs.clap_command.file_command.Goals as goal

pub returns-clause-app : goal.returns-clause-app
returns-clause-app c =
    c.in_ok-whole.ensures.shape c.output_option.ensures.local
    ∙ ap₂ with_rule (c.in_ok-one.ensures.shape c.input_argument.ensures.local ∙ ap₂ with_rule c.new_command-command.ensures.app c.input_argument.ensures.rule)
    c.output_option.ensures.rule
