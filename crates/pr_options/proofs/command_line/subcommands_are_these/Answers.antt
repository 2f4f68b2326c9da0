use Rattle.pr_options.proofs.CommandLemmas.{subcommand_ours}
use Rattle.pr_options.proofs.command_line.subcommands_are_these.Goals as goal

pub returns : goal.returns
returns c = subcommand_ours
