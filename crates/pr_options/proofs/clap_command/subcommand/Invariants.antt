use Rattle.std.proofs.Common.{◌≡◌, drop}
use Rattle.clap.specs.Words.{app_of}
use Rattle.pr_options.specs.CommandLine.{subcommand}
use Rattle.pr_options.specs.Subcommands.{IsLocal, alone, with_options}
use Rattle.pr_options.proofs.clap_command.subcommand.Given as goal

-- with the options that are left it is the whole subcommand
abbrev pub invariant-loop-opt : goal.invariant-loop-opt
invariant-loop-opt l = record {
  app : with_options (app_of l.whole) (drop l.opt-index l.options) ≡ alone (subcommand l.fn.which);
  local : IsLocal l.whole;
}
