use Rattle.std.proofs.Common.{◌≡◌, drop}
use Rattle.clap.specs.Words.{app_of}
use Rattle.pr_options.specs.CommandLine.{print1525}
use Rattle.pr_options.specs.Subcommands.{IsLocal, with_subcommands}
use Rattle.pr_options.proofs.clap_command.make_command.Given as goal

-- with the subcommands that are left it is the whole program
abbrev pub invariant-loop-which : goal.invariant-loop-which
invariant-loop-which l = record {
  app : with_subcommands (app_of l.whole) (drop l.which-index l.all) ≡ print1525;
  local : IsLocal l.whole;
}
