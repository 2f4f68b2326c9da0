use Rattle.std.proofs.Common.{ap, ap₂, sym, ◌∙◌}
use Rattle.std.proofs.lemmas.List.{drop_all}
use Rattle.clap.specs.Words.{app_of}
use Rattle.pr_options.specs.Subcommands.{with_files, with_options}
use Rattle.pr_options.proofs.CommandLemmas.{both_local, one_option, options_are}
use Rattle.pr_options.proofs.clap_command.subcommand.Goals as goal

pub loop-opt-init : goal.loop-opt-init
loop-opt-init c = record {
  app = ap₂ with_options (c.in_ok-whole.ensures.app ∙ ap with_files c.name-name.ensures) c.options-options.ensures ∙ options_are c.args.which;
  local = c.in_ok-whole.ensures.local;
}

pub loop-opt-preserved : goal.loop-opt-preserved
loop-opt-preserved c = record {
  app = one_option (app_of c.loop-opt.whole) (app_of c.in_ok-whole-2.whole) c.options-options.result.now c.loop-opt.opt-index _ _ _ c.loop-opt-test.true
      (c.in_ok-whole-2.ensures.shape c.option_argument.ensures.local) c.option_argument.ensures.rule c.loop-opt.invariant.app;
  local = both_local _ _ _ c.in_ok-whole-2.ensures.globals c.loop-opt.invariant.local c.option_argument.ensures.local;
}

pub returns-clause-app : goal.returns-clause-app
returns-clause-app c =
    ap (with_options (app_of c.loop-opt.whole)) (sym (drop_all c.loop-opt.opt-index c.options-options.result.now c.loop-opt-test.false)) ∙ c.loop-opt.invariant.app
