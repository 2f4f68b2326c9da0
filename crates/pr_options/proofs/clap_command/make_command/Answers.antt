use Rattle.std.proofs.Common.{ap, ap₂, sym, ◌∙◌, ◌≡◌, codes, true, Bool}
use Rattle.std.proofs.lemmas.List.{drop_all}
use Rattle.clap.specs.Words.{App, app_of, new_app}
use Rattle.clap.specs.declared.Command.{Command}
use Rattle.clap.specs.declared.Command.TheOpen.{Command-F}
use Rattle.clap.specs.Simple.{Shape, app_of_fields, on_top}
use Rattle.pr_options.specs.Subcommands.{IsLocal, with_subcommands}
use Rattle.pr_options.proofs.CommandLemmas.{both_local, one_subcommand}
use Rattle.pr_options.proofs.clap_command.make_command.Goals as goal

abbrev versioned : Shape → Shape
versioned s = record s { has_version = true }

abbrev wanted : Shape → Shape
wanted s = record s { subcommand_required = true }

abbrev unhelped : Shape → Shape
unhelped s = record s { disable_help_subcommand = true }

-- whether a command has options for all, by its fields
globals : Command-F Command → Bool
globals f = f.has_globals

pub loop-which-init : goal.loop-which-init
unfolding globals
loop-which-init c =
    let program_is : app_of c.disable_help_subcommand-program.result ≡ on_top unhelped (on_top wanted (on_top versioned (new_app (codes "print1525")))) =
    ap app_of_fields c.disable_help_subcommand-program.ensures ∙ ap (on_top unhelped) (ap app_of_fields c.subcommand_required.ensures ∙ ap (on_top wanted) (ap app_of_fields c.version.ensures ∙ ap (on_top versioned) c.new_command.ensures.app)) in
    record {
      app = ap₂ with_subcommands program_is c.all-all.ensures;
      local = ap globals c.disable_help_subcommand-program.ensures ∙ ap globals c.subcommand_required.ensures ∙ ap globals c.version.ensures ∙ c.new_command.ensures.local;
    }

pub loop-which-preserved : goal.loop-which-preserved
loop-which-preserved c = record {
  app = one_subcommand (app_of c.loop-which.whole) (app_of c.in_ok-whole.whole) c.all-all.result.now c.loop-which.which-index _ _ _ c.loop-which-test.true
      (c.in_ok-whole.ensures.shape c.in_ok-made.ensures.local) (ap (λ (a : App). a.top) c.in_ok-made.ensures.app) c.loop-which.invariant.app;
  local = both_local _ _ _ c.in_ok-whole.ensures.globals c.loop-which.invariant.local c.in_ok-made.ensures.local;
}

pub returns-clause-app : goal.returns-clause-app
returns-clause-app c =
    ap (with_subcommands (app_of c.loop-which.whole)) (sym (drop_all c.loop-which.which-index c.all-all.result.now c.loop-which-test.false)) ∙ c.loop-which.invariant.app
