use Rattle.std.proofs.Common.{◌∙◌, ap, map, sym}
use Rattle.std.specs.Prelude.{option_map}
use Rattle.pr_options.proofs.CommandLemmas.{value_by_fault}
use Rattle.pr_options.proofs.command_line.bad_value.Goals as goal

pub returns-in-Some : goal.returns-in-Some
returns-in-Some c =
    value_by_fault c.given_to.result c.in-Some.opt (map (λ s. s.now) c.args.words.now) c.args.fault.now (sym c.in-Some.is ∙ c.option.ensures) c.given_to.ensures
