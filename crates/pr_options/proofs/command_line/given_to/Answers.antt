use Rattle.std.proofs.Common.{map}
use Rattle.clap.specs.Words.{subcommand_rows_of}
use Rattle.pr_options.proofs.CommandLemmas.{met_is, value_by_rows}
use Rattle.pr_options.proofs.command_line.given_to.Goals as goal

pub returns-in-Ok-try_get_matches_from : goal.returns-in-Ok-try_get_matches_from
returns-in-Ok-try_get_matches_from c =
    let words = map (λ s. s.now) c.args.words.now in
    value_by_rows c.value_of.result _ words (subcommand_rows_of c.in-Ok-try_get_matches_from.matches)
    (met_is _ words c.in-Ok-try_get_matches_from.matches c.in-Ok.ensures.app c.in-Ok-try_get_matches_from.ensures.matches) c.value_of.ensures
