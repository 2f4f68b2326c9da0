use Rattle.clap.specs.Words.{found_of}
use Rattle.pr_options.proofs.CommandLemmas.{text_is}
use Rattle.pr_options.proofs.values_given.given_value.Goals as goal

pub returns : goal.returns
returns c = text_is c.get_str.result c.args.row.default (found_of c.args.options.now) c.args.row.name.now c.unwrap_or.result c.unwrap_or.ensures c.get_str.ensures
