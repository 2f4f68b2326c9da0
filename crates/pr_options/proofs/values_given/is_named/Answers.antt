use Rattle.std.proofs.Common.{◌∙◌}
use Rattle.clap.specs.Words.{found_of}
use Rattle.pr_options.proofs.CommandLemmas.{given_is}
use Rattle.pr_options.proofs.values_given.is_named.Goals as goal

pub returns : goal.returns
returns c = c.is_of_words.ensures ∙ given_is (found_of c.args.options.now) c.args.name.now c.value_source.result c.value_source.ensures
