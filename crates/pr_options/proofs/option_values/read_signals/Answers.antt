use Rattle.std.proofs.Common.{◌∙◌, sym, true, false, lit<}
use Rattle.pr_options.proofs.NameLemmas.{names_by, no_names, trimmed_is}
use Rattle.pr_options.proofs.PartLemmas.{mark_told}
use Rattle.pr_options.proofs.option_values.read_signals.Goals as goal

pub returns-then-contains-clause-names : goal.returns-then-contains-clause-names
returns-then-contains-clause-names c =
    sym (no_names c.args.text.now c.cut.result.1.now c.cut-2.result.1.now c.cut.ensures.behind c.cut-2.ensures.behind
    (mark_told 44 c.cut-2.result.1.now true (lit< tt) c.if-contains.ensures.cases))

pub returns-clause-names : goal.returns-clause-names
returns-clause-names c =
    c.signals_named.ensures.names
    ∙ sym (names_by c.args.text.now c.cut.result.0.now c.cut.result.1.now c.cut-2.result.0.now c.cut-2.result.1.now
    c.trim_ascii.result.now c.trim_ascii-2.result.now c.trim_ascii-3.result.now
    c.cut.ensures.before c.cut.ensures.behind c.cut-2.ensures.before c.cut-2.ensures.behind
    (trimmed_is c.cut.result.0.now c.trim_ascii.result.now c.trim_ascii.ensures.value)
    (trimmed_is c.cut-2.result.0.now c.trim_ascii-2.result.now c.trim_ascii-2.ensures.value)
    (trimmed_is c.cut-2.result.1.now c.trim_ascii-3.result.now c.trim_ascii-3.ensures.value)
    (mark_told 44 c.cut-2.result.1.now false (lit< tt) c.if-contains.ensures.cases))
