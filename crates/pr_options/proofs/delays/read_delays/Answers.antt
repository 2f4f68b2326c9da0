use Rattle.std.proofs.Common.{◌∙◌, ap, true, false, Err, lit<}
use Rattle.pr_options.proofs.DelayLemmas.{all_good, bad_first, bad_second, bad_third, delays_by, same_fault, too_many}
use Rattle.pr_options.specs.declared.delays.DelayFault.TheVariants.{BadDelays}
use Rattle.pr_options.proofs.PartLemmas.{mark_told}
use Rattle.pr_options.proofs.delays.read_delays.Goals as goal

pub returns-then-contains-clause-bad : goal.returns-then-contains-clause-bad
returns-then-contains-clause-bad c = λ e.
    too_many c.args.text.now c.cut.result.1.now c.cut-2.result.1.now c.cut.ensures.behind c.cut-2.ensures.behind (mark_told 47 c.cut-2.result.1.now true (lit< tt) c.if-contains.ensures.cases)

pub returns-in_err-read_list-clause-bad : goal.returns-in_err-read_list-clause-bad
returns-in_err-read_list-clause-bad c = λ e.
    delays_by c.args.text.now c.cut.result.0.now c.cut.result.1.now c.cut-2.result.0.now c.cut-2.result.1.now c.cut.ensures.before c.cut.ensures.behind c.cut-2.ensures.before c.cut-2.ensures.behind
    (mark_told 47 c.cut-2.result.1.now false (lit< tt) c.if-contains.ensures.cases)
    ∙ bad_first c.cut.result.0.now c.cut-2.result.0.now c.cut-2.result.1.now (c.in_err-read_list.ensures.bad (ap Err (same_fault c.from_residual.result c.in_err-read_list.field-0.0 BadDelays c.from_residual.ensures.1 e)))

pub returns-in_err-read_list-2-clause-bad : goal.returns-in_err-read_list-2-clause-bad
returns-in_err-read_list-2-clause-bad c = λ e.
    delays_by c.args.text.now c.cut.result.0.now c.cut.result.1.now c.cut-2.result.0.now c.cut-2.result.1.now c.cut.ensures.before c.cut.ensures.behind c.cut-2.ensures.before c.cut-2.ensures.behind
    (mark_told 47 c.cut-2.result.1.now false (lit< tt) c.if-contains.ensures.cases)
    ∙ bad_second c.cut.result.0.now c.cut-2.result.0.now c.cut-2.result.1.now c.in_ok-read_list.ensures.list
    (c.in_err-read_list-2.ensures.bad (ap Err (same_fault c.from_residual-in_err-read_list-2.result c.in_err-read_list-2.field-0.0 BadDelays c.from_residual-in_err-read_list-2.ensures.1 e)))

pub returns-in_err-read_list-3-clause-bad : goal.returns-in_err-read_list-3-clause-bad
returns-in_err-read_list-3-clause-bad c = λ e.
    delays_by c.args.text.now c.cut.result.0.now c.cut.result.1.now c.cut-2.result.0.now c.cut-2.result.1.now c.cut.ensures.before c.cut.ensures.behind c.cut-2.ensures.before c.cut-2.ensures.behind
    (mark_told 47 c.cut-2.result.1.now false (lit< tt) c.if-contains.ensures.cases)
    ∙ bad_third c.cut.result.0.now c.cut-2.result.0.now c.cut-2.result.1.now c.in_ok-read_list.ensures.list c.in_ok-read_list-2.ensures.list
    (c.in_err-read_list-3.ensures.bad (ap Err (same_fault c.from_residual-in_err-read_list-3.result c.in_err-read_list-3.field-0.0 BadDelays c.from_residual-in_err-read_list-3.ensures.1 e)))

pub returns-clause-ok : goal.returns-clause-ok
returns-clause-ok c =
    delays_by c.args.text.now c.cut.result.0.now c.cut.result.1.now c.cut-2.result.0.now c.cut-2.result.1.now c.cut.ensures.before c.cut.ensures.behind c.cut-2.ensures.before c.cut-2.ensures.behind
    (mark_told 47 c.cut-2.result.1.now false (lit< tt) c.if-contains.ensures.cases)
    ∙ all_good c.cut.result.0.now c.cut-2.result.0.now c.cut-2.result.1.now _ c.in_ok-read_list.ensures.list c.in_ok-read_list-2.ensures.list c.in_ok-read_list-3.ensures.list
    c.in_ok-read_list.ensures.left c.in_ok-read_list-2.ensures.left c.in_ok-read_list-3.ensures.left
