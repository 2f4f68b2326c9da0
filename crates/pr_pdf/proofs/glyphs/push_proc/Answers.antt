use Rattle.std.proofs.Common.{◌≡◌, ◌+◌, ◌∙◌, ap, arith, sym, true, false, append-nil}
use Rattle.std.specs.Prelude.{slice_index_or}
use Rattle.std.proofs.lemmas.Grind.{common_steps}
use Rattle.pr_pdf.proofs.Numbers.{before_unused, object_more, proc_is, unused_one}
use Rattle.pr_pdf.proofs.glyphs.push_proc.Goals as goal

pub returns-then-not-has-clause-proc : goal.returns-then-not-has-clause-proc
returns-then-not-has-clause-proc c =
    let is : slice_index_or c.args.used.now c.args.number false ≡ false = grind (arith, c.has.ensures, c.if-not-has.true) in
    rw (unused_one c.args.used.now c.args.number is) (sym (append-nil c.args.text.now.items))

pub returns-then-not-has-clause-next : goal.returns-then-not-has-clause-next
returns-then-not-has-clause-next c =
    let is : slice_index_or c.args.used.now c.args.number false ≡ false = grind (arith, c.has.ensures, c.if-not-has.true) in
    c.requires.object ∙ ap (λ n. 19 + n) (sym (before_unused c.args.used.now c.args.number is))

pub returns-clause-proc : goal.returns-clause-proc
returns-clause-proc c =
    let is : slice_index_or c.args.used.now c.args.number false ≡ true = grind (arith, c.has.ensures, c.if-not-has.false) in
    grind (arith, common_steps, proc_is c.args.used.now c.args.number c.args.object c.requires.object is)

pub returns-clause-next : goal.returns-clause-next
returns-clause-next c =
    let is : slice_index_or c.args.used.now c.args.number false ≡ true = grind (arith, c.has.ensures, c.if-not-has.false) in
    object_more c.args.used.now c.args.number c.args.object c.requires.object is
