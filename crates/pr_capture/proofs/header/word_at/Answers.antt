use Rattle.std.proofs.Common.{sym, ap, ◌∙◌, Some}
use Rattle.pr_capture.proofs.VcdWords.{word-none, word-there}
use Rattle.pr_capture.proofs.header.word_at.Goals as goal

pub returns-then-place-inside : goal.returns-then-place-inside
returns-then-place-inside c =
    ap Some c.as_slice.ensures.value ∙ sym (word-there c.args.inside.now c.args.place c.index-inside-place.result c.if-place-inside.true c.index-inside-place.is)

pub returns-else-place-inside : goal.returns-else-place-inside
returns-else-place-inside c = sym (word-none c.args.inside.now c.args.place c.if-place-inside.false)
