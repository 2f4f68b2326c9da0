use Rattle.std.proofs.Common.{length}
use Rattle.pr_interpreter.specs.LineLaws.{AreWithin}
use Rattle.pr_interpreter.proofs.WithinLemmas.{within_at}
use Rattle.pr_interpreter.proofs.program.read_program.Goals as goal

pub take_line-requires : goal.take_line-requires
take_line-requires c =
    let all : AreWithin (length c.args.text.now) c.as_slice-line-items.result.now =
    rw c.as_slice-line-items.ensures.value c.in_ok-lines.ensures.within in
    within_at (length c.args.text.now) c.as_slice-line-items.result.now c.lines.line-index _ all c.lines-test.true
