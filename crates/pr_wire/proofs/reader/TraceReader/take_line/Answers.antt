use Rattle.std.proofs.Common.{refl, sym, ◌∙◌}
use Rattle.pr_wire.proofs.ReadLaws.{read_whole}
use Rattle.pr_wire.proofs.reader.TraceReader.take_line.Goals as goal

pub returns-clause-read : goal.returns-clause-read
returns-clause-read c =
    read_whole c.args.self.now _ c.args.block.now c.in_ok-line.line (sym c.is_nothing.ensures ∙ c.if-not-is_nothing.false) (sym c.read_next.ensures.line ∙ c.in_ok-line.was) refl refl
