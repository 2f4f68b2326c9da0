use Rattle.std.proofs.Common.{sym, ◌∙◌}
use Rattle.pr_wire.proofs.ReadLaws.{ends_faulty, ends_line, ends_whole}
use Rattle.pr_wire.proofs.reader.TraceReader.finish.Goals as goal

pub returns-then-is_nothing-clause-ends : goal.returns-then-is_nothing-clause-ends
returns-then-is_nothing-clause-ends c = ends_whole c.args.self (sym c.is_nothing.ensures ∙ c.if-is_nothing.true)

pub returns-in_err-edge-clause-ends : goal.returns-in_err-edge-clause-ends
returns-in_err-edge-clause-ends c =
    ends_faulty c.args.self c.from_residual.result c.in_err-edge.field-0.0 (sym c.is_nothing.ensures ∙ c.if-is_nothing.false) c.from_residual.ensures.1 c.in_err-edge.ensures.refused

pub returns-clause-ends : goal.returns-clause-ends
returns-clause-ends c =
    ends_line c.args.self c.end_line.new.self c.in_ok-edge.edge (sym c.is_nothing.ensures ∙ c.if-is_nothing.false) c.in_ok-edge.ensures.part c.in_ok-edge.ensures.read
