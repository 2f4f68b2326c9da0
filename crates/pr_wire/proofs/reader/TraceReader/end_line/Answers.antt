use Rattle.std.proofs.Common.{refl, sym, ◌∙◌}
use Rattle.pr_wire.proofs.ReadLaws.{faulty_end, read_end}
use Rattle.pr_wire.proofs.reader.TraceReader.end_line.Goals as goal

pub returns-in_default-clause-refused : goal.returns-in_default-clause-refused
returns-in_default-clause-refused c = faulty_end c.args.self.now _ (sym c.edge.ensures ∙ c.in_default.is) refl

pub returns-clause-read : goal.returns-clause-read
returns-clause-read c = read_end c.args.self.now _ c.in-Some.edge (sym c.edge.ensures ∙ c.in-Some.is) refl refl
