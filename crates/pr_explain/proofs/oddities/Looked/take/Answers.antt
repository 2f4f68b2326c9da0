use Rattle.pr_explain.specs.declared.oddities.Looked.{Looked}
use Rattle.pr_explain.proofs.OddLemmas.{looked_on}
use Rattle.pr_explain.proofs.oddities.Looked.take.Goals as goal

pub returns-in-Ok-clause-looked : goal.returns-in-Ok-clause-looked
returns-in-Ok-clause-looked c =
    let new : Looked = record { decoder = c.take.new.self; lines = c.take-in-Ok.new.self; has_byte = c.with_byte-self.result } in
    looked_on c.args.self.now new c.args.edge c.in-Ok.reading c.in-Ok.ensures.read c.take-in-Ok.ensures c.with_byte-self.ensures
