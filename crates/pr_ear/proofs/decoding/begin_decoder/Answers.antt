use Rattle.pr_ear.proofs.decoding.begin_decoder.Goals as goal

pub returns : goal.returns
returns c = record { decoder = c.new.result; read = c.new.ensures.read; last = c.new.ensures.last; numbers = c.store.ensures }
