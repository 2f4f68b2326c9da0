use Rattle.pr_ear.proofs.decoding.print1525_decode_end.Goals as goal

pub returns-clause-tells : goal.returns-clause-tells
returns-clause-tells c = λ edges given h. (
  c.end_decoder-cut.result,
  c.end_decoder-cut.ensures edges given h,
  c.numbers_of_reading.ensures,
  c.settled.ensures,
)
