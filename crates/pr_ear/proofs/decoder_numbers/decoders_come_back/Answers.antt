use Rattle.pr_ear.proofs.DecodersStored.{decoder-back}
use Rattle.pr_ear.proofs.decoder_numbers.decoders_come_back.Goals as goal

pub returns : goal.returns
returns c = decoder-back
