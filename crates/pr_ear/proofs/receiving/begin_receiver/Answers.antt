use Rattle.std.proofs.Common.{refl}
use Rattle.pr_ear.proofs.Receivers.{begun-for}
use Rattle.pr_ear.proofs.receiving.begin_receiver.Goals as goal

pub returns-then-is_device-clause-begun : goal.returns-then-is_device-clause-begun
returns-then-is_device-clause-begun c = begun-for c.args.device _ (c.is_device.ensures.yes.0 c.if-is_device.true) c.begin_decoder.ensures refl refl refl
