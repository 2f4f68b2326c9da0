use Rattle.pr_exports.proofs.DevicesStored.{come-back}
use Rattle.pr_exports.proofs.device_numbers.devices_come_back.Goals as goal

pub returns : goal.returns
returns c = come-back
