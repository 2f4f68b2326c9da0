use Rattle.pr_exports.proofs.InputNumbers.{bytes_are_inputs}
use Rattle.pr_exports.proofs.printing.bytes_are_inputs.Goals as goal

pub returns : goal.returns
returns c = bytes_are_inputs
