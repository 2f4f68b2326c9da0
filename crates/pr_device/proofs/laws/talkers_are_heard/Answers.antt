use Rattle.std.proofs.Common.{ap, ◌∙◌}
use Rattle.std.specs.Prelude.{reverse}
use Rattle.pr_device.specs.Events.{events_of}
use Rattle.pr_device.specs.Talkers.{moments_of}
use Rattle.pr_device.proofs.Hearing.{histories-heard}
use Rattle.pr_device.proofs.Talking.{talkers-say}
use Rattle.pr_device.proofs.laws.talkers_are_heard.Goals as goal

pub returns : goal.returns
returns c = λ wait device atn turns w.
    histories-heard wait device (reverse (moments_of turns)) ∙ ap (events_of device) (talkers-say wait atn turns w)
