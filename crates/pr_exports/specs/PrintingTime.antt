-- Trusted: the speed of a printer that numbers mean.
use Rattle.pr_device.specs.declared.printing.Speed.{Speed}
use Rattle.pr_exports.specs.Devices.{or_usual}
use Rattle.pr_exports.specs.declared.printing_time.WireSpeed.{WireSpeed}

-- a figure that is 0 is that of the VIC-1525 User's Manual: 180 columns in a second, 1/5 second for a line feed
abbrev pub speed_by : WireSpeed → Speed
speed_by s = record { columns = or_usual s.columns 180; feed = or_usual s.feed 200000 }
