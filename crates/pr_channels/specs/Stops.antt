-- Trusted: the numbers of the stops.
use Rattle.std.specs.Prelude.{ℕ}
use Rattle.pr_channels.specs.declared.faults.Stop.{Stop}
use Rattle.pr_channels.specs.declared.faults.Stop.TheVariants.{TooManyFiles, FileOpen, FileNotOpen, DeviceNotPresent, NotInputFile}

-- the number of a stop: that of the BASIC error
abbrev pub stop_number : Stop → ℕ
stop_number TooManyFiles = 1
stop_number FileOpen = 2
stop_number FileNotOpen = 3
stop_number DeviceNotPresent = 5
stop_number NotInputFile = 6
