-- Words of calls: what a fault of a value of --delays is to the command line. Who uses this `From` by itself believes it; no claim rests
-- on it.
use Rattle.pr_options.specs.declared.delays.DelayFault.{DelayFault}
use Rattle.pr_options.specs.declared.delays.DelayFault.TheVariants as delay
use Rattle.pr_options.specs.declared.command_line.JobFault.{JobFault}
use Rattle.pr_options.specs.declared.command_line.JobFault.TheVariants as job

-- a fault of a value of --delays, to the command line
abbrev pub fault_of_delays : DelayFault → JobFault
fault_of_delays delay.BadDelays = job.BadDelays
fault_of_delays delay.NoMemory = job.NoMemory
