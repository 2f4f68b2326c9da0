-- Trusted: the fault of an option's bad value, that value, and the values of the option as its help says them.
use Rattle.std.specs.Prelude.{List, Option, Some, None, option_and_then, option_map}
use Rattle.clap.specs.Words.{Text, subcommand_of}
use Rattle.pr_options.specs.CommandLine.{print1525}
use Rattle.pr_options.specs.Given.{value_in}
use Rattle.pr_options.specs.Rows.{row}
use Rattle.pr_options.specs.declared.options.Opt.{Opt}
use Rattle.pr_options.specs.declared.options.Opt.TheVariants as opt
use Rattle.pr_options.specs.declared.command_line.JobFault.{JobFault}
use Rattle.pr_options.specs.declared.command_line.JobFault.TheVariants as fault

-- the fault of an option that has a bad value
abbrev pub bad : Opt → JobFault
bad opt.Present = fault.BadPresent
bad opt.Delays = fault.BadDelays
bad opt.Status = fault.BadStatus
bad o = fault.Bad o

-- the option of which a value is bad
abbrev pub option_of : JobFault → Option Opt
option_of fault.BadPresent = Some opt.Present
option_of fault.BadDelays = Some opt.Delays
option_of fault.BadStatus = Some opt.Status
option_of (fault.Bad o) = Some o
option_of _ = None

-- the values of the option that has a bad value; for any other fault none
abbrev pub values_of : JobFault → Option Text
values_of f = option_map (λ o. (row o).help) (option_of f)

-- the good values in the line of the fault, which names the bad one too; the texts of the other lines are fixed
abbrev pub good_values_of : JobFault → Option Text
good_values_of (fault.Bad o) = Some (row o).values
good_values_of _ = None

-- the value that words give an option, by the subcommand that they name
abbrev pub value_given : List Text → Opt → Option Text
value_given words o =
    option_map (value_in o) (option_map (λ met. met.1) (subcommand_of print1525 words))

-- the value that words give the option of which the fault says that it is a bad one
abbrev pub bad_value : List Text → JobFault → Option Text
bad_value words f = option_and_then (value_given words) (option_of f)
