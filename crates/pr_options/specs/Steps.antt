-- Linking words, for proofs: what each part of the reading returns. No reader needs to believe them.
use Rattle.std.specs.Prelude.{◌≡◌, ◌≢◌, ◌⊎◌, ⊤, List, Option, Result, Err, option_map}
use Rattle.std.specs.Result.{result_map_both}
use Rattle.clap.specs.Words.{Row, Text, kind_of}
use Rattle.clap.specs.declared.error.Error.{Error}
use Rattle.clap.specs.declared.error.kind.ErrorKind.TheVariants.{OutOfMemory}
use Rattle.pr_capture.specs.declared.signals.Signals.{Signals}
use Rattle.pr_options.specs.Jobs.{JobView, RunView, TaskView, job_view, view_of_run, wanted_task}
use Rattle.pr_options.specs.SignalNames.{Names, names_of_signals}
use Rattle.pr_options.specs.declared.command_line.Job.{Job}
use Rattle.pr_options.specs.declared.command_line.JobFault.{JobFault}
use Rattle.pr_options.specs.declared.command_line.JobFault.TheVariants as fault
use Rattle.pr_options.specs.declared.command_line.Run.{Run}

-- memory was refused, or the fault is the one that is wanted
abbrev pub IsFaultIn : {A : Type 0} → Result A JobFault → JobFault → Type 0
IsFaultIn wanted f = (f ≡ fault.NoMemory) ⊎ (wanted ≡ Err f)

-- the plain values of how a script is run
abbrev pub run_view : Run → RunView
run_view run = view_of_run run.present run.delays run.mode

-- a job in plain values, or its fault
abbrev pub job_result : Result Job JobFault → Result JobView JobFault
job_result r = result_map_both job_view (λ f. f) r

-- the names of signals, or their fault
abbrev pub signals_result : Result Signals JobFault → Result Names JobFault
signals_result r = result_map_both names_of_signals (λ f. f) r

-- the subcommand met, with the rows of its options
abbrev pub Met : Type 0
Met = Option (Text × List Row)

-- the job that the subcommand met is to do, with its files
abbrev pub wanted_of : Met → Option (Result TaskView JobFault)
wanted_of met = option_map (λ m. wanted_task m.0 m.1) met

-- what a refusal by clap is to the command line
abbrev pub IsOfClap : Error → JobFault → Type 0
IsOfClap error (fault.Line e) = (e ≡ error) × (kind_of error ≢ OutOfMemory)
IsOfClap error fault.NoMemory = ⊤
IsOfClap error _ = ⊥

-- a fault that is none of clap's
abbrev pub IsOwn : JobFault → Type 0
IsOwn (fault.Line e) = ⊥
IsOwn _ = ⊤
