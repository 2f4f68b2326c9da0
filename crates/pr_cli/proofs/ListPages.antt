-- A list of marks draws no characters.
use Rattle.std.proofs.Common.{ℕ, List, Option, Some, None, Result, Ok, Err, IfSome}
use Rattle.pr_dots.specs.declared.character_sets.Shapes.{Shapes}
use Rattle.pr_render.specs.declared.format.Format.TheVariants as format
use Rattle.pr_jobs.specs.Pages.{AnswersPages, RefusesPages}
use Rattle.pr_jobs.specs.Runs.{start_of}
use Rattle.pr_jobs.specs.declared.run.Ending.{Ending}
use Rattle.pr_jobs.specs.declared.run.Start.{Start}
use Rattle.pr_jobs.specs.declared.fault.CliFault.{CliFault}
use Rattle.pr_jobs.specs.declared.fault.CliFault.TheVariants.{Script, Trace, Wave, Capture, Picture, TooLarge, NoMemory, ReadFailed, WriteFailed}

-- a refusal of a run from the parts of its start, with some shapes, is that with others
refused_so : (own shapes : Shapes) (start : Start) (script : List ℕ) (old new : Option (List ℕ)) (fault : CliFault)
    → RefusesPages own (start_of start.present start.delays start.mode) format.List script old new fault → RefusesPages shapes start format.List script old new fault
refused_so own shapes start script old new (Script f) h = h
refused_so own shapes start script old new (Trace f) h = h
refused_so own shapes start script old new (Wave f) h = h
refused_so own shapes start script old new (Capture f) h = h
refused_so own shapes start script old new (Picture f) (short, is, keeps) =
    (short, record { outcome = is.outcome; statements = is.statements; is_script = is.is_script; is_outcome = is.is_outcome; is_unshown = is.is_unshown }, keeps)
refused_so own shapes start script old new TooLarge h = h
refused_so own shapes start script old new NoMemory h = h
refused_so own shapes start script old new ReadFailed h = h
refused_so own shapes start script old new WriteFailed (outcome, text, short, is, wrote) =
    (outcome, text, short, record { statements = is.statements; is_script = is.is_script; is_outcome = is.is_outcome; is_text = is.is_text }, wrote)

-- the answer with some shapes is that with others
other_shapes : (own shapes : Shapes) (start : Start) (script : List ℕ) (old new : Option (List ℕ)) (r : Result Ending CliFault)
    → AnswersPages own (start_of start.present start.delays start.mode) format.List script old new r → AnswersPages shapes start format.List script old new r
other_shapes own shapes start script old new (Ok ending) (outcome, text, short, is, end, wrote) =
    (outcome, text, short, record { statements = is.statements; is_script = is.is_script; is_outcome = is.is_outcome; is_text = is.is_text }, end, wrote)
other_shapes own shapes start script old new (Err fault) h = refused_so own shapes start script old new fault h

-- the same where the script's bytes are known
pub list_draws_nothing : (known : Option (List ℕ)) (own shapes : Shapes) (start : Start) (old new : Option (List ℕ)) (r : Result Ending CliFault)
    → IfSome known (λ script. AnswersPages own (start_of start.present start.delays start.mode) format.List script old new r)
    → IfSome known (λ script. AnswersPages shapes start format.List script old new r)
list_draws_nothing None own shapes start old new r h = tt
list_draws_nothing (Some script) own shapes start old new r h = other_shapes own shapes start script old new r h
