-- What is heard in the run of a script.
use Rattle.std.proofs.Common.{◌≡◌, ℕ, Bool, true, false, List, [], refl, ap, sym, subst, ◌∙◌, Ok}
use Rattle.std.specs.Prelude.{if◌then◌else◌}
use Rattle.pr_page.specs.declared.input.Input.{Input}
use Rattle.pr_wire.specs.declared.Frame.{Frame}
use Rattle.pr_serial.specs.Heard.{is_present}
use Rattle.pr_receiver.specs.Heard.{heard_of}
use Rattle.pr_bus.specs.Answers.{answered_frames}
use Rattle.pr_bus.specs.DelaysLeft.{numbers_left}
use Rattle.pr_basic.specs.declared.statement.Statement.{Statement}
use Rattle.pr_basic.specs.Grammar.{IsScript}
use Rattle.pr_basic.specs.Runs.{items_sent, run_of}
use Rattle.pr_system.specs.Laws.{StepsMakeTheRun}
use Rattle.pr_system.specs.RunningState.{RunningState, begun}
use Rattle.pr_system.specs.StepByStep.{IsWhole, stepped_through}
use Rattle.pr_render.specs.declared.format.Device.{Device}
use Rattle.pr_jobs.specs.Runs.{run_end}
use Rattle.pr_jobs.specs.declared.run.Start.{Start}
use Rattle.pr_recording.specs.declared.byte_log.HeardBytes.{HeardBytes}
use Rattle.pr_recording.specs.declared.run_bytes.HeardRun.{HeardRun}
use Rattle.pr_recording.specs.Bytes.{number_of}
use Rattle.pr_recording.specs.Logged.{AreHeard}
use Rattle.pr_recording.specs.RunBytes.{heard_in_run}
use Rattle.pr_recording.specs.RunLogged.{GivesRun}

-- what a run gives
pub run_given : StepsMakeTheRun → (start : Start) (device : Device) (text : List ℕ) (statements : List Statement) (running : RunningState) (run last : HeardRun)
    → running ≡ begun start.mode start.present (numbers_left start.delays) → IsScript text statements → run.end ≡ run_end (stepped_through running statements).stop
    → AreHeard (heard_of (number_of device) (answered_frames running.present (stepped_through running statements).items)) run.heard → last.end ≡ run.end
    → (is_present start.present (number_of device) ≡ true → last.heard ≡ run.heard) → (is_present start.present (number_of device) ≡ false → AreHeard [] last.heard) → GivesRun start device text (Ok last)
run_given law start device text statements running run last is script ending heard same there absent = (
  statements,
  script,
  same ∙ (ending ∙ ap run_end (ap (λ (r : RunningState). (stepped_through r statements).stop) is ∙ whole.stop)),
  by (is_present start.present (number_of device)) refl,
)
  where
    whole : IsWhole (stepped_through (begun start.mode start.present (numbers_left start.delays)) statements) (run_of start.mode start.present statements)
    whole = law start.mode start.present (numbers_left start.delays) statements

    inputs : List Input
    inputs = heard_of (number_of device) (answered_frames start.present (items_sent start.mode start.present statements))

    frames : answered_frames running.present (stepped_through running statements).items ≡ answered_frames start.present (items_sent start.mode start.present statements)
    frames =
        ap (λ (r : RunningState). answered_frames r.present (stepped_through r statements).items) is ∙ ap (answered_frames start.present) whole.items

    all : AreHeard inputs run.heard
    all = let P : List Frame → Type 0 = λ fs. AreHeard (heard_of (number_of device) fs) run.heard in subst P frames heard

    cases : (b : Bool) → is_present start.present (number_of device) ≡ b → AreHeard (if b then inputs else []) last.heard
    cases true e = let P : HeardBytes → Type 0 = λ h. AreHeard inputs h in subst P (sym (there e)) all
    cases false e = absent e

    by : (b : Bool) → is_present start.present (number_of device) ≡ b → AreHeard (heard_in_run start device statements) last.heard
    by b e = let P : Bool → Type 0 = λ c. AreHeard (if c then inputs else []) last.heard in subst P (sym e) (cases b e)
