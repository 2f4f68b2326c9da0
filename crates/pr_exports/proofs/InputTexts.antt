-- Why a printer's inputs have no text.
use Rattle.std.proofs.Common.{◌≡◌, ◌<◌, ◌≤◌, ℕ, List, [], length, None, Err, inr, refl}
use Rattle.std.specs.Prelude.{map}
use Rattle.std.specs.List.{position}
use Rattle.pr_dots.specs.declared.character_sets.Shapes.{Shapes}
use Rattle.pr_render.specs.declared.format.Format.{Format}
use Rattle.pr_jobs.specs.declared.fault.CliFault.{CliFault}
use Rattle.pr_jobs.specs.declared.fault.CliFault.TheVariants.{Script, Trace, Wave, Capture, Picture, TooLarge, NoMemory, ReadFailed, WriteFailed}
use Rattle.pr_cli.specs.declared.statuses.End.TheVariants.{Job}
use Rattle.pr_exports.specs.Answers.{ended}
use Rattle.pr_exports.specs.Asked.{HandsInputs}
use Rattle.pr_exports.specs.Printed.{GivesInputsText}
use Rattle.pr_exports.specs.Printing.{input_of, inputs_limit, is_no_input}
use Rattle.pr_exports.specs.declared.answer.Answer.{Answer}
use Rattle.pr_exports.specs.declared.answer.TextGiven.TheVariants.{Refused}

-- they are too many
pub too_many : (shapes : Shapes) (format : Format) (inputs out : List ℕ) (answer : Answer) → inputs_limit < length inputs → answer ≡ ended (Job TooLarge) → HandsInputs shapes format inputs out out answer
too_many shapes format inputs out answer more is = inr (Err TooLarge, [], more, Refused TooLarge, (refl, refl, refl), is)

-- their page cannot be shown, or memory was refused
pub no_text : (shapes : Shapes) (format : Format) (inputs out : List ℕ) (answer : Answer) (fault : CliFault) → length inputs ≤ inputs_limit → position is_no_input inputs ≡ None
    → GivesInputsText shapes format (map input_of inputs) (Err fault) → answer ≡ ended (Job fault) → HandsInputs shapes format inputs out out answer
no_text shapes format inputs out answer (Script f) few all h is = absurd h
no_text shapes format inputs out answer (Trace f) few all h is = absurd h
no_text shapes format inputs out answer (Wave f) few all h is = absurd h
no_text shapes format inputs out answer (Capture f) few all h is = absurd h
no_text shapes format inputs out answer (Picture f) few all h is = inr (Err (Picture f), [], (few, all, h), Refused (Picture f), (refl, refl, refl), is)
no_text shapes format inputs out answer TooLarge few all h is = absurd h
no_text shapes format inputs out answer NoMemory few all h is = inr (Err NoMemory, [], (few, all), Refused NoMemory, (refl, refl, refl), is)
no_text shapes format inputs out answer ReadFailed few all h is = absurd h
no_text shapes format inputs out answer WriteFailed few all h is = absurd h
