-- Why marks have no text.
use Rattle.std.proofs.Common.{◌≡◌, ℕ, List, [], None, Err, inr, refl}
use Rattle.pr_dots.specs.declared.character_sets.Shapes.{Shapes}
use Rattle.pr_render.specs.declared.format.Format.{Format}
use Rattle.pr_jobs.specs.declared.fault.CliFault.{CliFault}
use Rattle.pr_jobs.specs.declared.fault.CliFault.TheVariants.{Script, Trace, Wave, Capture, Picture, TooLarge}
use Rattle.pr_jobs.specs.declared.fault.CliFault.TheVariants.{NoMemory, ReadFailed, WriteFailed}
use Rattle.pr_cli.specs.declared.statuses.End.TheVariants.{Job}
use Rattle.pr_exports.specs.Answers.{ended}
use Rattle.pr_exports.specs.Marked.{HandsMarks}
use Rattle.pr_exports.specs.Marks.{first_up}
use Rattle.pr_exports.specs.Printed.{GivesMarksText}
use Rattle.pr_exports.specs.declared.answer.Answer.{Answer}
use Rattle.pr_exports.specs.declared.answer.TextGiven.TheVariants.{Refused}
use Rattle.pr_exports.specs.declared.marks.WireMark.{WireMark}

-- their paper cannot be shown, or memory was refused
pub no_text : (shapes : Shapes) (format : Format) (marks : List WireMark) (out : List ℕ) (answer : Answer)
    (fault : CliFault) → first_up 0 0 marks ≡ None
    → GivesMarksText shapes format marks (Err fault) → answer ≡ ended (Job fault)
    → HandsMarks shapes format marks out out answer
no_text shapes format marks out answer (Script f) down h is = absurd h
no_text shapes format marks out answer (Trace f) down h is = absurd h
no_text shapes format marks out answer (Wave f) down h is = absurd h
no_text shapes format marks out answer (Capture f) down h is = absurd h
no_text shapes format marks out answer (Picture f) down h is = inr
    (Err (Picture f), [], down, h, Refused (Picture f), (refl, refl, refl), is)
no_text shapes format marks out answer TooLarge down h is = absurd h
no_text shapes format marks out answer NoMemory down h is = inr
    (Err NoMemory, [], down, tt, Refused NoMemory, (refl, refl, refl), is)
no_text shapes format marks out answer ReadFailed down h is = absurd h
no_text shapes format marks out answer WriteFailed down h is = absurd h
