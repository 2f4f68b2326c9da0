use Rattle.pr_report.proofs.WholeStory.{IsTelling}
use Rattle.pr_report.proofs.story.push_story.Given as goal

-- the lines of the frames of the edges so far are in the text
abbrev pub invariant-loop-edge : goal.invariant-loop-edge
invariant-loop-edge l = IsTelling l.edges l.edge-index l.timer l.initial.text.items l.text.items l.behind_data
