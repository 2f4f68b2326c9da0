use Rattle.pr_report.specs.declared.interval.Interval.TheVariants.{Ready, FirstPull, Answer, AnswerLength, PullAfterAnswer, ShortestLow, LongestLow, ShortestHigh, LongestHigh, Acknowledgement}
use Rattle.pr_report.proofs.Parts.{ten-parts}
use Rattle.pr_report.proofs.survey.Survey.push_intervals.Goals as goal

pub returns : goal.returns
returns c = λ b rs h.
    ten-parts c.args.text.now.items c.push_line.new.text.items c.push_line-2.new.text.items c.push_line-3.new.text.items c.push_line-4.new.text.items c.push_line-5.new.text.items c.push_line-6.new.text.items c.push_line-7.new.text.items c.push_line-8.new.text.items c.push_line-9.new.text.items c.push_line-10.new.text.items
    _ _ _ _ _ _ _ _ _ _
    (c.in_ok-push_line.ensures b Ready rs h.few h.ready)
    (c.in_ok-push_line-2.ensures b FirstPull rs h.few h.first_pull)
    (c.in_ok-push_line-3.ensures b Answer rs h.few h.answer)
    (c.in_ok-push_line-4.ensures b AnswerLength rs h.few h.answer_length)
    (c.in_ok-push_line-5.ensures b PullAfterAnswer rs h.few h.pull_after_answer)
    (c.in_ok-push_line-6.ensures b ShortestLow rs h.few h.shortest_low)
    (c.in_ok-push_line-7.ensures b LongestLow rs h.few h.longest_low)
    (c.in_ok-push_line-8.ensures b ShortestHigh rs h.few h.shortest_high)
    (c.in_ok-push_line-9.ensures b LongestHigh rs h.few h.longest_high)
    (c.in_ok-push_line-10.ensures b Acknowledgement rs h.few h.acknowledgement)
