use Rattle.std.proofs.Common.{◌≡◌, ◌+◌, ◌<◌, ◌^◌, ◌++◌, ◌∷◌, [], length, arith}
use Rattle.pr_report.specs.declared.detail.Bounds.TheVariants.{Guide}
use Rattle.pr_report.specs.declared.interval.Interval.TheVariants.{Ready, FirstPull, Answer, AnswerLength, PullAfterAnswer, ShortestLow, LongestLow, ShortestHigh, LongestHigh, Acknowledgement}
use Rattle.pr_report.proofs.Sums.{one-longer}
use Rattle.pr_report.proofs.FoundOutside.{found-more}
use Rattle.pr_report.proofs.Surveyed.{damage-more}
use Rattle.pr_report.proofs.survey.Survey.take.Goals as goal

pub returns-clause-taken : goal.returns-clause-taken
returns-clause-taken c = λ b rs h.
    let same = h.taken in
    let few : length rs + 1 < 2 ^ 64 = omega arith in
    let longer : length (rs ++ c.args.reading.now ∷ []) ≡ length rs + 1 = one-longer rs c.args.reading.now in
    record {
      taken = omega arith;
      few = omega arith;
      bounds = h.bounds;
      damaged = damage-more rs c.args.reading.now c.args.self.now.damaged c.with_damage-self.result h.damaged c.with_damage-self.ensures;
      outside = found-more Guide rs c.args.reading.now c.args.self.now.outside c.with_reading-self.result h.outside c.with_reading-self.ensures;
      counts = c.with-self.ensures rs few h.counts;
      ready = c.take.ensures b Ready rs few h.ready;
      first_pull = c.take-2.ensures b FirstPull rs few h.first_pull;
      answer = c.take-3.ensures b Answer rs few h.answer;
      answer_length = c.take-4.ensures b AnswerLength rs few h.answer_length;
      pull_after_answer = c.take-5.ensures b PullAfterAnswer rs few h.pull_after_answer;
      shortest_low = c.take-6.ensures b ShortestLow rs few h.shortest_low;
      longest_low = c.take-7.ensures b LongestLow rs few h.longest_low;
      shortest_high = c.take-8.ensures b ShortestHigh rs few h.shortest_high;
      longest_high = c.take-9.ensures b LongestHigh rs few h.longest_high;
      acknowledgement = c.take-10.ensures b Acknowledgement rs few h.acknowledgement;
    }
