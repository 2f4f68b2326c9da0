use Rattle.std.proofs.Common.{◌≡◌, refl, rules, true}
use Rattle.pr_recording.proofs.Judges.{judges_frame}
use Rattle.pr_recording.proofs.judge.Judge.take_frame.Goals as goal

pub returns-in-Some-clause-judged : goal.returns-in-Some-clause-judged
returns-in-Some-clause-judged c = λ some.
    let keeps : c.keeps_times.result ≡ true = search rules in
    judges_frame c.args.self.now _ c.args.edges.now c.in-Some.whole.len c.in-Some.whole.frame (c.keeps_times.ensures keeps) refl c.in-Some.ensures.takes
