use Rattle.pr_wire.specs.Following.{frames_with}
use Rattle.pr_recording.specs.declared.judge.Judge.{Judge}
use Rattle.pr_recording.proofs.Judges.{judges_one}
use Rattle.pr_recording.proofs.judge.Judge.take.Goals as goal

pub returns-in-Ok-clause-judged : goal.returns-in-Ok-clause-judged
returns-in-Ok-clause-judged c =
    let new : Judge = record { beginning = c.count-counted.new.self; follower = c.take.new.self } in
    judges_one c.args.edge c.count-counted.result c.args.self.now new c.count-counted.ensures
    (λ edges k. (frames_with k.0 c.take.result, c.take.ensures.followed edges k.0 k.1))

pub returns-in-Err-clause-judged : goal.returns-in-Err-clause-judged
returns-in-Err-clause-judged c =
    let new : Judge = record { beginning = c.count-counted.new.self; follower = c.take.new.self } in
    judges_one c.args.edge c.count-counted.result c.args.self.now new c.count-counted.ensures
    (λ edges k. (frames_with k.0 c.take.result, c.take.ensures.followed edges k.0 k.1))
