use Rattle.std.proofs.Common.{◌≡◌, arith, rules, true}
use Rattle.std.specs.Prelude.{is_some}
use Rattle.pr_recording.proofs.Judges.{judges_first, judges_settled}
use Rattle.pr_recording.proofs.judge.Judge.take_front.Goals as goal

pub returns-then-is_some-clause-judged : goal.returns-then-is_some-clause-judged
returns-then-is_some-clause-judged c =
    let some : is_some c.args.self.now.follower.refused ≡ true = search rules in
    judges_settled c.args.self.now c.args.edges.now some

pub returns-clause-judged : goal.returns-clause-judged
returns-clause-judged c =
    let zero : c.take_frame-len.result ≡ 0 = omega (arith, c.if-len-gt0.false) in
    judges_first c.args.self.now _ _ c.args.edges.now _ (c.take_frame-len.ensures.none zero) c.requires.some c.take.ensures.judged
