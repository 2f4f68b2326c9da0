use Rattle.std.proofs.Common.{◌≡◌, true, false, refl, rules}
use Rattle.std.specs.Prelude.{is_some}
use Rattle.pr_recording.proofs.Heeding.{ends}
use Rattle.pr_recording.proofs.decode_report.DecodeReport.finish.Goals as goal

pub returns-then-is_some : goal.returns-then-is_some
returns-then-is_some c =
    let some : is_some c.in_ok-end.end.stop ≡ true = search rules in
    ends c.args.trace c.args.is_checked c.args.self c.args.own c.finish-fault.result c.finish.new.taker c.in_ok-end.end _ c.in_ok-end.ensures c.finish-fault.ensures c.refused_by-refused.ensures
    (record { stopped = λ _. c.into_lines-lines.ensures; whole = λ none. absurd (cc (some, none)); odd = refl })

pub returns : goal.returns
returns c =
    let none : is_some c.in_ok-end.end.stop ≡ false = search rules in
    ends c.args.trace c.args.is_checked c.args.self c.args.own c.finish-fault.result c.finish.new.taker c.in_ok-end.end _ c.in_ok-end.ensures c.finish-fault.ensures c.refused_by-refused.ensures
    (record { stopped = λ some. absurd (cc (some, none)); whole = λ _. c.in_ok-lines.ensures; odd = refl })
