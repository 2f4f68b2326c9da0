use Rattle.std.proofs.Common.{◌+◌, ◌^◌, ◌-◌, ◌≤◌, arith, length}
use Rattle.pr_recording.specs.Narrated.{readings_told}
use Rattle.pr_recording.proofs.Heeding.{load_more, narrates}
use Rattle.pr_recording.proofs.decode_report.DecodeReport.take_all.Goals as goal

pub returns-clause-narrated : goal.returns-clause-narrated
returns-clause-narrated c = narrates c.args.self.now _ c.args.edges.now c.take_all.ensures.judged c.in_ok-take_all.ensures.taped

pub returns-clause-load : goal.returns-clause-load
returns-clause-load c =
    let told = readings_told c.args.self.now.log in
    let len = length c.args.edges.now in
    let fits : told + len ≤ 2 ^ 64 - 1 = omega (arith, c.requires.room) in
    omega (arith, c.take_all.ensures.count, c.in_ok-take_all.ensures.edges, load_more told _ len c.in_ok-take_all.ensures.room fits)
