use Rattle.pr_exports.proofs.scripts.line_of.Goals as goal

pub unreachable-requires : goal.unreachable-requires
unreachable-requires c =
    let k = c.faults_tell_their_line.ensures.told c.args.script.now c.args.fault c.args.place c.requires in
    c.in-None.ensures k.1 k.2 k.3 k.4
