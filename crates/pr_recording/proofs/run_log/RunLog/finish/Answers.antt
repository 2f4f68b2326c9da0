use Rattle.std.proofs.Common.{◌++◌}
use Rattle.std.specs.Option.{option_to_list}
use Rattle.pr_recording.proofs.RunLogging.{ends_run}
use Rattle.pr_recording.proofs.run_log.RunLog.finish.Goals as goal

pub returns : goal.returns
returns c =
    let cuts = c.in_ok-_has_byte.ensures in
    ends_run c.args.self cuts.cut c.finish-2.result cuts.reads
    (λ device given h. c.finish-2.ensures device (given ++ option_to_list cuts.cut) (cuts.taken device given h))
