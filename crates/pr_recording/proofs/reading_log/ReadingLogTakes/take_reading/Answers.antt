use Rattle.std.proofs.Common.{refl}
use Rattle.pr_recording.specs.declared.reading_log.ReadingLog.{ReadingLog}
use Rattle.pr_recording.proofs.Accounting.{accounts_one}
use Rattle.pr_recording.proofs.reading_log.ReadingLogTakes.take_reading.Goals as goal

pub returns-clause-taken : goal.returns-clause-taken
returns-clause-taken c =
    let new : ReadingLog = record { wording = c.args.self.now.wording; context = c.after-self.result; survey = c.take.new.self; lines = c.push_worded.new.text } in
    accounts_one c.args.self.now new c.args.reading.now refl c.in_ok-push_worded.ensures c.after-self.ensures c.take.ensures.taken
