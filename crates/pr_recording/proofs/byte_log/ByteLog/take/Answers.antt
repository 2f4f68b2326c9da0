use Rattle.std.proofs.Common.{◌||◌, not, refl}
use Rattle.pr_recording.specs.declared.byte_log.ByteLog.{ByteLog}
use Rattle.pr_recording.proofs.Logging.{logs_byte, logs_select}
use Rattle.pr_recording.proofs.byte_log.ByteLog.take.Goals as goal

pub returns-in-Select : goal.returns-in-Select
returns-in-Select c =
    let old = c.args.self.now in
    let new : ByteLog = record { bytes = old.bytes; lower = c.in-Select.lower; first = old.first; in_lower = old.in_lower; in_upper = old.in_upper } in
    rw c.in-Select.is (logs_select old new c.in-Select.lower refl)

pub returns-in_ok-push-in-Byte : goal.returns-in_ok-push-in-Byte
returns-in_ok-push-in-Byte c =
    let old = c.args.self.now in
    let new : ByteLog = record {
      bytes = c.push.new.self;
      lower = old.lower;
      first = c.or-self.result;
      in_lower = old.in_lower || old.lower;
      in_upper = old.in_upper || not old.lower;
    } in
    rw c.in-Byte.is (logs_byte old new c.in-Byte.byte c.in_ok-push-in-Byte.ensures.items refl c.or-self.ensures refl refl)
