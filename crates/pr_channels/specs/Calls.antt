-- Words of calls: what each call does to the channels. Who uses `Channels` by itself believes them; what a statement gives is defined without them.
use Rattle.std.specs.Prelude.{◌≡◌, ℕ, true, ◌==◌, Option, Some, None, List, [], ◌∷◌, ◌++◌, length, nat_lt, if◌then◌else◌}
use Rattle.pr_serial.specs.Elements.{Element, Byte}
use Rattle.pr_serial.specs.Items.{items_of}
use Rattle.pr_serial.specs.Answers.{is_lacking}
use Rattle.pr_channels.specs.declared.file.File.{File}
use Rattle.pr_channels.specs.declared.faults.Stop.{Stop}
use Rattle.pr_channels.specs.declared.faults.Stop.TheVariants.{FileNotOpen, DeviceNotPresent}
use Rattle.pr_channels.specs.declared.faults.Fault.{Fault}
use Rattle.pr_channels.specs.declared.faults.Fault.TheVariants as fault
use Rattle.pr_channels.specs.Files.{file_at, without_file}
use Rattle.pr_channels.specs.Commands.{listen_to, unlisten, closing}
use Rattle.pr_channels.specs.Seen.{Seen}

-- more elements: the items are those of all elements, and the status is 128 if an item that is new is not answered
abbrev pub adding : List Element → Seen → Seen
adding es old =
    let sent = items_of (old.elements ++ es) in
    record old {
      elements = old.elements ++ es;
      sent = sent;
      status = if is_lacking old.present (length old.sent) sent then 128 else old.status;
    }

-- LISTEN goes out to the file's device, which is then the output device unless the status is 128
abbrev pub chkout_of : Option File → Seen → Seen × Option Stop
chkout_of None old = (old, Some FileNotOpen)
chkout_of (Some file) old = listened file.device (adding (listen_to file ∷ []) old)
  where
    listened : ℕ → Seen → Seen × Option Stop
    listened device new =
        if new.status == 128 then (new, Some DeviceNotPresent) else (record new { output = device }, None)

-- a byte goes to the screen or to the bus
abbrev pub chrout_of : ℕ → Seen → Seen
chrout_of b old = if nat_lt 3 old.output then adding (Byte b ∷ []) old else record old { screen = old.screen ++ b ∷ [] }

-- UNLISTEN goes out where the output device is on the bus, and the screen is the output device
abbrev pub clrchn_of : Seen → Seen
clrchn_of old = record (if nat_lt 3 old.output then adding (unlisten ∷ []) old else old) { output = 3 }

-- the file goes out of the table, and the device of its secondary address is notified
abbrev pub close_of : ℕ → Seen → Seen
close_of number old = record (adding (closing (file_at old.files number)) old) { files = without_file number old.files }

-- a refusal by the bus says only that it has failed, and a stop is the one that the call gives
abbrev pub IsFault : Fault → Seen × Option Stop → Seen → Type 0
IsFault (fault.Stop stop) gives new = gives ≡ (new, Some stop)
IsFault fault.NoMemory gives new = new.failed ≡ true
