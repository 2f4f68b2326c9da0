-- Trusted: what acknowledged bytes come to for the readings after them: which byte of an attention a command is, whether
-- a printer listens, and who sends data bytes.
use Rattle.std.specs.Prelude.{ℕ, ◌+◌, ◌/◌, ◌%◌, ◌==◌, ◌||◌, nat_lt, Bool, true, false, List, [], ◌∷◌, if◌then◌else◌}
use Rattle.pr_base.specs.Bytes as command
use Rattle.pr_wire.specs.declared.bus_state.ByteRole.{ByteRole}
use Rattle.pr_wire.specs.declared.bus_state.ByteRole.TheVariants.{First, Second, Data}
use Rattle.pr_decode.specs.declared.reading.FrameEnd.TheVariants as frame
use Rattle.pr_decode.specs.declared.reading.Reading.{Reading}
use Rattle.pr_decode.specs.declared.reading.Reading.TheVariants.{Frame}
use Rattle.pr_report.specs.declared.context.Context.{Context}
use Rattle.pr_report.specs.declared.context.Preceding.{Preceding}
use Rattle.pr_report.specs.declared.context.Preceding.TheVariants as behind
use Rattle.pr_report.specs.declared.context.Talker.{Talker}
use Rattle.pr_report.specs.declared.context.Talker.TheVariants as talker

-- before the first reading nobody listens, and the computer talks
abbrev pub at_start : Context
at_start = record { last = behind.Nothing; printer_listens = false; talker = talker.Computer }

-- which byte of the bus a frame is: after a command that began an attention, a secondary address or
-- a command above the secondary addresses is the second of this attention; every other command, for
-- example LISTEN or UNLISTEN, begins an attention
abbrev pub sending_of : Preceding → (command : Bool) → (byte : ℕ) → ByteRole
sending_of b false byte = Data
sending_of behind.Command true byte = if nat_lt byte command.secondary then First else Second
sending_of b true byte = First

-- a data byte came before
abbrev pub is_behind_data : Preceding → Bool
is_behind_data behind.Data = true
is_behind_data b = false

-- what comes before the byte after an acknowledged one: an attention has at most two commands, and
-- UNLISTEN is always its last
abbrev pub last_after : ByteRole → (byte : ℕ) → Preceding
last_after First byte = if byte == command.unlisten then behind.Nothing else behind.Command
last_after Second byte = behind.Nothing
last_after Data byte = behind.Data

-- a printer listens from LISTEN 4 or LISTEN 5 on, until UNLISTEN
abbrev pub listens_after : Bool → ByteRole → (byte : ℕ) → Bool
listens_after listens First byte =
    if byte == command.listen + 4 || byte == command.listen + 5 then true
    else (if byte == command.unlisten then false else listens)
listens_after listens Second byte = listens
listens_after listens Data byte = listens

-- a device talks after TALK to it (64 and its number) and an attention's second command, until UNTALK (95) or
-- another TALK
abbrev pub unasked : Talker → Talker
unasked (talker.Asked device) = talker.Computer
unasked t = t

abbrev pub answered : Talker → Talker
answered (talker.Asked device) = talker.Device device
answered t = t

abbrev pub talker_after : Talker → ByteRole → (byte : ℕ) → Talker
talker_after t First byte =
    if byte == 95 then talker.Computer
    else (if byte / 32 == 2 then talker.Asked (byte % 32)
    else unasked t)
talker_after t Second byte = answered t
talker_after t Data byte = t

-- after an acknowledged byte
abbrev pub after_frame : Context → ByteRole → (byte : ℕ) → Context
after_frame c sent byte = record {
  last = last_after sent byte;
  printer_listens = listens_after c.printer_listens sent byte;
  talker = talker_after c.talker sent byte;
}

-- after a reading: only acknowledged bytes count
abbrev pub after_reading : Context → Reading → Context
after_reading c (Frame t (frame.Acknowledged k)) =
    after_frame c (sending_of c.last t.opening.command t.byte) t.byte
after_reading c r = c

-- after these readings
abbrev pub behind_all : Context → List Reading → Context
behind_all c [] = c
behind_all c (r ∷ rs) = behind_all (after_reading c r) rs
