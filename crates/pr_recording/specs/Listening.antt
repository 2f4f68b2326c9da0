-- Trusted: printers that listen when a recording begins hear what they hear if it begins with calls of them.
use Rattle.std.specs.Prelude.{ℕ, ◌+◌, ◌&&◌, Bool, true, false, List, [], ◌∷◌, ◌++◌, None, if◌then◌else◌}
use Rattle.pr_base.specs.Bytes as command
use Rattle.pr_decode.specs.declared.reading.Reading.{Reading}
use Rattle.pr_decode.specs.declared.reading.Reading.TheVariants.{Frame}
use Rattle.pr_decode.specs.declared.reading.FrameEnd.TheVariants.{Acknowledged}
use Rattle.pr_recording.specs.declared.listening.Listening.{Listening}

-- no printer listens
abbrev pub nobody : Listening
nobody = record { printers = record { four = false; five = false }; lower = false }

-- a command that is acknowledged; nobody asks when
abbrev pub command_reading : ℕ → Reading
command_reading byte = Frame (record {
  opening = record { command = true; ready_to_send = 0; ready_for_data = 0; pulse = None };
  pull = 0;
  bits = 8;
  byte = byte;
  low = record { shortest = 0; longest = 0 };
  high = record { shortest = 0; longest = 0 };
  last_pull = 0;
}) (Acknowledged 0)

abbrev pub command_if : Bool → ℕ → List Reading
command_if comes byte = if comes then command_reading byte ∷ [] else []

-- the call of a printer that listens: LISTEN, and secondary address 7 where the lower/upper case set is selected
abbrev pub call_of : (listens lower : Bool) → (device : ℕ) → List Reading
call_of listens lower device =
    command_if listens (command.listen + device) ++ command_if (listens && lower) (command.secondary + 7)

-- the calls of both printers, where they listen
abbrev pub first_calls : Listening → List Reading
first_calls l = call_of l.printers.four l.lower 4 ++ call_of l.printers.five l.lower 5

-- readings, and these calls before them
abbrev pub with_calls : Listening → List Reading → List Reading
with_calls l readings = first_calls l ++ readings
