-- Trusted: the text of the story of edges: a line for each frame that they end, and `lawful` if
-- they are a lawful trace.
use Rattle.std.specs.Prelude.{ℕ, ◌/◌, ◌%◌, ◌==◌, ◌&&◌, Bool, true, false, nat_lt, List, [], ◌∷◌, ◌++◌, Option, Some, None, codes, if◌then◌else◌}
use Rattle.pr_base.specs.Bytes as command
use Rattle.pr_page.specs.Codes.{code_of}
use Rattle.pr_wire.specs.declared.Edge.{Edge}
use Rattle.pr_wire.specs.declared.WaveFault.{WaveFault}
use Rattle.pr_wire.specs.declared.bus_state.ByteRole.{ByteRole}
use Rattle.pr_wire.specs.declared.bus_state.ByteRole.TheVariants.{First, Second, Data}
use Rattle.pr_wire.specs.Table.{fault_of}
use Rattle.pr_report.specs.declared.timed_frame.TimedFrame.{TimedFrame}
use Rattle.pr_report.specs.Moments.{timed_frames}
use Rattle.pr_report.specs.Numbers.{hex_column, moment, numbered}

-- the text of a command (Programmer's Reference Guide, serial bus): 95 is UNTALK
abbrev pub command_text : ℕ → List ℕ
command_text byte =
    if byte == command.unlisten then codes "UNLISTEN"
    else (if byte == 95 then codes "UNTALK"
    else (if byte / 32 == 1 then numbered (codes "LISTEN ") (byte % 32)
    else (if byte / 32 == 2 then numbered (codes "TALK ") (byte % 32)
    else (if byte / 16 == 6 then numbered (codes "SECOND ") (byte % 16)
    else (if byte / 16 == 14 then numbered (codes "CLOSE ") (byte % 16)
    else (if byte / 16 == 15 then numbered (codes "OPEN ") (byte % 16)
    else numbered (codes "command ") byte))))))

-- a byte by its name, or by its number if it has no name
abbrev pub name_or_number : List ℕ → ℕ → List ℕ
name_or_number [] byte = numbered (codes "byte ") byte
name_or_number (c ∷ cs) byte = c ∷ cs

-- the name of a control code, if bytes are a printer's
abbrev pub name_if : (printer : Bool) → (byte : ℕ) → List ℕ
name_if true byte = (code_of byte).name
name_if false byte = []

-- the text of a data byte to a printer or to another device: a character of ASCII in apostrophes, and an apostrophe in
-- quotation marks
abbrev pub data_text : (printer : Bool) → (byte : ℕ) → List ℕ
data_text printer byte =
    if byte == 39 then codes "\"'\""
    else (if (nat_lt 31 byte && nat_lt byte 127) then 39 ∷ byte ∷ 39 ∷ []
    else name_or_number (name_if printer byte) byte)

-- the text of a frame's byte
abbrev pub saying : (printer : Bool) → ByteRole → (byte : ℕ) → List ℕ
saying printer First byte = command_text byte
saying printer Second byte = command_text byte
saying printer Data byte = data_text printer byte

-- the end of a line
abbrev pub line_end : (eoi : Bool) → List ℕ
line_end true = codes ", end-or-identify\n"
line_end false = codes "\n"

-- a frame's line
unfoldable pub frame_line : (printer : Bool) → TimedFrame → List ℕ
frame_line printer f =
    moment f.look ++ codes " " ++ moment f.acknowledged ++ hex_column f.byte ++ saying printer f.sending f.byte
    ++ line_end f.eoi

-- the headings: a line before each attention, and one before data bytes that follow no data byte
abbrev pub heading : (behind_data : Bool) → ByteRole → List ℕ
heading behind_data First = codes "attention\n"
heading behind_data Second = []
heading true Data = []
heading false Data = codes "data\n"

-- a frame's lines in a story, with or without a data byte before it: there data bytes are a printer's
unfoldable pub story_line : (behind_data : Bool) → TimedFrame → List ℕ
story_line behind_data f = heading behind_data f.sending ++ frame_line true f

-- a frame is a data byte
abbrev pub is_data : ByteRole → Bool
is_data First = false
is_data Second = false
is_data Data = true

-- the lines of frames
abbrev pub story_lines : (behind_data : Bool) → List TimedFrame → List ℕ
story_lines behind_data [] = []
story_lines behind_data (f ∷ fs) = story_line behind_data f ++ story_lines (is_data f.sending) fs

-- the last line: only edges without a fault have one
abbrev pub last_line : Option WaveFault → List ℕ
last_line None = codes "lawful\n"
last_line (Some fault) = []

-- the story of edges
unfoldable pub story_of : List Edge → List ℕ
story_of edges = story_lines false (timed_frames edges) ++ last_line (fault_of edges)
