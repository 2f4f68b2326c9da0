-- Trusted: the frame lines: a line for each frame, and then the word `lawful`.
use Rattle.std.specs.Prelude.{ℕ, Bool, true, false, List, ◌++◌, codes, decimal, flat_map}
use Rattle.pr_wire.specs.declared.Frame.{Frame}

-- a frame's kind: a command, or a data byte
abbrev pub kind_word : Bool → List ℕ
kind_word true = codes "command "
kind_word false = codes "data "

-- the end of a frame's line, with `eoi` for end-or-identify
abbrev pub line_end : Bool → List ℕ
line_end true = codes " eoi\n"
line_end false = codes "\n"

-- a frame's line
unfoldable pub frame_line : Frame → List ℕ
frame_line f = kind_word f.attention ++ decimal f.byte ++ line_end f.eoi

-- the lines of a lawful trace that spells these frames
unfoldable pub frame_lines : List Frame → List ℕ
frame_lines frames = flat_map frame_line frames ++ codes "lawful\n"
