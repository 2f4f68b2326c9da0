-- Laws: the text of readings, that of lawful traces, and the middle of lengths. The functions of src/laws.rt prove them, and callers take
-- them from there.
use Rattle.std.specs.Prelude.{◌≡◌, ◌≢◌, ℕ, ◌<◌, ◌≤◌, true, false, List, [], ◌∷◌, ◌++◌, map}
use Rattle.pr_base.specs.Bytes as command
use Rattle.pr_wire.specs.declared.Edge.{Edge}
use Rattle.pr_wire.specs.declared.bus_state.ByteRole.{ByteRole}
use Rattle.pr_wire.specs.declared.bus_state.ByteRole.TheVariants.{First, Second, Data}
use Rattle.pr_wire.specs.Pieces.{IsLawful}
use Rattle.pr_report.specs.declared.timed_frame.TimedFrame.{TimedFrame}
use Rattle.pr_report.specs.Moments.{timed_frames}
use Rattle.pr_report.specs.StoryText.{frame_line, story_lines}
use Rattle.pr_decode.specs.declared.reading.Reading.{Reading}
use Rattle.pr_decode.specs.Readings.{readings_of}
use Rattle.pr_report.specs.declared.detail.Bounds.{Bounds}
use Rattle.pr_report.specs.declared.detail.Detail.{Detail}
use Rattle.pr_report.specs.declared.interval.Interval.{Interval}
use Rattle.pr_report.specs.declared.context.Context.{Context}
use Rattle.pr_report.specs.declared.context.Talker.TheVariants.{Computer}
use Rattle.pr_report.specs.Intervals.{is_outside}
use Rattle.pr_report.specs.Contexts.{after_frame, after_reading, at_start, behind_all}
use Rattle.pr_report.specs.ReadingText.{all_lines, byte_lines, reading_lines}
use Rattle.pr_report.specs.Summary.{is_half, lengths, middle}

-- one reading more adds its lines, by what follows the others
abbrev pub LinesAddUp : Type 0
LinesAddUp = (d : Detail) (c : Context) (rs : List Reading) (r : Reading) →
    (all_lines d c (rs ++ r ∷ []) ≡ all_lines d c rs ++ reading_lines d (behind_all c rs) r)
    × (behind_all c (rs ++ r ∷ []) ≡ after_reading (behind_all c rs) r)

-- of all numbers the middle is the least that at least half of the lengths do not exceed
abbrev pub MiddlesAreLeast : Type 0
MiddlesAreLeast = (n : ℕ) (ns : List ℕ) →
    (is_half (n ∷ ns) (middle (n ∷ ns)) ≡ true) × ((k : ℕ) → is_half (n ∷ ns) k ≡ true → middle (n ∷ ns) ≤ k)

-- lengths of an interval lie within its bounds
abbrev pub AreInside : Bounds → Interval → List ℕ → Type 0
AreInside b i [] = Unit {0}
AreInside b i (n ∷ ns) = (is_outside b i n ≡ false) × AreInside b i ns

-- the intervals of a lawful trace lie within the profile's bounds, and so within the guide's
abbrev pub LawfulTracesAreWithin : Type 0
LawfulTracesAreWithin = (edges : List Edge) (b : Bounds) (i : Interval) → IsLawful edges →
    AreInside b i (lengths i (readings_of edges))

-- the lines of acknowledged bytes
abbrev pub bytes_lines : Context → List TimedFrame → List ℕ
bytes_lines c [] = []
bytes_lines c (f ∷ fs) = byte_lines c f ++ bytes_lines (after_frame c f.sending f.byte) fs

-- the lines of a lawful trace are those of bytes that are the story's frames: to a printer each has the same line, and the
-- headings alone may be elsewhere
abbrev pub LawfulTracesAreTold : Type 0
LawfulTracesAreTold = (d : Detail) (edges : List Edge) → IsLawful edges →
    (frames : List TimedFrame)
    × (all_lines d at_start (readings_of edges) ≡ bytes_lines at_start frames)
    × (map (frame_line true) frames ≡ map (frame_line true) (timed_frames edges))

-- a frame is as computers send it to printers, by the byte of the frame before it and by what all frames before it come to:
-- an attention begins with a command below the secondary addresses, as LISTEN or UNLISTEN, and its second, which never
-- follows UNLISTEN, is one of these or above; data bytes are the computer's, and a printer listens
abbrev pub IsUsual : (before : ℕ) → Context → ByteRole → (byte : ℕ) → Type 0
IsUsual before c First byte = byte < command.secondary
IsUsual before c Second byte = (command.secondary ≤ byte) × (before ≢ command.unlisten)
IsUsual before c Data byte = (c.printer_listens ≡ true) × (c.talker ≡ Computer)

abbrev pub AreUsual : (before : ℕ) → Context → List TimedFrame → Type 0
AreUsual before c [] = Unit {0}
AreUsual before c (f ∷ fs) =
    IsUsual before c f.sending f.byte × AreUsual f.byte (after_frame c f.sending f.byte) fs

-- where a lawful trace's frames are, its lines are the story's
abbrev pub UsualTracesAreStories : Type 0
UsualTracesAreStories = (d : Detail) (edges : List Edge) → IsLawful edges → AreUsual 0 at_start (timed_frames edges) →
    all_lines d at_start (readings_of edges) ≡ story_lines false (timed_frames edges)
