-- Trusted: lawful traces: the start, and then whole pieces end to end.
use Rattle.std.specs.Prelude.{◌≡◌, ℕ, ◌+◌, ◌≤◌, Bool, true, false, not, ◌==◌, if◌then◌else◌, List, [], ◌∷◌, ◌++◌, length, Option, Some, None}
use Rattle.pr_base.specs.Bytes as command
use Rattle.pr_wire.specs.declared.Edge.{Edge}
use Rattle.pr_wire.specs.declared.Frame.{Frame}
use Rattle.pr_wire.specs.Levels.{edge_at, start, byte_of}

-- a moment is in an interval, both ends included
pub record IsWithin (t low high : ℕ) : Type 0 where
  pub from : low ≤ t
  pub to : t ≤ high

-- a bit: DATA's level, and when CLOCK is released and pulled again
pub record BitTimes : Type 0 where
  pub level : Bool
  pub up : ℕ
  pub down : ℕ

-- an EOI answer: when DATA is pulled and when it is released
pub record EoiAnswer : Type 0 where
  pub pulled : ℕ
  pub released : ℕ

-- the moments of a frame: DATA released, perhaps an EOI answer, CLOCK pulled, eight bits, the acknowledgement
pub record FrameTimes : Type 0 where
  pub free : ℕ
  pub pulse : Option EoiAnswer
  pub pull : ℕ
  pub bits : List BitTimes
  pub ack : ℕ

-- how an attention ends: ATN released, perhaps DATA released, after UNLISTEN CLOCK released
pub record Ending : Type 0 where
  pub atn : ℕ
  pub line : Option ℕ
  pub clock : Option ℕ

-- a second command: its release of CLOCK, and its frame
pub record SecondFrame : Type 0 where
  pub look : ℕ
  pub sent : FrameTimes

-- the lines between two pieces
pub data Between : Type 0 where
  -- all lines are released since then
  Resting : ℕ → Between
  -- CLOCK and DATA are pulled, since an attention's end or an acknowledgement
  Held : ℕ → Between
  -- CLOCK is pulled and DATA has been released, since an attention's end
  Loose : ℕ → Between

-- a whole piece
pub data Piece : Type 0 where
  -- ATN pulled, and released where nobody answers
  Unanswered : (atn release : ℕ) → Piece
  -- ATN pulled, DATA pulled unless it was, CLOCK released for the first command, perhaps a second, the end
  Attention : (atn : ℕ) (answer : Option ℕ) (look : ℕ) (first : FrameTimes) (second : Option SecondFrame)
      (end : Ending) → Piece
  -- CLOCK released, and a frame
  DataByte : (look : ℕ) (sent : FrameTimes) → Piece
  -- CLOCK released where nobody listens
  Dropped : (look : ℕ) → Piece

-- the moment of the last pull of CLOCK
abbrev pub last_pull : ℕ → List BitTimes → ℕ
last_pull c [] = c
last_pull c (b ∷ bs) = last_pull b.down bs

-- each bit's moments follow the pull of CLOCK before it
abbrev pub AreClocked : ℕ → List BitTimes → Type 0
AreClocked c [] = Unit {0}
AreClocked c (b ∷ bs) =
    IsWithin b.up (c + 20) (c + 200) × IsWithin b.down (b.up + 20) (b.up + 200) × AreClocked b.down bs

-- CLOCK is pulled after DATA's release; in a data byte an EOI answer may come between
abbrev pub IsOpened : Bool → ℕ → Option EoiAnswer → ℕ → Type 0
IsOpened x free None pull = IsWithin pull (free + 1) (free + 199)
IsOpened x free (Some p) pull =
    (x ≡ true) × IsWithin p.pulled (free + 200) (free + 250) × IsWithin p.released (p.pulled + 80) (free + 450)
    × IsWithin pull (p.released + 1) (p.released + 60)

-- a frame, from a release of CLOCK on
pub record IsFrame (x : Bool) (look : ℕ) (f : FrameTimes) : Type 0 where
  pub free : IsWithin f.free (look + 1) (look + 10000)
  pub opened : IsOpened x f.free f.pulse f.pull
  pub clocked : AreClocked f.pull f.bits
  pub eight : length f.bits ≡ 8
  pub ack : IsWithin f.ack (last_pull f.pull f.bits + 1) (last_pull f.pull f.bits + 90)

-- the levels of the bits
abbrev pub levels_of : List BitTimes → List Bool
levels_of [] = []
levels_of (b ∷ bs) = b.level ∷ levels_of bs

-- the byte of a frame
abbrev pub byte_sent : FrameTimes → ℕ
byte_sent f = byte_of (levels_of f.bits)

abbrev pub has_pulse : Option EoiAnswer → Bool
has_pulse None = false
has_pulse (Some p) = true

-- what a frame spells
abbrev pub frame_sent : Bool → FrameTimes → Frame
frame_sent x f = record { attention = not x; byte = byte_sent f; eoi = has_pulse f.pulse }

-- ATN is pulled for an attention in time
abbrev pub IsCalled : Between → ℕ → Type 0
IsCalled (Resting i) a = i + 100 ≤ a
IsCalled (Held k) a = IsWithin a (k + 100) (k + 1000)
IsCalled (Loose r) a = IsWithin a (r + 100) (r + 1000)

-- DATA is pulled in answer to ATN, unless it is pulled already, and CLOCK is released
abbrev pub IsAnswered : Between → ℕ → Option ℕ → ℕ → Type 0
IsAnswered (Held k) a None look = IsWithin look (a + 1000) (a + 2000)
IsAnswered (Held k) a (Some d) look = ⊥
IsAnswered _ a None look = ⊥
IsAnswered _ a (Some d) look = IsWithin d (a + 1) (a + 1000) × IsWithin look (a + 1000) (a + 2000)

-- DATA is not pulled between the pieces
abbrev pub IsReleased : Between → Type 0
IsReleased (Held k) = ⊥
IsReleased _ = Unit {0}

-- a second command, after the first acknowledgement
abbrev pub IsSecond : ℕ → Option SecondFrame → Type 0
IsSecond k None = Unit {0}
IsSecond k (Some m) = IsWithin m.look (k + 1000) (k + 2000) × IsFrame false m.look m.sent

-- the last acknowledgement and the last command of an attention, from those of its first frame
abbrev pub last_ack : ℕ → Option SecondFrame → ℕ
last_ack k None = k
last_ack k (Some m) = m.sent.ack

abbrev pub last_byte : ℕ → Option SecondFrame → ℕ
last_byte byte None = byte
last_byte byte (Some m) = byte_sent m.sent

-- the lines are released after an attention; the Bool says whether its last command is UNLISTEN
abbrev pub AreReleased : Bool → ℕ → Option ℕ → Option ℕ → Type 0
AreReleased true r (Some d) (Some c) = IsWithin d (r + 1) (r + 60) × IsWithin c (r + 100) (r + 200)
AreReleased true r _ _ = ⊥
AreReleased false r None None = Unit {0}
AreReleased false r (Some d) None = IsWithin d (r + 1) (r + 60)
AreReleased false r _ (Some c) = ⊥

-- the end of an attention, after its last acknowledgement, with its last command
pub record IsEnded (byte k : ℕ) (e : Ending) : Type 0 where
  pub atn : IsWithin e.atn (k + 100) (k + 200)
  pub lines : AreReleased (byte == command.unlisten) e.atn e.line e.clock

-- CLOCK is released for a data byte in time
abbrev pub IsLooked : Between → ℕ → Type 0
IsLooked (Held k) l = IsWithin l (k + 100) (k + 1000)
IsLooked _ l = ⊥

-- CLOCK is released for a byte that nobody hears
abbrev pub IsDropped : Between → ℕ → Type 0
IsDropped (Loose r) l = IsWithin l (r + 100) (r + 1000)
IsDropped _ l = ⊥

-- a piece is lawful after these lines
abbrev pub IsPiece : Between → Piece → Type 0
IsPiece b (Unanswered a release) = IsReleased b × IsCalled b a × IsWithin release (a + 1000) (a + 2000)
IsPiece b (Attention a answer look first second end) =
    IsCalled b a × IsAnswered b a answer look × IsFrame false look first × IsSecond first.ack second
    × IsEnded (last_byte (byte_sent first) second) (last_ack first.ack second) end
IsPiece b (DataByte look sent) = IsLooked b look × IsFrame true look sent
IsPiece b (Dropped look) = IsDropped b look

-- the lines after the releases of ATN, DATA and CLOCK
abbrev pub after_lines : ℕ → Option ℕ → Option ℕ → Between
after_lines r d (Some c) = Resting c
after_lines r (Some d) None = Loose r
after_lines r None None = Held r

-- the lines after an attention
abbrev pub after_ending : Ending → Between
after_ending e = after_lines e.atn e.line e.clock

-- the lines after a piece
abbrev pub after_piece : Piece → Between
after_piece (Unanswered a release) = Resting release
after_piece (Attention a answer look first second end) = after_ending end
after_piece (DataByte look sent) = Held sent.ack
after_piece (Dropped look) = Resting look

-- the pieces follow one another lawfully
abbrev pub AreLawful : Between → List Piece → Type 0
AreLawful b [] = Unit {0}
AreLawful b (p ∷ ps) = IsPiece b p × AreLawful (after_piece p) ps

-- the edges of CLOCK's pulls and releases, the first pull at c; at each pull DATA takes the next
-- bit, and is released at the last one
abbrev pub bit_edges : Bool → ℕ → List BitTimes → List Edge
bit_edges x c [] = edge_at c x false true ∷ []
bit_edges x c (b ∷ bs) = edge_at c x false b.level ∷ edge_at b.up x true b.level ∷ bit_edges x b.down bs

abbrev pub pulse_edges : Option EoiAnswer → List Edge
pulse_edges None = []
pulse_edges (Some p) = edge_at p.pulled true true false ∷ edge_at p.released true true true ∷ []

-- the edges of a frame after CLOCK's release
abbrev pub frame_edges : Bool → FrameTimes → List Edge
frame_edges x f =
    edge_at f.free x true true ∷ pulse_edges f.pulse ++ bit_edges x f.pull f.bits ++ edge_at f.ack x false false ∷ []

-- ATN pulled, with DATA as it was
abbrev pub call_edge : Between → ℕ → Edge
call_edge (Held k) a = edge_at a false false false
call_edge _ a = edge_at a false false true

-- DATA pulled in answer, and CLOCK released, perhaps in one microsecond
abbrev pub answer_edges : Option ℕ → ℕ → List Edge
answer_edges None look = edge_at look false true false ∷ []
answer_edges (Some d) look =
    (if d == look then [] else edge_at d false false false ∷ []) ++ edge_at look false true false ∷ []

abbrev pub second_edges : Option SecondFrame → List Edge
second_edges None = []
second_edges (Some m) = edge_at m.look false true false ∷ frame_edges false m.sent

abbrev pub line_edges : Option ℕ → List Edge
line_edges None = []
line_edges (Some d) = edge_at d true false true ∷ []

abbrev pub clock_edges : Option ℕ → List Edge
clock_edges None = []
clock_edges (Some c) = edge_at c true true true ∷ []

-- the releases at an attention's end
abbrev pub ending_edges : Ending → List Edge
ending_edges e = edge_at e.atn true false false ∷ line_edges e.line ++ clock_edges e.clock

-- the edges of a piece, after these lines
abbrev pub piece_edges : Between → Piece → List Edge
piece_edges b (Unanswered a release) = call_edge b a ∷ edge_at release true true true ∷ []
piece_edges b (Attention a answer look first second end) =
    call_edge b a ∷ answer_edges answer look ++ frame_edges false first ++ second_edges second ++ ending_edges end
piece_edges b (DataByte look sent) = edge_at look true true false ∷ frame_edges true sent
piece_edges b (Dropped look) = edge_at look true true true ∷ []

abbrev pub edges_of : Between → List Piece → List Edge
edges_of b [] = []
edges_of b (p ∷ ps) = piece_edges b p ++ edges_of (after_piece p) ps

-- the frames of a piece
abbrev pub second_frames : Option SecondFrame → List Frame
second_frames None = []
second_frames (Some m) = frame_sent false m.sent ∷ []

abbrev pub piece_frames : Piece → List Frame
piece_frames (Attention a answer look first second end) = frame_sent false first ∷ second_frames second
piece_frames (DataByte look sent) = frame_sent true sent ∷ []
piece_frames _ = []

abbrev pub frames_of : List Piece → List Frame
frames_of [] = []
frames_of (p ∷ ps) = piece_frames p ++ frames_of ps

-- a list of edges is a lawful trace, cut into these pieces
pub record IsCut (edges : List Edge) (pieces : List Piece) : Type 0 where
  pub lawful : AreLawful (Resting 0) pieces
  pub edges_are : edges ≡ start ∷ edges_of (Resting 0) pieces

-- a lawful trace is the start, and then whole pieces
abbrev pub IsLawful : List Edge → Type 0
IsLawful edges = (pieces : List Piece) × IsCut edges pieces

-- a lawful trace spells the frames of its pieces
abbrev pub Spells : List Edge → List Frame → Type 0
Spells edges frames = (pieces : List Piece) × IsCut edges pieces × (frames ≡ frames_of pieces)
