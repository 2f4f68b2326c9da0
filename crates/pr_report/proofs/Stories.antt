-- The lines of a lawful trace are the story's.
use Rattle.std.proofs.Common.{◌≡◌, ℕ, ◌<◌, ◌≤◌, Bool, true, false, List, [], ◌∷◌, ◌++◌, Option, Some, None, if◌then◌else◌, refl, sym, ap, ◌∙◌, subst, arith, append-nil}
use Rattle.std.specs.Prelude.{◌≢◌, ◌==◌, nat_lt, is_some, map, codes}
use Rattle.std.specs.Option.{option_to_list}
use Rattle.std.proofs.lemmas.Bool.{le-ltb, lt-ltb}
use Rattle.std.proofs.lemmas.Bool.Decides.{nat_tests}
use Rattle.pr_base.specs.Bytes as command
use Rattle.pr_wire.specs.declared.bus_state.ByteRole.{ByteRole}
use Rattle.pr_wire.specs.declared.bus_state.ByteRole.TheVariants as sending
use Rattle.pr_wire.specs.Pieces.{AreLawful, Between, EoiAnswer, FrameTimes, IsFrame, IsPiece, IsSecond, Piece, SecondFrame, after_piece, byte_sent, has_pulse}
use Rattle.pr_wire.specs.Pieces.Between.{Resting}
use Rattle.pr_wire.specs.Pieces.Piece.{Attention, DataByte, Dropped, Unanswered}
use Rattle.pr_report.specs.declared.timed_frame.TimedFrame.{TimedFrame}
use Rattle.pr_report.specs.StoryLaws.{TracesTellTheirMoments}
use Rattle.pr_report.specs.PieceMoments.{frame_timed, pieces_timed}
use Rattle.pr_report.specs.Moments.{timed_frames}
use Rattle.pr_report.specs.Numbers.{hex_column, moment}
use Rattle.pr_report.specs.StoryText.{command_text, data_text, frame_line, heading, is_data, line_end, saying, story_line, story_lines}
use Rattle.pr_decode.specs.declared.reading.FrameEnd.TheVariants.{Acknowledged, Cut, Unacknowledged}
use Rattle.pr_decode.specs.declared.reading.Reading.{Reading}
use Rattle.pr_decode.specs.declared.reading.Reading.TheVariants.{Frame, IncompleteByte}
use Rattle.pr_decode.specs.Laws.{TracesSayTheirPieces}
use Rattle.pr_decode.specs.PieceReadings.{frame_read, piece_read, pieces_read, pulse_read, second_read}
use Rattle.pr_decode.specs.Readings.{readings_of}
use Rattle.pr_report.specs.declared.detail.Bounds.{Bounds}
use Rattle.pr_report.specs.declared.detail.Bounds.TheVariants.{Profile}
use Rattle.pr_report.specs.declared.detail.Detail.{Detail}
use Rattle.pr_report.specs.declared.interval.Interval.{Interval}
use Rattle.pr_report.specs.declared.context.Context.{Context}
use Rattle.pr_report.specs.declared.context.Preceding.{Preceding}
use Rattle.pr_report.specs.declared.context.Preceding.TheVariants as behind
use Rattle.pr_report.specs.declared.context.Talker.{Talker}
use Rattle.pr_report.specs.declared.context.Talker.TheVariants as talker
use Rattle.pr_report.specs.Intervals.{intervals, length_of, lowest_of, profile_greatest}
use Rattle.pr_report.specs.ReadingLaws.{AreUsual, IsUsual, LawfulTracesAreTold, UsualTracesAreStories, bytes_lines}
use Rattle.pr_report.specs.Contexts.{after_frame, after_reading, at_start, is_behind_data, last_after, sending_of}
use Rattle.pr_report.specs.ReadingText.{all_lines, byte_heading, byte_lines, data_heading, lines_if, outside_line, outside_lines, outside_text, reading_lines, story_frame}
use Rattle.pr_report.proofs.Lawful.{AreWithin, frame-within, inside}

-- an interval within the profile's bounds has no line
no-line : (b : Bounds) (i : Interval) (o : Option ℕ) → AreWithin (lowest_of Profile i) (profile_greatest i) (option_to_list o) → outside_line b i o ≡ []
no-line b i None h = refl
no-line b i (Some n) h = ap (λ t. if t then outside_text b i n else []) (inside b i n h.0)

no-lines : (b : Bounds) (is : List Interval) (r : Reading)
    → ((i : Interval) → AreWithin (lowest_of Profile i) (profile_greatest i) (option_to_list (length_of i r))) → outside_lines b is r ≡ []
no-lines b [] r h = refl
no-lines b (i ∷ is) r h = ap (λ x. x ++ outside_lines b is r) (no-line b i (length_of i r) (h i)) ∙ no-lines b is r h

none-listed : (asked : Bool) (b : Bounds) (r : Reading)
    → ((i : Interval) → AreWithin (lowest_of Profile i) (profile_greatest i) (option_to_list (length_of i r))) → lines_if asked b r ≡ []
none-listed true b r h = no-lines b intervals r h
none-listed false b r h = refl

-- an acknowledged byte whose intervals have no lines
abbrev IsQuiet : Detail → Reading → Type 0
IsQuiet d (Frame t (Acknowledged k)) = lines_if d.intervals d.bounds (Frame t (Acknowledged k)) ≡ []
IsQuiet d r = ⊥

abbrev AreQuiet : Detail → List Reading → Type 0
AreQuiet d [] = Unit {0}
AreQuiet d (r ∷ rs) = IsQuiet d r × AreQuiet d rs

quiet-more : (d : Detail) (rs ss : List Reading) → AreQuiet d rs → AreQuiet d ss → AreQuiet d (rs ++ ss)
quiet-more d [] ss a b = b
quiet-more d (r ∷ rs) ss a b = (a.0, quiet-more d rs ss a.1 b)

quiet-frame : (d : Detail) (x : Bool) (look : ℕ) (f : FrameTimes) → IsFrame x look f → IsQuiet d (frame_read x look f)
quiet-frame d x look f h = none-listed d.intervals d.bounds (frame_read x look f) (λ i. frame-within i x look f h)

quiet-second : (d : Detail) (k : ℕ) (m : Option SecondFrame) → IsSecond k m → AreQuiet d (second_read m)
quiet-second d k None h = tt
quiet-second d k (Some m) h = (quiet-frame d false m.look m.sent h.1, tt)

quiet-piece : (d : Detail) (b : Between) (p : Piece) → IsPiece b p → AreQuiet d (piece_read p)
quiet-piece d b (Unanswered a release) h = tt
quiet-piece d b (Attention a answer look first second end) h = (quiet-frame d false look first h.2, quiet-second d first.ack second h.3)
quiet-piece d b (DataByte look sent) h = (quiet-frame d true look sent h.1, tt)
quiet-piece d b (Dropped look) h = tt

quiet-pieces : (d : Detail) (b : Between) (ps : List Piece) → AreLawful b ps → AreQuiet d (pieces_read ps)
quiet-pieces d b [] h = tt
quiet-pieces d b (p ∷ ps) h = quiet-more d (piece_read p) (pieces_read ps) (quiet-piece d b p h.0) (quiet-pieces d (after_piece p) ps h.1)

-- the acknowledged bytes as frames of the story
abbrev frames_told : Context → List Reading → List TimedFrame
frames_told c [] = []
frames_told c (Frame t (Acknowledged k) ∷ rs) = story_frame c.last t k ∷ frames_told (after_reading c (Frame t (Acknowledged k))) rs
frames_told c (Frame t (Unacknowledged k) ∷ rs) = frames_told c rs
frames_told c (Frame t Cut ∷ rs) = frames_told c rs
frames_told c (IncompleteByte t end ∷ rs) = frames_told c rs

-- the lines are those of these frames
lines-told : (d : Detail) (c : Context) (rs : List Reading) → AreQuiet d rs → all_lines d c rs ≡ bytes_lines c (frames_told c rs)
unfolding reading_lines
lines-told d c [] h = refl
lines-told d c (Frame t (Acknowledged k) ∷ rs) h =
    let s : ByteRole = sending_of c.last t.opening.command t.byte in
    let next : Context = after_frame c s t.byte in
    let line : List ℕ = byte_lines c (story_frame c.last t k) in
    let rest : all_lines d next rs ≡ bytes_lines next (frames_told next rs) = lines-told d next rs h.1 in
    ap (λ (z : List ℕ). (line ++ z) ++ all_lines d next rs) h.0
    ∙ (ap (λ (z : List ℕ). z ++ all_lines d next rs) (append-nil line)
    ∙ ap (λ (z : List ℕ). line ++ z) rest)
lines-told d c (Frame t (Unacknowledged k) ∷ rs) h = absurd h.0
lines-told d c (Frame t Cut ∷ rs) h = absurd h.0
lines-told d c (IncompleteByte t end ∷ rs) h = absurd h.0

-- a frame by its parts
abbrev made : (look acknowledged : ℕ) → ByteRole → (byte : ℕ) → Bool → TimedFrame
made look k s byte eoi = record { look = look; acknowledged = k; sending = s; byte = byte; eoi = eoi }

same-eoi : (o : Option EoiAnswer) → is_some (pulse_read o) ≡ has_pulse o
same-eoi None = refl
same-eoi (Some p) = refl

-- a command says the same as an attention's first and as its second
if-said : (t : Bool) (byte : ℕ) → saying true (if t then sending.First else sending.Second) byte ≡ command_text byte
if-said true byte = refl
if-said false byte = refl

said-command : (b : Preceding) (byte : ℕ) → saying true (sending_of b true byte) byte ≡ command_text byte
said-command behind.Nothing byte = refl
said-command behind.Command byte = if-said (nat_lt byte command.secondary) byte
said-command behind.Data byte = refl

same-line : (look k byte : ℕ) (s s' : ByteRole) (e e' : Bool) → saying true s byte ≡ saying true s' byte → e ≡ e'
    → frame_line true (made look k s byte e) ≡ frame_line true (made look k s' byte e')
unfolding frame_line
same-line look k byte s s' e e' said eoi =
    ap (λ (z : List ℕ). moment look ++ codes " " ++ moment k ++ hex_column byte ++ z ++ line_end e) said
    ∙ ap (λ x. moment look ++ codes " " ++ moment k ++ hex_column byte ++ saying true s' byte ++ line_end x) eoi

command-line : (b : Preceding) (s : ByteRole) (look : ℕ) (f : FrameTimes) → saying true s (byte_sent f) ≡ command_text (byte_sent f)
    → frame_line true (made look f.ack (sending_of b true (byte_sent f)) (byte_sent f) (is_some (pulse_read f.pulse))) ≡ frame_line true (frame_timed s look f)
command-line b s look f said =
    same-line look f.ack (byte_sent f) (sending_of b true (byte_sent f)) s (is_some (pulse_read f.pulse)) (has_pulse f.pulse)
    (said-command b (byte_sent f) ∙ sym said) (same-eoi f.pulse)

data-line : (look : ℕ) (f : FrameTimes)
    → frame_line true (made look f.ack sending.Data (byte_sent f) (is_some (pulse_read f.pulse))) ≡ frame_line true (frame_timed sending.Data look f)
data-line look f = same-line look f.ack (byte_sent f) sending.Data sending.Data (is_some (pulse_read f.pulse)) (has_pulse f.pulse) refl (same-eoi f.pulse)

cons-same : (x y : List ℕ) (xs ys : List (List ℕ)) → x ≡ y → xs ≡ ys → x ∷ xs ≡ y ∷ ys
cons-same x y xs ys e es = ap (λ z. z ∷ xs) e ∙ ap (λ zs. y ∷ zs) es

-- the frames of pieces have the story's lines
same-lines : (c : Context) (ps : List Piece) → map (frame_line true) (frames_told c (pieces_read ps)) ≡ map (frame_line true) (pieces_timed ps)
same-lines c [] = refl
same-lines c (Unanswered a release ∷ ps) = same-lines c ps
same-lines c (Attention a answer look first None end ∷ ps) =
    let s : ByteRole = sending_of c.last true (byte_sent first) in
    cons-same _ _ _ _ (command-line c.last sending.First look first refl) (same-lines (after_frame c s (byte_sent first)) ps)
same-lines c (Attention a answer look first (Some m) end ∷ ps) =
    let s : ByteRole = sending_of c.last true (byte_sent first) in
    let c' : Context = after_frame c s (byte_sent first) in
    let s' : ByteRole = sending_of c'.last true (byte_sent m.sent) in
    cons-same _ _ _ _ (command-line c.last sending.First look first refl)
    (cons-same _ _ _ _ (command-line c'.last sending.Second m.look m.sent refl) (same-lines (after_frame c' s' (byte_sent m.sent)) ps))
same-lines c (DataByte look sent ∷ ps) = cons-same _ _ _ _ (data-line look sent) (same-lines (after_frame c sending.Data (byte_sent sent)) ps)
same-lines c (Dropped look ∷ ps) = same-lines c ps

pub lawful-told : TracesSayTheirPieces → TracesTellTheirMoments → LawfulTracesAreTold
lawful-told says tells d edges (pieces, cut) =
    let rs : List Reading = pieces_read pieces in
    let read : readings_of edges ≡ rs = says edges pieces cut in
    let timed : timed_frames edges ≡ pieces_timed pieces = tells edges pieces cut in (
      frames_told at_start rs,
      ap (all_lines d at_start) read ∙ lines-told d at_start rs (quiet-pieces d (Resting 0) pieces cut.lawful),
      same-lines at_start pieces ∙ ap (map (frame_line true)) (sym timed),
    )

-- where commands are as computers send them, each is written as it was sent
is-first : (b : Preceding) (byte : ℕ) → byte < command.secondary → sending_of b true byte ≡ sending.First
is-first behind.Nothing byte less = refl
is-first behind.Command byte less = ap (λ t. if t then sending.First else sending.Second) (lt-ltb byte command.secondary less)
is-first behind.Data byte less = refl

is-second : (byte : ℕ) → command.secondary ≤ byte → sending_of behind.Command true byte ≡ sending.Second
is-second byte more = ap (λ t. if t then sending.First else sending.Second) (le-ltb byte command.secondary more)

is-apart : (m n : ℕ) → m ≢ n → (m == n) ≡ false
is-apart m n apart = grind (arith, nat_tests)

behind-first : (byte : ℕ) → byte ≢ command.unlisten → last_after sending.First byte ≡ behind.Command
behind-first byte apart = ap (λ t. if t then behind.Nothing else behind.Command) (is-apart byte command.unlisten apart)

same-frame : (s : ByteRole) (s' : ByteRole) (look : ℕ) (f : FrameTimes) → s ≡ s'
    → made look f.ack s (byte_sent f) (is_some (pulse_read f.pulse)) ≡ frame_timed s' look f
same-frame s s' look f e =
    ap (λ z. made look f.ack z (byte_sent f) (is_some (pulse_read f.pulse))) e
    ∙ ap (λ z. made look f.ack s' (byte_sent f) z) (same-eoi f.pulse)

cons-frame : (x y : TimedFrame) (xs ys : List TimedFrame) → x ≡ y → xs ≡ ys → x ∷ xs ≡ y ∷ ys
cons-frame x y xs ys e es = ap (λ z. z ∷ xs) e ∙ ap (λ zs. y ∷ zs) es

-- an attention's second command is written as such after its first
second-told : (b : Preceding) (first : ℕ) (byte : ℕ) → first < command.secondary → command.secondary ≤ byte → first ≢ command.unlisten
    → sending_of (last_after (sending_of b true first) first) true byte ≡ sending.Second
second-told b first byte less more apart =
    ap (λ s. sending_of (last_after s first) true byte) (is-first b first less)
    ∙ (ap (λ c. sending_of c true byte) (behind-first first apart) ∙ is-second byte more)

same-frames : (before : ℕ) (c : Context) (ps : List Piece) → AreUsual before c (pieces_timed ps) → frames_told c (pieces_read ps) ≡ pieces_timed ps
same-frames before c [] h = refl
same-frames before c (Unanswered a release ∷ ps) h = same-frames before c ps h
same-frames before c (Attention a answer look first None end ∷ ps) h =
    let byte : ℕ = byte_sent first in
    let s : ByteRole = sending_of c.last true byte in
    let is : s ≡ sending.First = is-first c.last byte h.0 in
    let P : ByteRole → Type 0 = λ x. AreUsual byte (after_frame c x byte) (pieces_timed ps) in
    cons-frame _ _ _ _ (same-frame s sending.First look first is) (same-frames byte (after_frame c s byte) ps (subst P (sym is) h.1))
same-frames before c (Attention a answer look first (Some m) end ∷ ps) h =
    let byte : ℕ = byte_sent first in
    let byte' : ℕ = byte_sent m.sent in
    let s : ByteRole = sending_of c.last true byte in
    let is : s ≡ sending.First = is-first c.last byte h.0 in
    let c' : Context = after_frame c s byte in
    let s' : ByteRole = sending_of c'.last true byte' in
    let is' : s' ≡ sending.Second = second-told c.last byte byte' h.0 h.1.0.0 h.1.0.1 in
    let P : ByteRole → Type 0 = λ x. AreUsual byte' (after_frame (after_frame c x byte) sending.Second byte') (pieces_timed ps) in
    let Q : ByteRole → Type 0 = λ x. AreUsual byte' (after_frame c' x byte') (pieces_timed ps) in
    cons-frame _ _ _ _ (same-frame s sending.First look first is)
    (cons-frame _ _ _ _ (same-frame s' sending.Second m.look m.sent is')
    (same-frames byte' (after_frame c' s' byte') ps (subst Q (sym is') (subst P (sym is) h.1.1))))
same-frames before c (DataByte look sent ∷ ps) h =
    cons-frame _ _ _ _ (same-frame sending.Data sending.Data look sent refl) (same-frames (byte_sent sent) (after_frame c sending.Data (byte_sent sent)) ps h.1)
same-frames before c (Dropped look ∷ ps) h = same-frames before c ps h

-- a usual byte has its heading and its line of the story
usual-data : (behind_data : Bool) (t : Talker) → t ≡ talker.Computer → (if behind_data then [] else data_heading t) ≡ heading behind_data sending.Data
usual-data true t e = refl
usual-data false t e = ap data_heading e

usual-heading : (before : ℕ) (c : Context) (s : ByteRole) (byte : ℕ) → IsUsual before c s byte → byte_heading c s ≡ heading (is_behind_data c.last) s
usual-heading before c sending.First byte h = refl
usual-heading before c sending.Second byte h = refl
usual-heading before c sending.Data byte h = usual-data (is_behind_data c.last) c.talker h.1

usual-saying : (before : ℕ) (c : Context) (s : ByteRole) (byte : ℕ) → IsUsual before c s byte → saying c.printer_listens s byte ≡ saying true s byte
usual-saying before c sending.First byte h = refl
usual-saying before c sending.Second byte h = refl
usual-saying before c sending.Data byte h = ap (λ p. data_text p byte) h.0

usual-line : (printer : Bool) (f : TimedFrame) → saying printer f.sending f.byte ≡ saying true f.sending f.byte → frame_line printer f ≡ frame_line true f
unfolding frame_line
usual-line printer f said =
    ap (λ (z : List ℕ). moment f.look ++ codes " " ++ moment f.acknowledged ++ hex_column f.byte ++ z ++ line_end f.eoi) said

usual-byte : (before : ℕ) (c : Context) (f : TimedFrame) → IsUsual before c f.sending f.byte → byte_lines c f ≡ story_line (is_behind_data c.last) f
unfolding story_line
usual-byte before c f h =
    ap (λ (z : List ℕ). z ++ frame_line c.printer_listens f) (usual-heading before c f.sending f.byte h)
    ∙ ap (λ (z : List ℕ). heading (is_behind_data c.last) f.sending ++ z) (usual-line c.printer_listens f (usual-saying before c f.sending f.byte h))

-- a data byte is after a frame that is one
if-second : (t : Bool) → is_behind_data (if t then behind.Nothing else behind.Command) ≡ false
if-second true = refl
if-second false = refl

data-behind : (s : ByteRole) (byte : ℕ) → is_behind_data (last_after s byte) ≡ is_data s
data-behind sending.First byte = if-second (byte == command.unlisten)
data-behind sending.Second byte = refl
data-behind sending.Data byte = refl

-- the lines of usual bytes are the story's
usual-lines : (before : ℕ) (c : Context) (fs : List TimedFrame) → AreUsual before c fs → bytes_lines c fs ≡ story_lines (is_behind_data c.last) fs
usual-lines before c [] h = refl
usual-lines before c (f ∷ fs) h =
    let next : Context = after_frame c f.sending f.byte in
    ap (λ (z : List ℕ). z ++ bytes_lines next fs) (usual-byte before c f h.0)
    ∙ ap (λ (z : List ℕ). story_line (is_behind_data c.last) f ++ z)
    (usual-lines f.byte next fs h.1 ∙ ap (λ b. story_lines b fs) (data-behind f.sending f.byte))

pub usual-told : TracesSayTheirPieces → TracesTellTheirMoments → UsualTracesAreStories
usual-told says tells d edges (pieces, cut) usual =
    let rs : List Reading = pieces_read pieces in
    let read : readings_of edges ≡ rs = says edges pieces cut in
    let timed : timed_frames edges ≡ pieces_timed pieces = tells edges pieces cut in
    ap (all_lines d at_start) read
    ∙ (lines-told d at_start rs (quiet-pieces d (Resting 0) pieces cut.lawful)
    ∙ (ap (bytes_lines at_start) (same-frames 0 at_start pieces (subst (AreUsual 0 at_start) timed usual) ∙ sym timed)
    ∙ usual-lines 0 at_start (timed_frames edges) usual))
