-- Trusted: what a Value Change Dump says of the bus: samples of its three lines, up to the first fault if there is one.
use Rattle.std.specs.Prelude.{ℕ, ◌+◌, ◌-◌, ◌*◌, ◌/◌, ◌==◌, ◌&&◌, ◌||◌, Bool, true, false, not, List, [], ◌∷◌, ◌++◌, codes, drop, get_or, length, nat_le, nat_lt, take, if◌then◌else◌, Option, Some, None, Result, Ok, Err}
use Rattle.std.specs.List.{list_all}
use Rattle.std.specs.Str.{bytes_eq}
use Rattle.pr_base.specs.Digits.{is_digit}
use Rattle.pr_wire.specs.declared.Edge.{Edge}
use Rattle.pr_wire.specs.Levels.{edge_at}
use Rattle.pr_capture.specs.declared.entries.Keyword.{Keyword}
use Rattle.pr_capture.specs.declared.entries.Keyword.TheVariants.{Definitions, Other, Pause, Scope, Timescale, Upscope, Var}
use Rattle.pr_capture.specs.declared.changes.Seen.{Seen}
use Rattle.pr_capture.specs.declared.fault.Wire.{Wire}
use Rattle.pr_capture.specs.declared.fault.Wire.TheVariants.{Atn, Clock, Data}
use Rattle.pr_capture.specs.declared.fault.CaptureFault.{CaptureFault}
use Rattle.pr_capture.specs.declared.fault.CaptureFault.TheVariants.{BadLevel, BadTimescale, BadWord, NoEnd, NoDefinitions, NoLevel, NoTimescale, NoSignal, TwoSignals, Unknown}
use Rattle.pr_capture.specs.declared.signals.Probes.{Probes}
use Rattle.pr_capture.specs.declared.signals.Signals.{Signals}
use Rattle.pr_capture.specs.Recording.{◌>>=◌, ended, first_some, inverts, is_named, level_in, refused, second_name, shared, unless, with_samples, CaptureContents}
use Rattle.pr_capture.specs.Samples.{listed}
use Rattle.pr_capture.specs.Csv.{field_at}
use Rattle.pr_capture.specs.Numbers.{behind_digits, digits_in, number_from, number_in}
use Rattle.pr_capture.specs.TableTimes.{time_or}
use Rattle.pr_capture.specs.Words.{end_line, words_of}
use Rattle.pr_capture.specs.VcdPieces.{pieces_behind, Piece}
use Rattle.pr_capture.specs.VcdPieces.Piece.{Section, Stamp, Change, Stray, Resume, Unended}
use Rattle.pr_capture.specs.VcdPieces.Begun.{Nothing}

-- The header: the scale of times, and the codes of the three wires.

-- the femtoseconds of a unit of time
abbrev pub unit_in : (letters : List ℕ) → Option ℕ
unit_in l =
    if bytes_eq l (codes "s") then Some 1000000000000000
    else (if bytes_eq l (codes "ms") then Some 1000000000000
    else (if bytes_eq l (codes "us") then Some 1000000000
    else (if bytes_eq l (codes "ns") then Some 1000000
    else (if bytes_eq l (codes "ps") then Some 1000
    else (if bytes_eq l (codes "fs") then Some 1
    else None)))))

-- a scale is 1, 10 or 100 of a unit
abbrev pub scale_of : (count : List ℕ) → (unit : Option ℕ) → Option ℕ
scale_of count None = None
scale_of count (Some n) =
    if bytes_eq count (codes "1") then Some n
    else (if bytes_eq count (codes "10") then Some (10 * n)
    else (if bytes_eq count (codes "100") then Some (100 * n)
    else None))

-- the femtoseconds that the words of a section `$timescale` spell: 1 ns, or 1ns
abbrev pub scale_in : (inside : List (List ℕ)) → Option ℕ
scale_in [] = None
scale_in (both ∷ []) = scale_of (digits_in both) (unit_in (behind_digits both))
scale_in (count ∷ unit ∷ []) = scale_of count (unit_in unit)
scale_in (count ∷ unit ∷ more ∷ words) = None

-- words without what is between them
abbrev pub joined : List (List ℕ) → List ℕ
joined [] = []
joined (w ∷ ws) = w ++ joined ws

-- the name of a signal: all words of its section `$var` after its kind, its size and its code
abbrev pub name_in : (inside : List (List ℕ)) → List ℕ
name_in (kind ∷ size ∷ code ∷ names) = joined names
name_in _ = []

-- its path: each scope that it is in, and a dot; then its name
abbrev pub path_of : (scopes : List (List ℕ)) → (inside : List (List ℕ)) → List ℕ
path_of [] inside = name_in inside
path_of (s ∷ ss) inside = s ++ 46 ∷ path_of ss inside

-- a name is after one of the dots
abbrev pub ends_path : (name path : List ℕ) → Bool
ends_path name [] = false
ends_path name (b ∷ bs) = (b == 46 && is_named name bs) || ends_path name bs

-- a name is that of a signal with this path: the whole path, or its end after a dot
abbrev pub has_path : (name path : List ℕ) → Bool
has_path name path = is_named name path || ends_path name path

-- A bit of a signal of more bits, as IEC[0] of IEC[2:0].

-- the place of the last [, or the end
abbrev pub bracket_from : (place found : ℕ) → (text : List ℕ) → ℕ
bracket_from place found [] = found
bracket_from place found (b ∷ bs) = bracket_from (place + 1) (if b == 91 then place else found) bs

abbrev pub bracket_in : (text : List ℕ) → ℕ
bracket_in text = bracket_from 0 (length text) text

-- one sign, and nothing else
abbrev pub is_sign_alone : (sign : ℕ) → (text : List ℕ) → Bool
is_sign_alone sign [] = false
is_sign_alone sign (b ∷ []) = b == sign
is_sign_alone sign (b ∷ c ∷ bs) = false

-- the index of a bit: 0]
abbrev pub index_in : (text : List ℕ) → Option ℕ
index_in t = if is_sign_alone 93 (behind_digits t) then number_in t else None

-- what follows a colon
abbrev pub behind_colon : (text : List ℕ) → List ℕ
behind_colon [] = []
behind_colon (b ∷ bs) = if b == 58 then bs else []

-- how many bits are on the right of the one with an index, where the leftmost and the rightmost have these
abbrev pub place_between : (left right index : ℕ) → Option ℕ
place_between left right i =
    if nat_le right i && nat_le i left then Some (i - right)
    else (if nat_le left i && nat_le i right then Some (right - i)
    else None)

abbrev pub place_by : (left right index : Option ℕ) → Option ℕ
place_by None right i = None
place_by (Some l) None i = None
place_by (Some l) (Some r) None = None
place_by (Some l) (Some r) (Some i) = place_between l r i

-- the same of a range 2:0]
abbrev pub place_in : (range : List ℕ) → (index : Option ℕ) → Option ℕ
place_in t i = place_by (number_in t) (index_in (behind_colon (behind_digits t))) i

-- the same of a wanted name and a path, of which the one ends with an index and the other with a range
abbrev pub bit_in : (wanted path : List ℕ) → Option ℕ
bit_in wanted path =
    if has_path (take (bracket_in wanted) wanted) (take (bracket_in path) path)
    then place_in (drop (bracket_in path + 1) path) (index_in (drop (bracket_in wanted + 1) wanted))
    else None

-- The codes.

-- one of the bits of a signal
abbrev pub one_bit : (bit : Option ℕ) → Option (Option ℕ)
one_bit None = None
one_bit (Some bit) = Some (Some bit)

-- whether a signal is wanted, by its path and its size; and which of its bits, where it has more than one, by how many
-- are on its right
abbrev pub bit_wanted : (wanted path size : List ℕ) → Option (Option ℕ)
bit_wanted wanted path size =
    if bytes_eq size (codes "1") && has_path wanted path then Some None else one_bit (bit_in wanted path)

-- what is known of a wire's signal: its code and bit, and the line of the first other signal that has its name
pub record Found : Type 0 where
  pub code : Option (List ℕ)
  pub bit : Option ℕ
  pub other : Option ℕ

abbrev pub nothing : Found
nothing = record { code = None; bit = None; other = None }

-- two bits are the same
abbrev pub is_bit : (known bit : Option ℕ) → Bool
is_bit None None = true
is_bit None (Some b) = false
is_bit (Some a) None = false
is_bit (Some a) (Some b) = a == b

-- the line of another signal, if it is one
abbrev pub other_line : (line : ℕ) → (known : List ℕ) → (known_bit : Option ℕ) → (code : List ℕ) → (bit : Option ℕ) → Option ℕ
other_line line known known_bit code bit = if bytes_eq known code && is_bit known_bit bit then None else Some line

-- a signal more has the name
abbrev pub found_too : (line : ℕ) → Found → (known : Option (List ℕ)) → (code : List ℕ) → (bit : Option ℕ) → Found
found_too line f None code bit = record { code = Some code; bit = bit; other = f.other }
found_too line f (Some known) code bit = record {
  code = Some known;
  bit = f.bit;
  other = first_some f.other (other_line line known f.bit code bit);
}

abbrev pub with_code : (line : ℕ) → Found → (code : List ℕ) → (bit : Option (Option ℕ)) → Found
with_code line f code None = f
with_code line f code (Some bit) = found_too line f f.code code bit

-- the words of a section `$var`: a kind, a size, a code and a name
abbrev pub with_words : (line : ℕ) → Found → (wanted path : List ℕ) → (inside : List (List ℕ)) → Found
with_words line f wanted path (kind ∷ size ∷ code ∷ name ∷ more) = with_code line f code (bit_wanted wanted path size)
with_words line f wanted path _ = f

-- what is known of the signals of the wires, and of one with CLOCK's second name
pub record Codes : Type 0 where
  pub atn : Found
  pub clock : Found
  pub second : Found
  pub line : Found

abbrev pub no_codes : Codes
no_codes = record { atn = nothing; clock = nothing; second = nothing; line = nothing }

-- CLOCK's code, by its first name or else by its second
abbrev pub found_or : Option (List ℕ) → (first second : Found) → Found
found_or None first second = second
found_or (Some code) first second = first

abbrev pub clock_found : Codes → Found
clock_found c = found_or c.clock.code c.clock c.second

-- signals of these kinds have no levels
abbrev pub has_levels : (kind : Option (List ℕ)) → Bool
has_levels None = true
has_levels (Some k) =
    not (bytes_eq k (codes "real") || bytes_eq k (codes "realtime") || bytes_eq k (codes "string")
    || bytes_eq k (codes "event"))

-- a signal with this path, on a line
abbrev pub with_path : Signals → Codes → (line : ℕ) → (path : List ℕ) → (inside : List (List ℕ)) → Codes
with_path s c line path inside = record {
  atn = with_words line c.atn s.atn.now path inside;
  clock = with_words line c.clock s.clock.now path inside;
  second = with_words line c.second (second_name s) path inside;
  line = with_words line c.line s.line.now path inside;
}

abbrev pub with_signal : Signals → Codes → (line : ℕ) → (scopes inside : List (List ℕ)) → Codes
with_signal s c line scopes inside = if has_levels (field_at 0 inside) then with_path s c line (path_of scopes inside) inside else c

-- a scope begins, whose kind and name these are
abbrev pub with_scope : (scopes : List (List ℕ)) → (name : Option (List ℕ)) → List (List ℕ)
with_scope scopes None = scopes ++ [] ∷ []
with_scope scopes (Some name) = scopes ++ name ∷ []

-- the last of them ends
abbrev pub without_last : (scopes : List (List ℕ)) → List (List ℕ)
without_last scopes = take (length scopes - 1) scopes

-- The places of a dump: in the header and some scopes, and among the changes, where times have a scale and some
-- levels are known, and after them in a pause.
pub data Place : Type 0 where
  Header : (scale : Option ℕ) → (scopes : List (List ℕ)) → Codes → Place
  Changes : (scale : ℕ) → Codes → Seen → Place
  Paused : (scale : ℕ) → Codes → Seen → Place

abbrev pub nothing_seen : Seen
nothing_seen = record { time = 0; atn = None; clock = None; line = None }

-- the scale, which the header must have
abbrev pub scale_or : (line : ℕ) → Option ℕ → Result ℕ CaptureFault
scale_or line None = Err (NoTimescale line)
scale_or line (Some scale) = Ok scale

-- a section `$timescale` has to give one
abbrev pub scale_told : (line : ℕ) → Option ℕ → Result ℕ CaptureFault
scale_told line None = Err (BadTimescale line)
scale_told line (Some scale) = Ok scale

-- a wire has a signal
abbrev pub code_or : (line : ℕ) → Wire → Option (List ℕ) → Result (List ℕ) CaptureFault
code_or line wire None = Err (NoSignal line wire)
code_or line wire (Some code) = Ok code

-- and no other
abbrev pub alone : Wire → (other : Option ℕ) → (code : List ℕ) → Result (List ℕ) CaptureFault
alone wire None code = Ok code
alone wire (Some line) code = Err (TwoSignals line wire)

abbrev pub signal_or : (line : ℕ) → Wire → Found → Result (List ℕ) CaptureFault
signal_or line wire f = code_or line wire f.code >>= λ code. alone wire f.other code

-- a code is that of a wire
abbrev pub is_code : Option (List ℕ) → (code : List ℕ) → Bool
is_code None code = false
is_code (Some known) code = bytes_eq known code

-- two wires have one signal: one code, and not two of its bits
abbrev pub is_code_too : (known other : Option (List ℕ)) → Bool
is_code_too known None = false
is_code_too known (Some code) = is_code known code

abbrev pub is_bit_too : (bit other : Option ℕ) → Bool
is_bit_too None other = true
is_bit_too (Some a) None = true
is_bit_too (Some a) (Some b) = a == b

abbrev pub is_same : Found → Found → Bool
is_same f g = is_code_too f.code g.code && is_bit_too f.bit g.bit

abbrev pub shared_in : (line : ℕ) → Codes → Option CaptureFault
shared_in line c = shared line (is_same c.atn (clock_found c)) (is_same c.atn c.line || is_same (clock_found c) c.line)

-- the end of the header, where each wire has a signal of its own
abbrev pub header_ended : (line : ℕ) → (scale : Option ℕ) → Codes → Result Place CaptureFault
header_ended line scale c =
    scale_or line scale >>= λ n.
    signal_or line Atn c.atn >>= λ atn.
    signal_or line Clock (clock_found c) >>= λ clock.
    signal_or line Data c.line >>= λ code.
    unless (shared_in line c) (Ok (Changes n c nothing_seen))

-- a section of the header
abbrev pub headed : Signals → (scale : Option ℕ) → (scopes : List (List ℕ)) → Codes → (line : ℕ) → Keyword
    → (inside : List (List ℕ)) → Result Place CaptureFault
headed s scale scopes c line Timescale inside = scale_told line (scale_in inside) >>= λ n. Ok (Header (Some n) scopes c)
headed s scale scopes c line Scope inside = Ok (Header scale (with_scope scopes (field_at 1 inside)) c)
headed s scale scopes c line Upscope inside = Ok (Header scale (without_last scopes) c)
headed s scale scopes c line Var inside = Ok (Header scale scopes (with_signal s c line scopes inside))
headed s scale scopes c line Definitions inside = header_ended line scale c
headed s scale scopes c line Pause inside = Ok (Header scale scopes c)
headed s scale scopes c line Other inside = Ok (Header scale scopes c)

-- The changes.

-- whole microseconds, as long as they are below 2 ^ 64
abbrev pub whole_micros : (scale : ℕ) → (number : Option ℕ) → Option ℕ
whole_micros scale None = None
whole_micros scale (Some n) =
    if nat_lt (n * scale / 1000000000) 18446744073709551616 then Some (n * scale / 1000000000) else None

-- digits, at least one
abbrev pub is_number : (letters : List ℕ) → Bool
is_number [] = false
is_number (d ∷ ds) = list_all is_digit (d ∷ ds)

-- the microseconds that digits spell by the dump's own scale
abbrev pub time_at : (scale : ℕ) → (digits : List ℕ) → Option ℕ
time_at scale [] = None
time_at scale (d ∷ ds) = if list_all is_digit (d ∷ ds) then whole_micros scale (number_from 0 (d ∷ ds)) else None

-- all three levels are known
abbrev pub all_known : (atn clock line : Option Bool) → Bool
all_known (Some a) (Some c) (Some l) = true
all_known _ _ _ = false

-- the level of a wire; x and z leave it unknown until all three levels have been known at once
abbrev pub level_behind : (known : Bool) → (line : ℕ) → (inverted : Bool) → (level : ℕ)
    → Result (Option Bool) CaptureFault
level_behind known line inverted b =
    if (b == 120 || b == 88 || b == 122 || b == 90) && not known then Ok None
    else (level_in line inverted b >>= λ l. Ok (Some l))

-- the level of the leftmost bit stands for those that lack on its left, but for 1, which stands for 0
abbrev pub extended : (bits : List ℕ) → Option ℕ
extended [] = None
extended (b ∷ bs) = if b == 49 then Some 48 else Some b

-- the level of a bit among bits, by how many are on its right; a signal of one bit has one
abbrev pub level_at : (bit : Option ℕ) → (bits : List ℕ) → Option ℕ
level_at None [] = None
level_at None (b ∷ []) = Some b
level_at None (b ∷ c ∷ bs) = None
level_at (Some right) bits =
    if nat_lt right (length bits) then Some (get_or bits (length bits - 1 - right) 0) else extended bits

-- a level there has to be
abbrev pub level_told : (known : Bool) → (line : ℕ) → (inverted : Bool) → (level : Option ℕ) → Result (Option Bool) CaptureFault
level_told known line inverted None = Err (BadLevel line)
level_told known line inverted (Some b) = level_behind known line inverted b

-- what is known of a wire's level after a change; that of another signal says nothing
abbrev pub level_if : (known : Bool) → (line : ℕ) → (inverted : Bool) → Found → (bits code : List ℕ) → (before : Option Bool)
    → Result (Option Bool) CaptureFault
level_if known line inverted f bits code before =
    if is_code f.code code then level_told known line inverted (level_at f.bit bits) else Ok before

-- the same of each wire
abbrev pub changed : Probes → Codes → Seen → (line : ℕ) → (bits code : List ℕ) → Result Seen CaptureFault
changed probes c seen line bits code =
    level_if (all_known seen.atn seen.clock seen.line) line (inverts probes Atn) c.atn bits code seen.atn >>= λ atn.
    level_if (all_known seen.atn seen.clock seen.line) line (inverts probes Clock) (clock_found c) bits code seen.clock >>= λ clock.
    level_if (all_known seen.atn seen.clock seen.line) line (inverts probes Data) c.line bits code seen.line >>= λ last.
    Ok (record { time = seen.time; atn = atn; clock = clock; line = last })

-- a time stamp: whole microseconds, no earlier than the stamp before
abbrev pub stamped : (scale : ℕ) → Seen → (line : ℕ) → (digits : List ℕ) → Result Seen CaptureFault
stamped scale seen line digits =
    time_or line seen.time (time_at scale digits) >>= λ t.
    Ok (record { time = t; atn = seen.atn; clock = seen.clock; line = seen.line })

-- a sample, once all three levels are known
abbrev pub sample_in : (time : ℕ) → (atn clock line : Option Bool) → Option Edge
sample_in time (Some a) (Some c) (Some l) = Some (edge_at time a c l)
sample_in time _ _ _ = None

-- recording pauses after some sections
abbrev pub pauses : Keyword → Bool
pauses Timescale = false
pauses Scope = false
pauses Upscope = false
pauses Var = false
pauses Definitions = false
pauses Pause = true
pauses Other = false

abbrev pub behind_section : Keyword → (scale : ℕ) → Codes → Seen → Place
behind_section k scale c seen = if pauses k then Paused scale c seen else Changes scale c seen

-- recording goes on after a pause: where the levels were known, nobody knows them in between
abbrev pub resumed : (line : ℕ) → Place → (before : Option Edge) → Result Place CaptureFault
resumed line p None = Ok p
resumed line p (Some e) = Err (Unknown line)

-- The whole.

-- a piece leads from one place to the next, or has a fault. In the header other words than those of sections say nothing, but for
-- `#` and digits, which show that the header did not end; among the changes sections say
-- nothing, but that recording pauses; then nothing counts until it goes on
abbrev pub step : Signals → Place → Piece → Result Place CaptureFault
step s (Header scale scopes c) (Section line k inside) = headed s scale scopes c line k inside
step s (Header scale scopes c) (Stamp line digits) = if is_number digits then Err (NoDefinitions line) else Ok (Header scale scopes c)
step s (Header scale scopes c) (Change line bits code) = Ok (Header scale scopes c)
step s (Header scale scopes c) (Stray line) = Ok (Header scale scopes c)
step s (Header scale scopes c) (Resume line) = Ok (Header scale scopes c)
step s (Header scale scopes c) (Unended line) = Err (NoEnd line)
step s (Changes scale c seen) (Section line k inside) = Ok (behind_section k scale c seen)
step s (Changes scale c seen) (Stamp line digits) = stamped scale seen line digits >>= λ next. Ok (Changes scale c next)
step s (Changes scale c seen) (Change line bits code) =
    changed s.probes c seen line bits code >>= λ next. Ok (Changes scale c next)
step s (Changes scale c seen) (Stray line) = Err (BadWord line)
step s (Changes scale c seen) (Resume line) = resumed line (Changes scale c seen) (sample_in seen.time seen.atn seen.clock seen.line)
step s (Changes scale c seen) (Unended line) = Err (NoEnd line)
step s (Paused scale c seen) (Section line k inside) = Ok (Paused scale c seen)
step s (Paused scale c seen) (Stamp line digits) = Ok (Paused scale c seen)
step s (Paused scale c seen) (Change line bits code) = Ok (Paused scale c seen)
step s (Paused scale c seen) (Stray line) = Err (BadWord line)
step s (Paused scale c seen) (Resume line) =
    resumed line (Changes scale c seen) (sample_in seen.time seen.atn seen.clock seen.line)
step s (Paused scale c seen) (Unended line) = Err (NoEnd line)

abbrev pub sample_of : Place → Option Edge
sample_of (Header scale scopes c) = None
sample_of (Changes scale c seen) = sample_in seen.time seen.atn seen.clock seen.line
sample_of (Paused scale c seen) = None

-- the sample after a piece, and what the rest says
abbrev pub goes_on : Result Place CaptureFault → (Place → CaptureContents) → CaptureContents
goes_on (Err f) rest = refused f
goes_on (Ok p) rest = with_samples (listed (sample_of p)) (rest p)

-- the first wire without a level
abbrev pub without_level : (atn clock line : Option Bool) → Option Wire
without_level None clock line = Some Atn
without_level (Some a) None line = Some Clock
without_level (Some a) (Some c) None = Some Data
without_level (Some a) (Some c) (Some l) = None

-- a dump of an empty trace: it gives no level and no moment after 0
abbrev pub is_blank : (time : ℕ) → (atn clock line : Option Bool) → Bool
is_blank time None None None = time == 0
is_blank time _ _ _ = false

-- each wire must have a level
abbrev pub level_wanted : (end : ℕ) → (missing : Option Wire) → CaptureContents
level_wanted end None = ended
level_wanted end (Some wire) = refused (NoLevel end wire)

abbrev pub contents_seen : (end : ℕ) → Seen → CaptureContents
contents_seen end seen =
    if is_blank seen.time seen.atn seen.clock seen.line then ended
    else level_wanted end (without_level seen.atn seen.clock seen.line)

-- a text ends on this line
abbrev pub contents_at_end : (end : ℕ) → Place → CaptureContents
contents_at_end end (Header scale scopes c) = refused (NoDefinitions end)
contents_at_end end (Changes scale c seen) = contents_seen end seen
contents_at_end end (Paused scale c seen) = contents_seen end seen

-- what pieces say from a place on
abbrev pub piece_contents : Signals → (end : ℕ) → Place → List Piece → CaptureContents
piece_contents s end p [] = contents_at_end end p
piece_contents s end p (q ∷ qs) = goes_on (step s p q) (λ next. piece_contents s end next qs)

-- what a text says
unfoldable pub vcd_contents : Signals → List ℕ → CaptureContents
vcd_contents s text = piece_contents s (end_line 1 text) (Header None [] no_codes) (pieces_behind Nothing (words_of text))
