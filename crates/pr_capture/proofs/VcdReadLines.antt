-- What is written of edges, as it is read: the head, time stamps and changes.
use Rattle.std.proofs.Common.{◌≡◌, ℕ, ◌+◌, ◌-◌, ◌*◌, ◌/◌, ◌<◌, ◌≤◌, ◌^◌, Bool, true, false, List, [], ◌∷◌, ◌++◌, length, refl, ap, sym, subst, ◌∙◌, arith, rules, append_assoc, nat_lt, None, Some, decimal}
use Rattle.std.specs.Prelude.{not, codes, Ok}
use Rattle.std.specs.List.{list_all}
use Rattle.std.specs.Str.{bytes_eq}
use Rattle.std.proofs.lemmas.Fmt.{digits_decimal, digits_value-decimal, decimal_nonempty}
use Rattle.std.proofs.lemmas.Str.Parse.{IsNumeralModel, numerals_by_fold}
use Rattle.std.proofs.lemmas.Grind.{common_steps}
use Rattle.pr_base.specs.Digits.{is_digit, number_after}
use Rattle.pr_wire.specs.declared.Levels.{Levels}
use Rattle.pr_wire.specs.declared.Edge.{Edge}
use Rattle.pr_wire.specs.Levels.{edge_at}
use Rattle.pr_capture.specs.declared.changes.Seen.{Seen}
use Rattle.pr_capture.specs.declared.signals.Probes.{Probes}
use Rattle.pr_capture.specs.declared.signals.Signals.{Signals}
use Rattle.pr_capture.specs.Recording.{◌>>=◌, alike, with_samples, CaptureContents}
use Rattle.pr_capture.specs.Samples.{listed}
use Rattle.pr_capture.specs.Numbers.{number_from}
use Rattle.pr_capture.specs.Words.{end_line, is_space, words_behind, Word}
use Rattle.pr_capture.specs.VcdPieces.{entry_of, pieces_behind, with_word, Piece}
use Rattle.pr_capture.specs.VcdPieces.Piece.{Section}
use Rattle.pr_capture.specs.declared.entries.Entry.TheVariants.{Opens}
use Rattle.pr_capture.specs.declared.entries.Keyword.{Keyword}
use Rattle.pr_capture.specs.declared.entries.Keyword.TheVariants.{Definitions, Scope, Timescale, Upscope, Var}
use Rattle.pr_capture.specs.VcdPieces.Begun.{Inside, Nothing}
use Rattle.pr_capture.specs.VcdReading.{goes_on, no_codes, nothing, nothing_seen, piece_contents, sample_in, sample_of, stamped, step, time_at, vcd_contents, with_signal, Codes, Found, Place}
use Rattle.pr_capture.specs.VcdReading.Place.{Changes, Header}
use Rattle.pr_capture.specs.VcdSteps.{is_letter}
use Rattle.pr_capture.specs.Vcd.{change, change_if, edge_changes, head, last_edge, levels_changes, stamp, vcd_changes, vcd_end}
use Rattle.pr_capture.specs.VcdReadingLaws.{IsAsWritten, RunsOn}
use Rattle.pr_capture.proofs.CsvReading.{behind-behind}
use Rattle.pr_capture.proofs.VcdTelling.{letters-end, letters-words}

-- Numbers.

-- digits spell no less than what they are after
no-less : (n : ℕ) (ds : List ℕ) → n ≤ number_after n ds
no-less n [] = omega arith
no-less n (d ∷ ds) = let more : 10 * n + (d - 48) ≤ number_after (10 * n + (d - 48)) ds = no-less (10 * n + (d - 48)) ds in omega (arith, more)

-- a number below 2 ^ 64 is read
number-read : (n : ℕ) (ds : List ℕ) → n < 18446744073709551616 → number_after n ds < 18446744073709551616 → number_from n ds ≡ Some (number_after n ds)
number-read n [] h k = refl
number-read n (d ∷ ds) h k =
    let more : 10 * n + (d - 48) ≤ number_after (10 * n + (d - 48)) ds = no-less (10 * n + (d - 48)) ds in
    let small : 10 * n + (d - 48) < 18446744073709551616 = omega (arith, more, k) in
    let yes : nat_lt (10 * n + (d - 48)) 18446744073709551616 ≡ true = grind (arith, common_steps) in
    rw yes (number-read (10 * n + (d - 48)) ds small k)

own : IsNumeralModel (λ ds. list_all is_digit ds ≡ true) (number_after 0)
own = numerals_by_fold _ (search rules) number_after (search rules)

-- a time that is written in decimal is read
time-read : (t : ℕ) → t < 2 ^ 64 → time_at 1000000000 (decimal t) ≡ Some t
time-read t h = step (decimal t) refl (digits_decimal own t h) (digits_value-decimal own t h) (decimal_nonempty t h)
  where
    step : (ds : List ℕ) → decimal t ≡ ds → list_all is_digit ds ≡ true → number_after 0 ds ≡ t → 0 < length ds → time_at 1000000000 (decimal t) ≡ Some t
    step [] e all value some = absurd (omega arith)
    step (d ∷ ds) e all value some =
        let small : number_after 0 (d ∷ ds) < 18446744073709551616 = omega (arith, value, h) in
        let read : number_from 0 (d ∷ ds) ≡ Some t = number-read 0 (d ∷ ds) (omega arith) small ∙ ap Some value in
        let same : t * 1000000000 / 1000000000 ≡ t = omega arith in
        let yes : nat_lt t 18446744073709551616 ≡ true = grind (arith, common_steps) in
        rw (e, all, read, same, yes) refl

-- Words.

-- digits are letters
digit-letter : (d : ℕ) → is_digit d ≡ true → is_space d ≡ false
digit-letter d h = grind (arith, common_steps)

digits-letters : (ds : List ℕ) → list_all is_digit ds ≡ true → list_all is_letter ds ≡ true
digits-letters [] h = refl
digits-letters (d ∷ ds) h =
    let here : is_digit d ≡ true = grind (arith, common_steps) in
    let more : list_all is_digit ds ≡ true = grind (arith, common_steps) in
    rw (digit-letter d here) (digits-letters ds more)

-- Places among the changes.

-- a code of one sign
abbrev pub coded : ℕ → Found
coded code = record { code = Some (code ∷ []); bit = None; other = None }

-- the codes that are written
abbrev pub written : Codes
written = record { atn = coded 65; clock = coded 67; second = nothing; line = coded 68 }

-- what a text says that goes on here, among the changes
abbrev pub told_here : Signals → (n : ℕ) → Seen → (text : List ℕ) → CaptureContents
told_here s n seen text = piece_contents s (end_line n text) (Changes 1000000000 written seen) (pieces_behind Nothing (words_behind n [] text))

-- a text leads from what is known to what is known after it, and has samples
abbrev pub Reads : Signals → (text : List ℕ) → (old new : Seen) → (samples : List Edge) → Type 0
Reads s text old new samples = (n : ℕ) (rest : List ℕ) → (m : ℕ) × (told_here s n old (text ++ rest) ≡ with_samples samples (told_here s m new rest))

-- texts after texts
pub reads-append : (s : Signals) (a b : List ℕ) (x y z : Seen) (p q : List Edge) → Reads s a x y p → Reads s b y z q → Reads s (a ++ b) x z (p ++ q)
reads-append s a b x y z p q h k = λ n rest.
    let f = h n (b ++ rest) in
    let g = k f.0 rest in
    (g.0, ap (told_here s n x) (append_assoc a b rest) ∙ (f.1 ∙ (ap (with_samples p) g.1 ∙ behind-behind p q (told_here s g.0 z rest))))

-- nothing
reads-none : (s : Signals) (seen : Seen) → Reads s [] seen seen []
reads-none s seen = λ n rest. (n, refl)

-- a time stamp
stamp-known : (seen : Seen) (n t : ℕ) → t < 2 ^ 64 → seen.time ≤ t
    → stamped 1000000000 seen n (decimal t) ≡ Ok (record { time = t; atn = seen.atn; clock = seen.clock; line = seen.line })
stamp-known seen n t small later =
    let read : time_at 1000000000 (decimal t) ≡ Some t = time-read t small in
    let no : nat_lt t seen.time ≡ false = grind (arith, common_steps) in
    rw (read, no) refl

reads-stamp : (s : Signals) (seen : Seen) (t : ℕ) → t < 2 ^ 64 → seen.time ≤ t
    → Reads s (stamp t) seen (record { time = t; atn = seen.atn; clock = seen.clock; line = seen.line }) (listed (sample_in t seen.atn seen.clock seen.line))
unfolding stamp
reads-stamp s seen t small later = λ n rest.
    let digits : list_all is_letter (decimal t) ≡ true = digits-letters (decimal t) (digits_decimal own t small) in
    let line : end_line n (decimal t ++ 10 ∷ rest) ≡ end_line (n + 1) rest = letters-end n (decimal t) (10 ∷ rest) digits in
    let words = letters-words n (35 ∷ []) (decimal t) (10 ∷ rest) digits in (
      n + 1,
      ap (λ v. told_here s n seen (35 ∷ v)) (append_assoc (decimal t) (10 ∷ []) rest)
          ∙ (ap (λ end. piece_contents s end (Changes 1000000000 written seen) (pieces_behind Nothing (words_behind n (35 ∷ []) (decimal t ++ 10 ∷ rest)))) line
          ∙ (ap (λ ws. piece_contents s (end_line (n + 1) rest) (Changes 1000000000 written seen) (pieces_behind Nothing ws)) words
          ∙ ap (λ v. goes_on (v >>= λ next. Ok (Changes 1000000000 written next)) (λ next. piece_contents s (end_line (n + 1) rest) next (pieces_behind Nothing (words_behind (n + 1) [] rest))))
          (stamp-known seen n t small later))),
    )

-- the changes of the wires
abbrev with_atn : Seen → Bool → Seen
with_atn seen l = record { time = seen.time; atn = Some l; clock = seen.clock; line = seen.line }

abbrev with_clock : Seen → Bool → Seen
with_clock seen l = record { time = seen.time; atn = seen.atn; clock = Some l; line = seen.line }

abbrev with_line : Seen → Bool → Seen
with_line seen l = record { time = seen.time; atn = seen.atn; clock = seen.clock; line = Some l }

abbrev sampled : Seen → List Edge
sampled seen = listed (sample_in seen.time seen.atn seen.clock seen.line)

-- what is read after a change
abbrev told_with : Signals → Seen → (n : ℕ) → (rest : List ℕ) → CaptureContents
told_with s seen n rest = with_samples (sampled seen) (told_here s (n + 1) seen rest)

reads-atn : (s : Signals) → s.probes ≡ alike false → (seen : Seen) (l : Bool) → Reads s (change 65 l) seen (with_atn seen l) (sampled (with_atn seen l))
unfolding change
reads-atn s i seen true = λ n rest. (n + 1, ap (λ (v : Probes). told_with s (with_atn seen (not v.atn)) n rest) i)
reads-atn s i seen false = λ n rest. (n + 1, ap (λ (v : Probes). told_with s (with_atn seen v.atn) n rest) i)

reads-clock : (s : Signals) → s.probes ≡ alike false → (seen : Seen) (l : Bool) → Reads s (change 67 l) seen (with_clock seen l) (sampled (with_clock seen l))
unfolding change
reads-clock s i seen true = λ n rest. (n + 1, ap (λ (v : Probes). told_with s (with_clock seen (not v.clock)) n rest) i)
reads-clock s i seen false = λ n rest. (n + 1, ap (λ (v : Probes). told_with s (with_clock seen v.clock) n rest) i)

reads-line : (s : Signals) → s.probes ≡ alike false → (seen : Seen) (l : Bool) → Reads s (change 68 l) seen (with_line seen l) (sampled (with_line seen l))
unfolding change
reads-line s i seen true = λ n rest. (n + 1, ap (λ (v : Probes). told_with s (with_line seen (not v.line)) n rest) i)
reads-line s i seen false = λ n rest. (n + 1, ap (λ (v : Probes). told_with s (with_line seen v.line) n rest) i)

-- Edges.

-- the levels of an edge are known
abbrev pub at : (time : ℕ) → (atn clock line : Bool) → Seen
at t a c l = record { time = t; atn = Some a; clock = Some c; line = Some l }

abbrev pub seen_at : Edge → Seen
seen_at e = at e.time e.levels.atn e.levels.clock e.levels.line

-- an edge, if two levels differ
abbrev pub where_differ : (x y : Bool) → Edge → List Edge
where_differ true true e = []
where_differ false false e = []
where_differ true false e = e ∷ []
where_differ false true e = e ∷ []

atn-if : (s : Signals) → s.probes ≡ alike false → (t : ℕ) (x y c l : Bool) → Reads s (change_if 65 x y) (at t x c l) (at t y c l) (where_differ x y (edge_at t y c l))
atn-if s i t true true c l = reads-none s (at t true c l)
atn-if s i t false false c l = reads-none s (at t false c l)
atn-if s i t true false c l = reads-atn s i (at t true c l) false
atn-if s i t false true c l = reads-atn s i (at t false c l) true

clock-if : (s : Signals) → s.probes ≡ alike false → (t : ℕ) (a x y l : Bool) → Reads s (change_if 67 x y) (at t a x l) (at t a y l) (where_differ x y (edge_at t a y l))
clock-if s i t a true true l = reads-none s (at t a true l)
clock-if s i t a false false l = reads-none s (at t a false l)
clock-if s i t a true false l = reads-clock s i (at t a true l) false
clock-if s i t a false true l = reads-clock s i (at t a false l) true

line-if : (s : Signals) → s.probes ≡ alike false → (t : ℕ) (a c x y : Bool) → Reads s (change_if 68 x y) (at t a c x) (at t a c y) (where_differ x y (edge_at t a c y))
line-if s i t a c true true = reads-none s (at t a c true)
line-if s i t a c false false = reads-none s (at t a c false)
line-if s i t a c true false = reads-line s i (at t a c true) false
line-if s i t a c false true = reads-line s i (at t a c false) true

-- the samples of an edge after another
abbrev pub samples_at : (t : ℕ) → (b l : Levels) → List Edge
samples_at t b l =
    (edge_at t b.atn b.clock b.line ∷ [])
    ++ ((where_differ b.atn l.atn (edge_at t l.atn b.clock b.line) ++ where_differ b.clock l.clock (edge_at t l.atn l.clock b.line))
    ++ where_differ b.line l.line (edge_at t l.atn l.clock l.line))

reads-edge : (s : Signals) → s.probes ≡ alike false → (b e : Edge) → b.time < e.time → e.time + 1000 < 2 ^ 64
    → Reads s (edge_changes (Some b) e) (seen_at b) (seen_at e) (samples_at e.time b.levels e.levels)
unfolding edge_changes
reads-edge s i b e later small =
    let t : ℕ = e.time in
    let k : Levels = b.levels in
    let l : Levels = e.levels in
    let first : List Edge = edge_at t k.atn k.clock k.line ∷ [] in
    let p : List Edge = where_differ k.atn l.atn (edge_at t l.atn k.clock k.line) in
    let q : List Edge = where_differ k.clock l.clock (edge_at t l.atn l.clock k.line) in
    let r : List Edge = where_differ k.line l.line (edge_at t l.atn l.clock l.line) in
    reads-append s (stamp t) (levels_changes (Some b) l) (seen_at b) (at t k.atn k.clock k.line) (seen_at e) first ((p ++ q) ++ r)
    (reads-stamp s (seen_at b) t (omega arith) (omega arith))
    (reads-append s (change_if 65 k.atn l.atn ++ change_if 67 k.clock l.clock) (change_if 68 k.line l.line) (at t k.atn k.clock k.line) (at t l.atn l.clock k.line) (seen_at e) (p ++ q) r
    (reads-append s (change_if 65 k.atn l.atn) (change_if 67 k.clock l.clock) (at t k.atn k.clock k.line) (at t l.atn k.clock k.line) (at t l.atn l.clock k.line) p q
    (atn-if s i t k.atn l.atn k.clock k.line)
    (clock-if s i t l.atn k.clock l.clock k.line))
    (line-if s i t l.atn l.clock k.line l.line))

pub reads-first : (s : Signals) → s.probes ≡ alike false → (e : Edge) → e.time + 1000 < 2 ^ 64 → Reads s (edge_changes None e) nothing_seen (seen_at e) (e ∷ [])
unfolding edge_changes
reads-first s i e small =
    let t : ℕ = e.time in
    let l : Levels = e.levels in
    reads-append s (stamp t) (levels_changes None l) nothing_seen (record { time = t; atn = None; clock = None; line = None }) (seen_at e) [] (e ∷ [])
    (reads-stamp s nothing_seen t (omega arith) (omega arith))
    (reads-append s (change 65 l.atn ++ change 67 l.clock) (change 68 l.line) (record { time = t; atn = None; clock = None; line = None })
    (record { time = t; atn = Some l.atn; clock = Some l.clock; line = None }) (seen_at e) [] (e ∷ [])
    (reads-append s (change 65 l.atn) (change 67 l.clock) (record { time = t; atn = None; clock = None; line = None }) (record { time = t; atn = Some l.atn; clock = None; line = None })
    (record { time = t; atn = Some l.atn; clock = Some l.clock; line = None }) [] []
    (reads-atn s i (record { time = t; atn = None; clock = None; line = None }) l.atn)
    (reads-clock s i (record { time = t; atn = Some l.atn; clock = None; line = None }) l.clock))
    (reads-line s i (record { time = t; atn = Some l.atn; clock = Some l.clock; line = None }) l.line))

-- the last sample: that of the last time stamp
abbrev pub last_sample : Edge → Edge
last_sample b = edge_at (b.time + 1000) b.levels.atn b.levels.clock b.levels.line

-- the samples after an edge, up to the end
abbrev pub samples_behind : (b : Edge) → List Edge → List Edge
samples_behind b [] = last_sample b ∷ []
samples_behind b (e ∷ es) = samples_at e.time b.levels e.levels ++ samples_behind e es

-- the last edge
abbrev pub last_of : (b : Edge) → List Edge → Edge
last_of b [] = b
last_of b (e ∷ es) = last_of e es

-- all changes after an edge, and the end
pub reads-behind : (s : Signals) → s.probes ≡ alike false → (b : Edge) (es : List Edge) → b.time + 1000 < 2 ^ 64 → RunsOn (Some b) es
    → Reads s (vcd_changes (Some b) es ++ vcd_end (last_edge (Some b) es)) (seen_at b) (seen_at (last_sample (last_of b es))) (samples_behind b es)
reads-behind s i b [] small h = reads-stamp s (seen_at b) (b.time + 1000) small (omega arith)
reads-behind s i b (e ∷ es) small h =
    subst (λ (text : List ℕ). Reads s text (seen_at b) (seen_at (last_sample (last_of e es))) (samples_behind b (e ∷ es)))
    (sym (append_assoc (edge_changes (Some b) e) (vcd_changes (Some e) es) (vcd_end (last_edge (Some e) es))))
    (reads-append s (edge_changes (Some b) e) (vcd_changes (Some e) es ++ vcd_end (last_edge (Some e) es)) (seen_at b) (seen_at e) (seen_at (last_sample (last_of e es)))
    (samples_at e.time b.levels e.levels) (samples_behind e es) (reads-edge s i b e h.0 h.2) (reads-behind s i e es h.2 h.3))

-- The head.

-- what a text says that goes on here
told_place : Signals → (n : ℕ) → Place → (text : List ℕ) → CaptureContents
told_place s n p text = piece_contents s (end_line n text) p (pieces_behind Nothing (words_behind n [] text))

-- the words of a section's line
abbrev on_line : (n : ℕ) → List (List ℕ) → List Word → List Word
on_line n [] ws = ws
on_line n (l ∷ ls) ws = record { line = n; letters = l } ∷ on_line n ls ws

abbrev kept_of : Keyword → (inside : List (List ℕ)) → List (List ℕ) → List (List ℕ)
kept_of k inside [] = inside
kept_of k inside (l ∷ ls) = kept_of k (with_word k inside l) ls

abbrev is_inner_word : List ℕ → Bool
is_inner_word l = not (bytes_eq l (codes "$end"))

inner-words : (n : ℕ) (k : Keyword) (inside ls : List (List ℕ)) (ws : List Word) → list_all is_inner_word ls ≡ true
    → pieces_behind (Inside n k inside) (on_line n ls (record { line = n; letters = codes "$end" } ∷ ws)) ≡ Section n k (kept_of k inside ls) ∷ pieces_behind Nothing ws
inner-words n k inside [] ws h = refl
inner-words n k inside (l ∷ ls) ws h = step (bytes_eq l (codes "$end")) refl (inner-words n k (with_word k inside l) ls ws)
  where
    step : (t : Bool) → bytes_eq l (codes "$end") ≡ t
        → (list_all is_inner_word ls ≡ true
        → pieces_behind (Inside n k (with_word k inside l)) (on_line n ls (record { line = n; letters = codes "$end" } ∷ ws)) ≡ Section n k (kept_of k (with_word k inside l) ls) ∷ pieces_behind Nothing ws)
        → pieces_behind (Inside n k inside) (on_line n (l ∷ ls) (record { line = n; letters = codes "$end" } ∷ ws)) ≡ Section n k (kept_of k inside (l ∷ ls)) ∷ pieces_behind Nothing ws
    step true e next = absurd (grind (arith, common_steps))
    step false e next = let more : list_all is_inner_word ls ≡ true = grind (arith, common_steps) in rw e (next more)

section-words : (n : ℕ) (k : Keyword) (key : List ℕ) (ls : List (List ℕ)) (ws : List Word) → entry_of key ≡ Opens k → list_all is_inner_word ls ≡ true
    → pieces_behind Nothing (record { line = n; letters = key } ∷ on_line n ls (record { line = n; letters = codes "$end" } ∷ ws)) ≡ Section n k (kept_of k [] ls) ∷ pieces_behind Nothing ws
section-words n k key ls ws e h = rw e (inner-words n k [] ls ws h)

-- words with a space after each, and one with a line's end
abbrev line_of : List (List ℕ) → (last : List ℕ) → (rest : List ℕ) → List ℕ
line_of [] last rest = last ++ 10 ∷ rest
line_of (l ∷ ls) last rest = l ++ 32 ∷ line_of ls last rest

abbrev is_whole : List ℕ → Bool
is_whole [] = false
is_whole (b ∷ bs) = list_all is_letter (b ∷ bs)

whole-letters : (l : List ℕ) → is_whole l ≡ true → list_all is_letter l ≡ true
whole-letters [] h = refl
whole-letters (b ∷ bs) h = h

word-step : (n : ℕ) (l rest : List ℕ) → is_whole l ≡ true → words_behind n [] (l ++ 32 ∷ rest) ≡ record { line = n; letters = l } ∷ words_behind n [] rest
word-step n [] rest h = absurd (cc)
word-step n (b ∷ bs) rest h = letters-words n [] (b ∷ bs) (32 ∷ rest) h

last-step : (n : ℕ) (l rest : List ℕ) → is_whole l ≡ true → words_behind n [] (l ++ 10 ∷ rest) ≡ record { line = n; letters = l } ∷ words_behind (n + 1) [] rest
last-step n [] rest h = absurd (cc)
last-step n (b ∷ bs) rest h = letters-words n [] (b ∷ bs) (10 ∷ rest) h

line-read : (n : ℕ) (ls : List (List ℕ)) (last rest : List ℕ) → list_all is_whole ls ≡ true → is_whole last ≡ true
    → words_behind n [] (line_of ls last rest) ≡ on_line n ls (record { line = n; letters = last } ∷ words_behind (n + 1) [] rest)
line-read n [] last rest h k = last-step n last rest k
line-read n (l ∷ ls) last rest h k = step (is_whole l) refl (line-read n ls last rest)
  where
    step : (t : Bool) → is_whole l ≡ t
        → (list_all is_whole ls ≡ true → is_whole last ≡ true → words_behind n [] (line_of ls last rest) ≡ on_line n ls (record { line = n; letters = last } ∷ words_behind (n + 1) [] rest))
        → words_behind n [] (line_of (l ∷ ls) last rest) ≡ on_line n (l ∷ ls) (record { line = n; letters = last } ∷ words_behind (n + 1) [] rest)
    step true e next =
        let more : list_all is_whole ls ≡ true = grind (arith, common_steps) in
        word-step n l (line_of ls last rest) e ∙ ap (λ (ws : List Word). record { line = n; letters = l } ∷ ws) (next more k)
    step false e next = absurd (grind (arith, common_steps))

line-end : (n : ℕ) (ls : List (List ℕ)) (last rest : List ℕ) → list_all is_whole ls ≡ true → is_whole last ≡ true
    → end_line n (line_of ls last rest) ≡ end_line (n + 1) rest
line-end n [] last rest h k = letters-end n last (10 ∷ rest) (whole-letters last k)
line-end n (l ∷ ls) last rest h k =
    let here : is_whole l ≡ true = grind (arith, common_steps) in
    let more : list_all is_whole ls ≡ true = grind (arith, common_steps) in
    letters-end n l (32 ∷ line_of ls last rest) (whole-letters l here) ∙ line-end n ls last rest more k

-- a line with one section
section-told : (s : Signals) (n : ℕ) (p q : Place) (k : Keyword) (key : List ℕ) (ls : List (List ℕ)) (rest : List ℕ) → entry_of key ≡ Opens k
    → list_all is_inner_word ls ≡ true → list_all is_whole (key ∷ ls) ≡ true → step s p (Section n k (kept_of k [] ls)) ≡ Ok q → sample_of q ≡ None
    → told_place s n p (line_of (key ∷ ls) (codes "$end") rest) ≡ told_place s (n + 1) q rest
unfolding told_place
section-told s n p q k key ls rest e inner whole c d =
    let text : List ℕ = line_of (key ∷ ls) (codes "$end") rest in
    let ps : List Piece = pieces_behind Nothing (words_behind (n + 1) [] rest) in
    let end : ℕ = end_line (n + 1) rest in
    ap (λ v. piece_contents s v p (pieces_behind Nothing (words_behind n [] text))) (line-end n (key ∷ ls) (codes "$end") rest whole refl)
    ∙ (ap (λ v. piece_contents s end p (pieces_behind Nothing v)) (line-read n (key ∷ ls) (codes "$end") rest whole refl)
    ∙ (ap (λ v. piece_contents s end p v) (section-words n k key ls (words_behind (n + 1) [] rest) e inner)
    ∙ (ap (λ v. goes_on v (λ next. piece_contents s end next ps)) c ∙ ap (λ v. with_samples (listed v) (piece_contents s end q ps)) d)))

-- the codes known after the first wires
abbrev one_code : Codes
one_code = record { atn = coded 65; clock = nothing; second = nothing; line = nothing }

abbrev two_codes : Codes
two_codes = record { atn = coded 65; clock = coded 67; second = nothing; line = nothing }

-- the words of a wire's section
abbrev wire_words : (code : ℕ) → (name : List ℕ) → List (List ℕ)
wire_words code name = codes "wire" ∷ codes "1" ∷ (code ∷ []) ∷ name ∷ []

-- the scope that is written
abbrev bus : List (List ℕ)
bus = codes "bus" ∷ []

atn-known : (s : Signals) → IsAsWritten s → with_signal s no_codes 3 bus (wire_words 65 (codes "ATN")) ≡ one_code
atn-known s h = rw (h.atn, h.clock, h.line) refl

clock-known : (s : Signals) → IsAsWritten s → with_signal s one_code 4 bus (wire_words 67 (codes "CLOCK")) ≡ two_codes
clock-known s h = rw (h.atn, h.clock, h.line) refl

line-known : (s : Signals) → IsAsWritten s → with_signal s two_codes 5 bus (wire_words 68 (codes "DATA")) ≡ written
line-known s h = rw (h.atn, h.clock, h.line) refl

-- a place in the header, by the scale that is written
abbrev in_header : Codes → Place
in_header c = Header (Some 1000000000) bus c

-- a wire's line
wire-told : (s : Signals) (n : ℕ) (c d : Codes) (ls : List (List ℕ)) (rest : List ℕ) → list_all is_inner_word ls ≡ true → list_all is_whole ls ≡ true
    → with_signal s c n bus (kept_of Var [] ls) ≡ d
    → told_place s n (in_header c) (line_of (codes "$var" ∷ ls) (codes "$end") rest) ≡ told_place s (n + 1) (in_header d) rest
wire-told s n c d ls rest inner whole e =
    section-told s n (in_header c) (in_header d) Var (codes "$var") ls rest refl inner whole (ap (λ (v : Codes). Ok (in_header v)) e) refl

head-told : (s : Signals) → IsAsWritten s → (text : List ℕ) → told_place s 1 (Header None [] no_codes) (head ++ text) ≡ told_place s 8 (Changes 1000000000 written nothing_seen) text
unfolding head
head-told s h text =
    let f : List ℕ = line_of (codes "$enddefinitions" ∷ []) (codes "$end") text in
    let e : List ℕ = line_of (codes "$upscope" ∷ []) (codes "$end") f in
    let d : List ℕ = line_of (codes "$var" ∷ wire_words 68 (codes "DATA")) (codes "$end") e in
    let c : List ℕ = line_of (codes "$var" ∷ wire_words 67 (codes "CLOCK")) (codes "$end") d in
    let b : List ℕ = line_of (codes "$var" ∷ wire_words 65 (codes "ATN")) (codes "$end") c in
    let a : List ℕ = line_of (codes "$scope" ∷ codes "module" ∷ codes "bus" ∷ []) (codes "$end") b in
    let whole : head ++ text ≡ line_of (codes "$timescale" ∷ codes "1" ∷ codes "us" ∷ []) (codes "$end") a = refl in
    ap (told_place s 1 (Header None [] no_codes)) whole
    ∙ (section-told s 1 (Header None [] no_codes) (Header (Some 1000000000) [] no_codes) Timescale (codes "$timescale") (codes "1" ∷ codes "us" ∷ []) a refl refl refl refl refl
    ∙ (section-told s 2 (Header (Some 1000000000) [] no_codes) (in_header no_codes) Scope (codes "$scope") (codes "module" ∷ codes "bus" ∷ []) b refl refl refl refl refl
    ∙ (wire-told s 3 no_codes one_code (wire_words 65 (codes "ATN")) c refl refl (atn-known s h)
    ∙ (wire-told s 4 one_code two_codes (wire_words 67 (codes "CLOCK")) d refl refl (clock-known s h)
    ∙ (wire-told s 5 two_codes written (wire_words 68 (codes "DATA")) e refl refl (line-known s h)
    ∙ (section-told s 6 (in_header written) (Header (Some 1000000000) [] written) Upscope (codes "$upscope") [] f refl refl refl refl refl
    ∙ section-told s 7 (Header (Some 1000000000) [] written) (Changes 1000000000 written nothing_seen) Definitions (codes "$enddefinitions") [] text refl refl refl refl refl))))))

pub vcd-begins : (s : Signals) → IsAsWritten s → (text : List ℕ) → vcd_contents s (head ++ text) ≡ told_here s 8 nothing_seen text
unfolding vcd_contents told_place
vcd-begins s h text = head-told s h text
