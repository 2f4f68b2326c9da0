-- Trace texts: line by line, and what is written.
use Rattle.std.proofs.Common.{◌≡◌, ℕ, suc, ◌+◌, ◌<◌, ◌^◌, ◌/◌, ◌%◌, ◌≤◌, List, [], ◌∷◌, ◌++◌, length, take, drop, refl, ap, sym, subst, ◌∙◌, arith, append_assoc, append-nil, rules, true, Option, Some, None, decimal}
use Rattle.std.specs.List.{list_all}
use Rattle.std.proofs.lemmas.Grind.{flat_map-append}
use Rattle.std.proofs.lemmas.List.{take-append-drop}
use Rattle.std.specs.Prelude.{All}
use Rattle.std.proofs.lemmas.Fmt.{decimal_step, digits_decimal, digits_value-decimal, decimal_nonempty}
use Rattle.std.proofs.lemmas.Str.Parse.{IsNumeralModel, numerals_by_fold}
use Rattle.pr_wire.specs.declared.Edge.{Edge}
use Rattle.pr_wire.specs.declared.line.EdgeLine.{EdgeLine}
use Rattle.pr_wire.specs.declared.line_part.LinePart.TheVariants as Part
use Rattle.pr_wire.specs.TraceText.{levels_text, edge_text, trace_text, IsEdgeLine, AreEdgeLines, IsTraceText, IsFirstBad, SaysEdges}
use Rattle.pr_base.specs.Digits.{is_digit, number_after}
use Rattle.pr_base.specs.Lines.{lines_of}
use Rattle.pr_wire.specs.TraceText.Return.{Without}
use Rattle.pr_wire.specs.LineParts.{edge_of_part, part_with}
use Rattle.pr_wire.specs.TextSteps.{line_in}
use Rattle.pr_wire.specs.LineWriter.{three_digits, levels_line}
use Rattle.pr_wire.proofs.LineLaws.{line_in-is, IsRead, line_read, split, digits_on_line, levels_on_line, level_at_end, no_line, some_line}
use Rattle.pr_wire.proofs.LineLaws.Behind.{Nothing}
use Rattle.pr_wire.proofs.PartLaws.{line_part, part_line}

-- a line spells one edge
line_once : (line : List ℕ) (e f : Edge) → IsEdgeLine line e → IsEdgeLine line f → e ≡ f
line_once line e f h k = by (line_in (line ++ [])) (line_read line e Nothing h) (line_read line f Nothing k)
  where
    by : (v : Option EdgeLine) → IsRead (line ++ []) e → IsRead (line ++ []) f → e ≡ f
    by v a b = let s : a.read ≡ b.read = let t : Some a.read ≡ Some b.read = sym a.is ∙ b.is in cc in sym a.edge ∙ (ap (λ (l : EdgeLine). l.edge) s ∙ b.edge)

lines_once : (ls : List (List ℕ)) (es fs : List Edge) → AreEdgeLines ls es → AreEdgeLines ls fs → es ≡ fs
lines_once [] [] [] h k = refl
lines_once [] [] (f ∷ fs) h k = absurd k
lines_once [] (e ∷ es) fs h k = absurd h
lines_once (l ∷ ls) [] fs h k = absurd h
lines_once (l ∷ ls) (e ∷ es) [] h k = absurd k
lines_once (l ∷ ls) (e ∷ es) (f ∷ fs) h k = rw (line_once l e f h.0 k.0, lines_once ls es fs h.1 k.1) refl

-- a text spells at most one list of edges
pub text_once : (text : List ℕ) (es fs : List Edge) → IsTraceText text es → IsTraceText text fs → es ≡ fs
text_once text es fs h k = lines_once (lines_of text) es fs h k

-- a bad line spells no edge, whatever comes before it
none_with_bad : (good : List (List ℕ)) (bad : List ℕ) (more : List (List ℕ)) (es : List Edge) → ((e : Edge) → IsEdgeLine bad e → ⊥) → AreEdgeLines (good ++ bad ∷ more) es → ⊥
none_with_bad [] bad more [] none h = h
none_with_bad [] bad more (e ∷ es) none h = none e h.0
none_with_bad (l ∷ ls) bad more [] none h = h
none_with_bad (l ∷ ls) bad more (e ∷ es) none h = none_with_bad ls bad more es none h.1

-- a text with a bad line spells no edges
pub bad_none : (text : List ℕ) (n : ℕ) (es : List Edge) → IsFirstBad n text → IsTraceText text es → ⊥
bad_none text n es b h = none_with_bad b.good b.bad b.more es b.is_bad (subst (λ ls. AreEdgeLines ls es) b.lines h)

-- lines up to the first bad one are the same ones
first_once : (g h : List (List ℕ)) (es fs : List Edge) (b c : List ℕ) (m n : List (List ℕ)) → AreEdgeLines g es → AreEdgeLines h fs
    → ((e : Edge) → IsEdgeLine b e → ⊥) → ((e : Edge) → IsEdgeLine c e → ⊥) → g ++ b ∷ m ≡ h ++ c ∷ n → (es ≡ fs) × (length g ≡ length h)
first_once [] [] [] [] b c m n ge he bad worse is = (refl, refl)
first_once [] [] [] (f ∷ fs) b c m n ge he bad worse is = absurd he
first_once [] [] (e ∷ es) fs b c m n ge he bad worse is = absurd ge
first_once [] (l ∷ h) es [] b c m n ge he bad worse is = absurd he
first_once [] (l ∷ h) es (f ∷ fs) b c m n ge he bad worse is = absurd (bad f (subst (λ x. IsEdgeLine x f) (let t : l ≡ b = cc in t) he.0))
first_once (k ∷ g) [] [] fs b c m n ge he bad worse is = absurd ge
first_once (k ∷ g) [] (e ∷ es) fs b c m n ge he bad worse is = absurd (worse e (subst (λ x. IsEdgeLine x e) (let t : k ≡ c = cc in t) ge.0))
first_once (k ∷ g) (l ∷ h) [] fs b c m n ge he bad worse is = absurd ge
first_once (k ∷ g) (l ∷ h) (e ∷ es) [] b c m n ge he bad worse is = absurd he
first_once (k ∷ g) (l ∷ h) (e ∷ es) (f ∷ fs) b c m n ge he bad worse is =
    let same : l ≡ k = cc in
    let rest : g ++ b ∷ m ≡ h ++ c ∷ n = cc in
    let more = first_once g h es fs b c m n ge.1 he.1 bad worse rest in
    (rw (line_once k e f ge.0 (subst (λ x. IsEdgeLine x f) same he.0), more.0) refl, ap suc more.1)

-- a text says one thing
pub says_once : (text : List ℕ) (es fs : List Edge) (m n : Option ℕ) → SaysEdges text es m → SaysEdges text fs n → (es ≡ fs) × (m ≡ n)
says_once text es fs None None h k = (text_once text es fs h k, refl)
says_once text es fs None (Some n) h k = absurd (bad_none text n es k.0 h)
says_once text es fs (Some m) None h k = absurd (bad_none text m fs h.0 k)
says_once text es fs (Some m) (Some n) h k =
    let a = h.0 in
    let b = k.0 in
    let both = first_once a.good b.good a.edges b.edges a.bad b.bad a.more b.more a.are_edges b.are_edges a.is_bad b.is_bad (sym a.lines ∙ b.lines) in
    (sym h.1 ∙ (both.0 ∙ k.1), ap (λ (i : ℕ). Some i) (a.number ∙ (ap (λ i. i + 1) both.1 ∙ sym b.number)))

-- an edge more in front
one_more : (e f : Edge) (fs es later : List Edge) → e ≡ f → fs ≡ es ++ later → f ∷ fs ≡ (e ∷ es) ++ later
one_more e f fs es later a b = rw (a, b) refl

-- after good lines come edges after theirs
lines_behind : (good ls : List (List ℕ)) (given all : List Edge) → AreEdgeLines good given → AreEdgeLines (good ++ ls) all → (later : List Edge) × (all ≡ given ++ later)
lines_behind [] ls [] all g h = (all, refl)
lines_behind [] ls (e ∷ es) all g h = absurd g
lines_behind (k ∷ ks) ls [] all g h = absurd g
lines_behind (k ∷ ks) ls (e ∷ es) [] g h = absurd h
lines_behind (k ∷ ks) ls (e ∷ es) (f ∷ fs) g h =
    let more = lines_behind ks ls es fs g.1 h.1 in
    (more.0, one_more e f fs es more.0 (line_once k e f g.0 h.0) more.1)

-- after good lines is the first bad one
bad_behind : (good ls h : List (List ℕ)) (b : List ℕ) (m : List (List ℕ)) (given all : List Edge) → AreEdgeLines good given → AreEdgeLines h all
    → ((e : Edge) → IsEdgeLine b e → ⊥) → good ++ ls ≡ h ++ b ∷ m → (later : List Edge) × (all ≡ given ++ later)
bad_behind [] ls h b m [] all ge he bad is = (all, refl)
bad_behind [] ls h b m (e ∷ es) all ge he bad is = absurd ge
bad_behind (k ∷ g) ls h b m [] all ge he bad is = absurd ge
bad_behind (k ∷ g) ls [] b m (e ∷ es) all ge he bad is = absurd (bad e (subst (λ x. IsEdgeLine x e) (let t : k ≡ b = cc in t) ge.0))
bad_behind (k ∷ g) ls (l ∷ h) b m (e ∷ es) [] ge he bad is = absurd he
bad_behind (k ∷ g) ls (l ∷ h) b m (e ∷ es) (f ∷ fs) ge he bad is =
    let same : l ≡ k = cc in
    let rest : g ++ ls ≡ h ++ b ∷ m = cc in
    let more = bad_behind g ls h b m es fs ge.1 he.1 bad rest in
    (more.0, one_more e f fs es more.0 (line_once k e f ge.0 (subst (λ x. IsEdgeLine x f) same he.0)) more.1)

-- what a text says begins with the edges of its first good lines
pub says_behind : (text : List ℕ) (good ls : List (List ℕ)) (given all : List Edge) (bad : Option ℕ) → lines_of text ≡ good ++ ls → AreEdgeLines good given → SaysEdges text all bad
    → (later : List Edge) × (all ≡ given ++ later)
says_behind text good ls given all None is g h = lines_behind good ls given all g (subst (λ x. AreEdgeLines x all) is h)
says_behind text good ls given all (Some n) is g h =
    let b = h.0 in
    let more = bad_behind good ls b.good b.bad b.more given b.edges g b.are_edges b.is_bad (sym is ∙ b.lines) in
    (more.0, sym h.1 ∙ more.1)

-- lines that spell edges, up to the first bad one if there is one
data Said (ls : List (List ℕ)) : Type 0 where
  AllGood : (edges : List Edge) → AreEdgeLines ls edges → Said ls
  OneBad : (good : List (List ℕ)) (edges : List Edge) (bad : List ℕ) (more : List (List ℕ)) → ls ≡ good ++ bad ∷ more → AreEdgeLines good edges → ((e : Edge) → IsEdgeLine bad e → ⊥) → Said ls

with_line : (l : List ℕ) (ls : List (List ℕ)) (v : Option Edge) → edge_of_part (part_with Part.Nothing l) ≡ v → Said ls → Said (l ∷ ls)
with_line l ls None is s = OneBad [] [] l ls refl tt (λ e h. let k : Some e ≡ None = sym (line_part l e h) ∙ is in cc)
with_line l ls (Some e) is (AllGood edges are) = AllGood (e ∷ edges) (part_line l e is, are)
with_line l ls (Some e) is (OneBad good edges bad more lines are none) = OneBad (l ∷ good) (e ∷ edges) bad more (ap (λ x. l ∷ x) lines) (part_line l e is, are) none

said : (ls : List (List ℕ)) → Said ls
said [] = AllGood [] tt
said (l ∷ ls) = with_line l ls (edge_of_part (part_with Part.Nothing l)) refl (said ls)

-- each text says something
pub says_some : (text : List ℕ) → (edges : List Edge) × (bad : Option ℕ) × SaysEdges text edges bad
says_some text = by (said (lines_of text))
  where
    by : Said (lines_of text) → (edges : List Edge) × (bad : Option ℕ) × SaysEdges text edges bad
    by (AllGood edges are) = (edges, None, are)
    by (OneBad good edges bad more lines are none) =
        let first : IsFirstBad (length good + 1) text = record { good = good; edges = edges; bad = bad; more = more; lines = lines; are_edges = are; is_bad = none; number = refl } in
        (edges, Some (length good + 1), (first, refl))

-- what was read of a text: this many good lines, and what is left
pub record HasRead (text rest : List ℕ) (edges : List Edge) : Type 0 where
  pub good : List (List ℕ)
  pub lines : lines_of text ≡ good ++ lines_of rest
  pub are_edges : AreEdgeLines good edges

pub read_none : (text : List ℕ) → HasRead text text []
read_none text = record { good = []; lines = refl; are_edges = tt }

pub one_line_more : (ls : List (List ℕ)) (es : List Edge) (l : List ℕ) (e : Edge) → AreEdgeLines ls es → IsEdgeLine l e → AreEdgeLines (ls ++ l ∷ []) (es ++ e ∷ [])
one_line_more [] [] l e h k = (k, tt)
one_line_more [] (f ∷ fs) l e h k = absurd h
one_line_more (m ∷ ls) [] l e h k = absurd h
one_line_more (m ∷ ls) (f ∷ fs) l e h k = (h.0, one_line_more ls fs l e h.1 k)

-- one line more is read
pub read_more : (text rest : List ℕ) (edges : List Edge) (l : EdgeLine) → HasRead text rest edges → line_in rest ≡ Some l → HasRead text (drop l.len rest) (edges ++ l.edge ∷ [])
read_more text rest edges l h k =
    let f = line_in-is rest l k in
    record {
      good = h.good ++ f.line ∷ [];
      lines = h.lines ∙ (ap (λ ls. h.good ++ ls) f.lines ∙ sym (append_assoc h.good (f.line ∷ []) (lines_of (drop l.len rest))));
      are_edges = one_line_more h.good edges f.line l.edge h.are_edges f.is_line;
    }

-- all is read
pub read_all : (text rest : List ℕ) (edges : List Edge) → HasRead text rest edges → rest ≡ [] → IsTraceText text edges
read_all text rest edges h e =
    subst (λ ls. AreEdgeLines ls edges) (sym (h.lines ∙ (ap (λ bs. h.good ++ lines_of bs) e ∙ (ap (λ ls. h.good ++ ls) no_line ∙ append-nil h.good)))) h.are_edges

pub as_many : (ls : List (List ℕ)) (es : List Edge) → AreEdgeLines ls es → length es ≡ length ls
as_many [] [] h = refl
as_many [] (e ∷ es) h = absurd h
as_many (l ∷ ls) [] h = absurd h
as_many (l ∷ ls) (e ∷ es) h = ap suc (as_many ls es h.1)

-- a line that is not read spells no edge
not_read : (text line : List ℕ) (more : List (List ℕ)) (e : Edge) → lines_of text ≡ line ∷ more → line_in text ≡ None → IsEdgeLine line e → ⊥
not_read text line more e h n k =
    let s = split text line more h in
    let r = line_read line e s.behind k in
    absurd (let t : Some r.read ≡ None = sym r.is ∙ (ap line_in (sym s.whole) ∙ n) in cc)

-- the next line is bad
pub read_bad : (text rest : List ℕ) (edges : List Edge) → HasRead text rest edges → 0 < length rest → line_in rest ≡ None → IsFirstBad (length edges + 1) text
read_bad text rest edges h some n =
    let f = some_line rest some in
    record {
      good = h.good;
      edges = edges;
      bad = f.0;
      more = f.1;
      lines = h.lines ∙ ap (λ ls. h.good ++ ls) f.2;
      are_edges = h.are_edges;
      is_bad = λ e k. not_read rest f.0 f.1 e f.2 n k;
      number = ap (λ n. n + 1) (as_many h.good edges h.are_edges);
    }

-- decimal digits spell their number
own : IsNumeralModel (λ ds. list_all is_digit ds ≡ true) (number_after 0)
own = numerals_by_fold _ (search rules) number_after (search rules)

-- the line of an edge that is written spells it
written_line : (e : Edge) → e.time < 2 ^ 64 → IsEdgeLine (decimal e.time ++ (levels_text e ++ [])) e
written_line e small = record {
  digits = decimal e.time;
  some = decimal_nonempty e.time small;
  all = digits_decimal own e.time small;
  time = digits_value-decimal own e.time small;
  small = small;
  end = Without;
  spelled = refl;
}

-- a written line, before more text
line_first : (e : Edge) (more : List ℕ) → e.time < 2 ^ 64 → lines_of (edge_text e ++ more) ≡ (decimal e.time ++ (levels_text e ++ [])) ∷ lines_of more
unfolding edge_text
line_first e more small =
    ap lines_of (append_assoc (decimal e.time) (levels_text e ++ 10 ∷ []) more)
    ∙ digits_on_line (decimal e.time) _ _ (lines_of more) (digits_decimal own e.time small)
    (levels_on_line e.levels.atn e.levels.clock _ _ (lines_of more) (level_at_end e.levels.line more))

-- the text of edges spells them
pub read_back : (edges : List Edge) → All (λ e. e.time < 2 ^ 64) edges → IsTraceText (trace_text edges) edges
read_back [] h = subst (λ ls. AreEdgeLines ls []) (sym no_line) tt
read_back (e ∷ es) h =
    let small : e.time < 2 ^ 64 = h 0 e (omega arith) in
    let rest : IsTraceText (trace_text es) es = read_back es (λ i d l. h (suc i) d (omega arith)) in
    subst (λ ls. AreEdgeLines ls (e ∷ es)) (sym (line_first e (trace_text es) small)) (written_line e small, rest)

-- a number of four digits or more is its front and its last three digits
decimal_three : (n : ℕ) → 1000 ≤ n → n < 2 ^ 64 → decimal n ≡ decimal (n / 1000) ++ three_digits (n % 1000)
decimal_three n lo hi =
    let a : n / 10 / 10 / 10 ≡ n / 1000 = omega arith in
    let b : n / 10 / 10 % 10 ≡ n % 1000 / 100 = omega arith in
    let c : n / 10 % 10 ≡ n % 1000 / 10 % 10 = omega arith in
    let d : n % 10 ≡ n % 1000 % 10 = omega arith in
    decimal_step n (omega arith) hi ∙ (ap (λ v. v ++ (48 + n % 10) ∷ []) (decimal_step (n / 10) (omega arith) (omega arith) ∙ ap (λ v. v ++ (48 + n / 10 % 10) ∷ []) (decimal_step (n / 10 / 10) (omega arith) (omega arith))) ∙ rw (append_assoc, append_assoc, a, b, c, d) refl)

-- a line after what was written: its time, and then the rest
pub written_short : (old mid : List ℕ) (e : Edge) → mid ≡ old ++ decimal e.time → old ++ edge_text e ≡ mid ++ levels_line e.levels
unfolding edge_text
written_short old mid e h = sym (ap (λ v. v ++ levels_line e.levels) h ∙ append_assoc old (decimal e.time) (levels_line e.levels))

-- the same, where the time's last three digits are with the rest
pub written_long : (old mid : List ℕ) (e : Edge) → 1000 ≤ e.time → e.time < 2 ^ 64 → mid ≡ old ++ decimal (e.time / 1000)
    → old ++ edge_text e ≡ mid ++ (three_digits (e.time % 1000) ++ levels_line e.levels)
unfolding edge_text
written_long old mid e lo hi h =
    let front = decimal (e.time / 1000) in
    let tail = three_digits (e.time % 1000) in
    let parts : decimal e.time ++ levels_line e.levels ≡ front ++ (tail ++ levels_line e.levels) =
    ap (λ v. v ++ levels_line e.levels) (decimal_three e.time lo hi) ∙ append_assoc front tail (levels_line e.levels) in
    ap (λ v. old ++ v) parts ∙ (sym (append_assoc old front (tail ++ levels_line e.levels)) ∙ ap (λ v. v ++ (tail ++ levels_line e.levels)) (sym h))

-- the lines of the first edges that are left are added
pub more_edges : (old new block whole : List ℕ) (rest : List Edge) (n : ℕ) → new ≡ old ++ block → block ≡ trace_text (take n rest) → old ++ trace_text rest ≡ whole → new ++ trace_text (drop n rest) ≡ whole
more_edges old new block whole rest n a b h =
    ap (λ t. t ++ trace_text (drop n rest)) (a ∙ ap (λ t. old ++ t) b)
    ∙ (append_assoc old (trace_text (take n rest)) (trace_text (drop n rest))
    ∙ (ap (λ t. old ++ t) (sym (flat_map-append edge_text (take n rest) (drop n rest)))
    ∙ (ap (λ es. old ++ trace_text es) (take-append-drop n rest) ∙ h)))

-- a text without a byte is empty
pub empty_list : (bs : List ℕ) → length bs ≡ 0 → bs ≡ []
empty_list [] h = refl
empty_list (b ∷ bs) h = absurd (omega arith)
