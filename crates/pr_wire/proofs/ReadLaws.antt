-- A trace text that is read edge by edge.
use Rattle.std.proofs.Common.{◌≡◌, ℕ, ◌+◌, ◌<◌, List, [], ◌∷◌, ◌++◌, length, take, drop, refl, ap, sym, subst, ◌∙◌, arith, append_assoc, append-nil, take-append-drop, length-append, false, true, Option, Some, None, Result, Ok, Err}
use Rattle.std.specs.Prelude.{◌==◌, IfErr, IsErrAnd, get_or}
use Rattle.std.specs.Option.{option_to_list}
use Rattle.std.proofs.lemmas.Grind.{common_steps}
use Rattle.pr_wire.specs.declared.Edge.{Edge}
use Rattle.pr_wire.specs.declared.line.EdgeLine.{EdgeLine}
use Rattle.pr_wire.specs.declared.line_part.LinePart.TheVariants.{Nothing}
use Rattle.pr_wire.specs.declared.reader.TraceReader.{TraceReader}
use Rattle.pr_wire.specs.declared.text.TraceFault.{TraceFault}
use Rattle.pr_wire.specs.declared.text.TraceFault.TheVariants.{BadLine, NoMemory}
use Rattle.pr_base.specs.Lines.{lines_of}
use Rattle.pr_wire.specs.LineParts.{part_after, edge_of_part, is_nothing}
use Rattle.pr_wire.specs.TextSteps.{ended_line_in}
use Rattle.pr_wire.specs.TraceReading.{HasReadTrace}
use Rattle.pr_wire.specs.TraceReads.{EndsText, FaultsIn, ReadsMore}
use Rattle.pr_wire.specs.TraceText.{AreEdgeLines, SaysEdges}
use Rattle.pr_wire.proofs.TextLaws.{says_behind}
use Rattle.pr_wire.proofs.ScanLaws.{scanned_none, scanned_byte, scanned_line, scanned_bad, scanned_whole, scanned_ends, scanned_same_lines, says_lines}

-- nothing was read
pub read_nothing : (r : TraceReader) → r.part ≡ Nothing → r.count ≡ 0 → HasReadTrace [] [] r
read_nothing r p c = record { scanned = rw p scanned_none; count = sym c }

-- one byte more of a line
pub read_byte : (old new : TraceReader) (b : ℕ) → (b ≡ 10 → ⊥) → new.part ≡ part_after old.part b → new.count ≡ old.count → ReadsMore (b ∷ []) None old new
read_byte old new b n p c = λ text edges h.
    let e : (b == 10) ≡ false = grind (arith, common_steps) in
    record {
      scanned = rw (p, append-nil edges) (scanned_byte text edges old.part b e h.scanned);
      count = ap length (append-nil edges) ∙ (h.count ∙ sym c);
    }

-- an edge more
one_edge : (edges : List Edge) (e : Edge) (old new : ℕ) → length edges ≡ old → new ≡ old + 1 → length (edges ++ e ∷ []) ≡ new
one_edge edges e old new h c = length-append edges (e ∷ []) ∙ (ap (λ n. n + 1) h ∙ sym c)

-- a line ends that spells an edge
pub read_end : (old new : TraceReader) (e : Edge) → edge_of_part old.part ≡ Some e → new.part ≡ Nothing → new.count ≡ old.count + 1 → ReadsMore (10 ∷ []) (Some e) old new
read_end old new e k p c = λ text edges h. record {
  scanned = rw p (scanned_line text edges old.part e k h.scanned);
  count = one_edge edges e old.count new.count h.count c;
}

-- a line ends that spells none
pub faulty_end : (old : TraceReader) (n : ℕ) → edge_of_part old.part ≡ None → n ≡ old.count + 1 → FaultsIn (10 ∷ []) old (BadLine n)
faulty_end old n k e = λ text edges h more.
    let P : ℕ → Type 0 = λ m. SaysEdges ((text ++ 10 ∷ []) ++ more) edges (Some m) in
    subst P (ap (λ m. m + 1) h.count ∙ sym e) (scanned_bad text edges old.part k h.scanned more)

-- a whole line comes
pub read_whole : (old new : TraceReader) (block : List ℕ) (line : EdgeLine) → is_nothing old.part ≡ true → ended_line_in block ≡ Some line → new.part ≡ old.part → new.count ≡ old.count + 1
    → ReadsMore (take line.len block) (Some line.edge) old new
read_whole old new block line n k p c = λ text edges h. record {
  scanned = rw p (scanned_whole text block edges old.part line n k h.scanned);
  count = one_edge edges line.edge old.count new.count h.count c;
}

-- what a reader does that has taken the same and keeps another front
pub reads_alike : (bytes : List ℕ) (e : Option Edge) (old mid new : TraceReader) → mid.part ≡ old.part → mid.count ≡ old.count → ReadsMore bytes e mid new → ReadsMore bytes e old new
reads_alike bytes e old mid new p c reads = λ text edges h. reads text edges (record { scanned = rw p h.scanned; count = h.count ∙ sym c })

pub faults_alike : (bytes : List ℕ) (old mid : TraceReader) (f : TraceFault) → mid.part ≡ old.part → mid.count ≡ old.count → FaultsIn bytes mid f → FaultsIn bytes old f
faults_alike bytes old mid (BadLine n) p c faulty = λ text edges h. faulty text edges (record { scanned = rw p h.scanned; count = h.count ∙ sym c })
faults_alike bytes old mid NoMemory p c faulty = faulty

-- a fault in front of a block
pub faulty_front : (old : TraceReader) (n : ℕ) (front block : List ℕ) (f : TraceFault) → front ≡ take n block → FaultsIn front old f → FaultsIn block old f
faulty_front old n front block NoMemory e h = h
faulty_front old n front block (BadLine m) e h = λ text edges k more.
    let rest : List ℕ = drop n block in
    let whole : block ≡ front ++ rest = sym (take-append-drop n block) ∙ ap (λ v. v ++ rest) (sym e) in
    let same : (text ++ front) ++ (rest ++ more) ≡ (text ++ block) ++ more =
    sym (append_assoc (text ++ front) rest more) ∙ (ap (λ v. v ++ more) (append_assoc text front rest) ∙ ap (λ v. (text ++ v) ++ more) (sym whole)) in
    let P : List ℕ → Type 0 = λ v. SaysEdges v edges (Some m) in
    subst P same (h text edges k (rest ++ more))

-- a fault that is handed on
pub handed_on : {A : Type 0} (v : Result A TraceFault) (f : TraceFault) (P : TraceFault → Type 0) → IsErrAnd v (λ x. x ≡ f) → P f → IfErr v P
handed_on (Ok x) f P h p = tt
handed_on (Err x) f P h p = rw h p

-- the text ends with a whole line
pub ends_whole : (r : TraceReader) → is_nothing r.part ≡ true → EndsText r (Ok None)
ends_whole r n = λ text edges h. rw (append-nil edges) (scanned_ends text edges r.part n h.scanned)

-- or with one that lacks its end and spells an edge
pub ends_line : (r new : TraceReader) (e : Edge) → is_nothing r.part ≡ false → is_nothing new.part ≡ true → ReadsMore (10 ∷ []) (Some e) r new → EndsText r (Ok (Some e))
ends_line r new e n m reads = λ text edges h.
    let P : List (List ℕ) → Type 0 = λ ls. AreEdgeLines ls (edges ++ e ∷ []) in
    subst P (scanned_same_lines text edges r.part n h.scanned) (scanned_ends (text ++ 10 ∷ []) (edges ++ e ∷ []) new.part m (reads text edges h).scanned)

-- or with one that spells none
pub ends_faulty : (r : TraceReader) (v : Result (Option Edge) TraceFault) (f : TraceFault) → is_nothing r.part ≡ false → IsErrAnd v (λ x. x ≡ f) → FaultsIn (10 ∷ []) r f → EndsText r v
ends_faulty r (Ok x) f n e h = absurd e
ends_faulty r (Err x) NoMemory n e h = absurd h
ends_faulty r (Err x) (BadLine m) n e h = rw e (λ text edges k.
    let whole = append-nil (text ++ 10 ∷ []) in
    says_lines ((text ++ 10 ∷ []) ++ []) text edges (Some m) (ap lines_of whole ∙ scanned_same_lines text edges r.part n k.scanned) (h text edges k []))

-- the first byte of a block
pub first_byte : (block : List ℕ) (d : ℕ) → 0 < length block → take 1 block ≡ get_or block 0 d ∷ []
first_byte [] d some = absurd (omega arith)
first_byte (b ∷ bs) d some = refl

-- the same bytes were read
pub reads_same : (bytes same : List ℕ) (e : Option Edge) (old new : TraceReader) → bytes ≡ same → ReadsMore bytes e old new → ReadsMore same e old new
reads_same bytes same e old new is h = λ text edges k. let P : List ℕ → Type 0 = λ v. HasReadTrace (text ++ v) (edges ++ option_to_list e) new in subst P is (h text edges k)

-- the edges given come first, whatever follows
pub given_first : (text more : List ℕ) (given edges : List Edge) (bad : Option ℕ) (r : TraceReader) → HasReadTrace text given r → SaysEdges (text ++ more) edges bad
    → (later : List Edge) × (edges ≡ given ++ later)
given_first text more given edges bad r h says =
    let s = h.scanned in
    says_behind (text ++ more) s.good (lines_of (s.line ++ more)) given edges bad (s.lines more) s.are_edges says
