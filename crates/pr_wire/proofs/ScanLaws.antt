-- A trace text that comes byte by byte: its lines and its edges.
use Rattle.std.proofs.Common.{◌≡◌, ℕ, ◌+◌, ◌<◌, List, [], ◌∷◌, ◌++◌, length, take, refl, ap, sym, subst, ◌∙◌, arith, append_assoc, append-nil, true, false, Option, Some, None}
use Rattle.std.specs.List.{list_all}
use Rattle.std.specs.Prelude.{◌==◌}
use Rattle.std.proofs.lemmas.Grind.{common_steps}
use Rattle.pr_wire.specs.declared.Edge.{Edge}
use Rattle.pr_wire.specs.declared.line_part.LinePart.{LinePart}
use Rattle.pr_wire.specs.declared.line_part.LinePart.TheVariants.{Nothing, Time, Space, Atn, Clock, Whole, Returned, Bad}
use Rattle.pr_wire.specs.declared.line.EdgeLine.{EdgeLine}
use Rattle.pr_wire.specs.Checked.{is_inner, IsScanned}
use Rattle.pr_wire.specs.LineParts.{part_after, edge_of_part, is_nothing}
use Rattle.pr_wire.specs.TextSteps.{ended_line_in}
use Rattle.pr_wire.specs.TraceText.{AreEdgeLines, IsTraceText, IsFirstBad, SaysEdges}
use Rattle.pr_base.specs.Lines.{lines_of}
use Rattle.pr_wire.proofs.LineLaws.{ended_line-is, on_line, alone, at_end, no_line}
use Rattle.pr_wire.proofs.PartLaws.{part_more, part_line, line_part, nothing_empty, something_some}
use Rattle.pr_wire.proofs.TextLaws.{one_line_more, as_many}

-- one inner byte more
inner_more : (line : List ℕ) (b : ℕ) → list_all is_inner line ≡ true → (b == 10) ≡ false → list_all is_inner (line ++ b ∷ []) ≡ true
inner_more [] b h e = rw e refl
inner_more (x ∷ xs) b h e =
    let first : is_inner x ≡ true = grind (arith, common_steps) in
    let rest : list_all is_inner xs ≡ true = grind (arith, common_steps) in
    rw (first, inner_more xs b rest e) refl

-- the first byte of inner bytes, and those after it
first_inner : (b : ℕ) (bs : List ℕ) → list_all is_inner (b ∷ bs) ≡ true → (b == 10) ≡ false
first_inner b bs h = grind (arith, common_steps)

-- the bytes after the first of inner bytes are inner bytes
rest_inner : (b : ℕ) (bs : List ℕ) → list_all is_inner (b ∷ bs) ≡ true → list_all is_inner bs ≡ true
rest_inner b bs h = grind (arith, common_steps)

-- inner bytes are on one line, up to its end or the text's
inner_line : (line more : List ℕ) → list_all is_inner line ≡ true → lines_of (line ++ 10 ∷ more) ≡ line ∷ lines_of more
inner_line [] more h = at_end more
inner_line (b ∷ bs) more h = on_line b (bs ++ 10 ∷ more) bs (lines_of more) (first_inner b bs h) (inner_line bs more (rest_inner b bs h))

-- inner bytes alone are one line
last_line : (line : List ℕ) → 0 < length line → list_all is_inner line ≡ true → lines_of line ≡ line ∷ []
last_line [] some h = absurd (omega arith)
last_line (b ∷ []) some h = alone b (first_inner b [] h)
last_line (b ∷ c ∷ bs) some h =
    on_line b (c ∷ bs) (c ∷ bs) [] (first_inner b (c ∷ bs) h) (last_line (c ∷ bs) (omega arith) (rest_inner b (c ∷ bs) h))

-- no byte has come
pub scanned_none : IsScanned [] [] Nothing
scanned_none = record { good = []; line = []; lines = λ more. refl; are_edges = tt; inner = refl; part_is = refl }

-- one inner byte more has come
pub scanned_byte : (text : List ℕ) (edges : List Edge) (part : LinePart) (b : ℕ) → (b == 10) ≡ false → IsScanned text edges part → IsScanned (text ++ b ∷ []) edges (part_after part b)
scanned_byte text edges part b e h = record {
  good = h.good;
  line = h.line ++ b ∷ [];
  lines = λ more. ap lines_of (append_assoc text (b ∷ []) more) ∙ (h.lines (b ∷ more) ∙ ap (λ l. h.good ++ lines_of l) (sym (append_assoc h.line (b ∷ []) more)));
  are_edges = h.are_edges;
  inner = inner_more h.line b h.inner e;
  part_is = ap (λ p. part_after p b) h.part_is ∙ sym (part_more Nothing h.line b);
}

-- the lines up to a line's end
lines_to_end : (text : List ℕ) (edges : List Edge) (part : LinePart) (h : IsScanned text edges part) (more : List ℕ) → lines_of ((text ++ 10 ∷ []) ++ more) ≡ h.good ++ h.line ∷ lines_of more
lines_to_end text edges part h more =
    ap lines_of (append_assoc text (10 ∷ []) more) ∙ (h.lines (10 ∷ more) ∙ ap (λ ls. h.good ++ ls) (inner_line h.line more h.inner))

-- the line has ended, and spells an edge
pub scanned_line : (text : List ℕ) (edges : List Edge) (part : LinePart) (e : Edge) → edge_of_part part ≡ Some e → IsScanned text edges part → IsScanned (text ++ 10 ∷ []) (edges ++ e ∷ []) Nothing
scanned_line text edges part e k h = record {
  good = h.good ++ h.line ∷ [];
  line = [];
  lines = λ more. lines_to_end text edges part h more ∙ sym (append_assoc h.good (h.line ∷ []) (lines_of more));
  are_edges = one_line_more h.good edges h.line e h.are_edges (part_line h.line e (ap edge_of_part (sym h.part_is) ∙ k));
  inner = refl;
  part_is = refl;
}

-- the line has ended, and spells none
pub scanned_bad : (text : List ℕ) (edges : List Edge) (part : LinePart) → edge_of_part part ≡ None → IsScanned text edges part → (more : List ℕ) → SaysEdges ((text ++ 10 ∷ []) ++ more) edges (Some (length edges + 1))
scanned_bad text edges part k h more = (
  record {
    good = h.good;
    edges = edges;
    bad = h.line;
    more = lines_of more;
    lines = lines_to_end text edges part h more;
    are_edges = h.are_edges;
    is_bad = λ e l. absurd (let n : Some e ≡ None = sym (line_part h.line e l) ∙ (ap edge_of_part (sym h.part_is) ∙ k) in cc);
    number = ap (λ n. n + 1) (as_many h.good edges h.are_edges);
  },
  refl,
)

-- a part of which nothing has come
pub nothing_is : (p : LinePart) → is_nothing p ≡ true → p ≡ Nothing
nothing_is Nothing h = refl
nothing_is (Time t) h = absurd (cc)
nothing_is (Space t) h = absurd (cc)
nothing_is (Atn t a) h = absurd (cc)
nothing_is (Clock t a c) h = absurd (cc)
nothing_is (Whole e) h = absurd (cc)
nothing_is (Returned e) h = absurd (cc)
nothing_is Bad h = absurd (cc)

-- a whole line that spells an edge comes
pub scanned_whole : (text rest : List ℕ) (edges : List Edge) (part : LinePart) (line : EdgeLine) → is_nothing part ≡ true → ended_line_in rest ≡ Some line
    → IsScanned text edges part → IsScanned (text ++ take line.len rest) (edges ++ line.edge ∷ []) part
scanned_whole text rest edges part line p k s =
    let t = ended_line-is rest line k in
    let none : s.line ≡ [] = nothing_empty s.line (ap is_nothing (sym s.part_is) ∙ p) in
    record {
      good = s.good ++ t.line ∷ [];
      line = [];
      lines = λ more. ap lines_of (append_assoc text (take line.len rest) more)
          ∙ (s.lines (take line.len rest ++ more)
          ∙ (ap (λ bs. s.good ++ lines_of (bs ++ (take line.len rest ++ more))) none
          ∙ (ap (λ ls. s.good ++ ls) (t.lines more) ∙ sym (append_assoc s.good (t.line ∷ []) (lines_of more)))));
      are_edges = one_line_more s.good edges t.line line.edge s.are_edges t.is_line;
      inner = refl;
      part_is = nothing_is part p;
    }

-- a text that ends with a whole line spells its edges
pub scanned_ends : (text : List ℕ) (edges : List Edge) (part : LinePart) → is_nothing part ≡ true → IsScanned text edges part → IsTraceText text edges
scanned_ends text edges part n s =
    let none : s.line ≡ [] = nothing_empty s.line (ap is_nothing (sym s.part_is) ∙ n) in
    let lines : lines_of text ≡ s.good =
    ap lines_of (sym (append-nil text)) ∙ (s.lines [] ∙ (ap (λ l. s.good ++ lines_of (l ++ [])) none ∙ (ap (λ ls. s.good ++ ls) no_line ∙ append-nil s.good))) in
    subst (λ ls. AreEdgeLines ls edges) (sym lines) s.are_edges

-- a line's end after a line that lacks it makes no other lines
pub scanned_same_lines : (text : List ℕ) (edges : List Edge) (part : LinePart) → is_nothing part ≡ false → IsScanned text edges part
    → lines_of (text ++ 10 ∷ []) ≡ lines_of text
scanned_same_lines text edges part n s =
    let some : 0 < length s.line = something_some s.line (ap is_nothing (sym s.part_is) ∙ n) in
    let ended : lines_of (text ++ 10 ∷ []) ≡ s.good ++ s.line ∷ [] =
    ap lines_of (sym (append-nil (text ++ 10 ∷ []))) ∙ (lines_to_end text edges part s [] ∙ ap (λ ls. s.good ++ s.line ∷ ls) no_line) in
    let unended : lines_of text ≡ s.good ++ s.line ∷ [] =
    ap lines_of (sym (append-nil text)) ∙ (s.lines [] ∙ (ap (λ l. s.good ++ lines_of l) (append-nil s.line) ∙ ap (λ ls. s.good ++ ls) (last_line s.line some s.inner))) in
    ended ∙ sym unended

-- texts of the same lines are bad alike
pub first_bad_lines : (n : ℕ) (text other : List ℕ) → lines_of text ≡ lines_of other → IsFirstBad n text → IsFirstBad n other
first_bad_lines n text other e h = record {
  good = h.good;
  edges = h.edges;
  bad = h.bad;
  more = h.more;
  lines = sym e ∙ h.lines;
  are_edges = h.are_edges;
  is_bad = h.is_bad;
  number = h.number;
}

-- and say the same edges
pub says_lines : (text other : List ℕ) (edges : List Edge) (bad : Option ℕ) → lines_of text ≡ lines_of other → SaysEdges text edges bad → SaysEdges other edges bad
says_lines text other edges None e h = subst (λ ls. AreEdgeLines ls edges) e h
says_lines text other edges (Some n) e h = (
  record {
    good = h.0.good;
    edges = h.0.edges;
    bad = h.0.bad;
    more = h.0.more;
    lines = sym e ∙ h.0.lines;
    are_edges = h.0.are_edges;
    is_bad = h.0.is_bad;
    number = h.0.number;
  },
  h.1,
)
