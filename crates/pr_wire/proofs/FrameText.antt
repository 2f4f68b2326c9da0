-- The first lines of a text, and a frame that they are.
use Rattle.std.proofs.Common.{◌≡◌, ℕ, ◌+◌, ◌<◌, ◌≤◌, List, [], ◌∷◌, ◌++◌, length, take, drop, Some, false, true, refl, ap, sym, subst, ◌∙◌, arith, append_assoc, length-append}
use Rattle.std.proofs.Math.Seq.{take-add}
use Rattle.std.proofs.lemmas.List.{take_more_set, length-take-le, length-set}
use Rattle.std.specs.Prelude.{slice_set}
use Rattle.pr_wire.specs.declared.Edge.{Edge}
use Rattle.pr_wire.specs.declared.Frame.{Frame}
use Rattle.pr_wire.specs.declared.line.EdgeLine.{EdgeLine}
use Rattle.pr_wire.specs.declared.first_lines.FirstLines.{FirstLines}
use Rattle.pr_wire.specs.declared.line_part.LinePart.{LinePart}
use Rattle.pr_wire.specs.Following.{TakesFrame}
use Rattle.pr_wire.specs.Checked.{IsTaken}
use Rattle.pr_wire.specs.FirstLines.{AreFirstLines}
use Rattle.pr_wire.specs.LineParts.{is_nothing}
use Rattle.pr_wire.specs.declared.follower.TraceFollower.{TraceFollower}
use Rattle.pr_wire.specs.Checking.{with_frame}
use Rattle.pr_wire.specs.TextSteps.{ended_line_in}
use Rattle.pr_wire.specs.TraceText.{AreEdgeLines}
use Rattle.pr_base.specs.Lines.{lines_of}
use Rattle.pr_wire.proofs.ScanLaws.{nothing_is}
use Rattle.pr_wire.proofs.LineLaws.{ended_line-is}
use Rattle.pr_wire.proofs.PartLaws.{nothing_empty}
use Rattle.pr_wire.proofs.Following.{accepted-followed, followed-accepted}
use Rattle.pr_wire.proofs.TextLaws.{one_line_more}

-- lines and lines spell edges and edges
both_lines : (ls ms : List (List ℕ)) (es fs : List Edge) → AreEdgeLines ls es → AreEdgeLines ms fs → AreEdgeLines (ls ++ ms) (es ++ fs)
both_lines [] ms [] fs h k = k
both_lines [] ms (e ∷ es) fs h k = absurd h
both_lines (l ∷ ls) ms [] fs h k = absurd h
both_lines (l ∷ ls) ms (e ∷ es) fs h k = (h.0, both_lines ls ms es fs h.1 k)

-- one line more
pub more_lines : (text : List ℕ) (f g : FirstLines) (l : EdgeLine) → f.count < 22 → ended_line_in (drop f.len text) ≡ Some l
    → g.edges ≡ slice_set f.edges f.count l.edge → g.count ≡ f.count + 1 → g.len ≡ f.len + l.len → AreFirstLines text f → AreFirstLines text g
more_lines text f g l n k e c len h =
    let t = ended_line-is (drop f.len text) l k in
    let room : f.count < length f.edges = omega (arith, h.room, n) in
    record {
      room = ap (λ (es : List Edge). length es) e ∙ (length-set f.edges f.count l.edge ∙ h.room);
      good = h.good ++ t.line ∷ [];
      lines = λ more.
          ap (λ m. lines_of (take m text ++ more)) len
          ∙ (ap (λ bs. lines_of (bs ++ more)) (take-add f.len l.len text)
          ∙ (ap lines_of (append_assoc (take f.len text) (take l.len (drop f.len text)) more)
          ∙ (h.lines (take l.len (drop f.len text) ++ more)
          ∙ (ap (λ ls. h.good ++ ls) (t.lines more) ∙ sym (append_assoc h.good (t.line ∷ []) (lines_of more))))));
      are_edges =
          subst (λ es. AreEdgeLines (h.good ++ t.line ∷ []) es) (sym (ap (λ m. take m g.edges) c ∙ (ap (take (f.count + 1)) e ∙ take_more_set f.edges f.count l.edge room)))
          (one_line_more h.good (take f.count f.edges) t.line l.edge h.are_edges t.is_line);
    }

-- the lines of a whole frame come
pub taken_frame : (text rest : List ℕ) (frames : List Frame) (part q : LinePart) (count n : ℕ) (lines : FirstLines) (frame : Frame) (f g : TraceFollower)
    → is_nothing part ≡ true → q ≡ part → AreFirstLines rest lines → lines.count ≤ 22 → n ≡ count + lines.count → TakesFrame f lines.edges lines.count frame g
    → IsTaken false text frames part count f → IsTaken false (text ++ take lines.len rest) (with_frame frames (Some frame)) q n g
taken_frame text rest frames part q count n lines frame f g p e a few m t h =
    let s = h.scanned in
    let es = take lines.count lines.edges in
    let room : lines.count ≤ length lines.edges = omega (arith, a.room, few) in
    let none : s.line ≡ [] = nothing_empty s.line (ap is_nothing (sym s.part_is) ∙ p) in
    rw (e, m) (record {
      edges = h.edges ++ es;
      scanned = record {
        good = s.good ++ a.good;
        line = [];
        lines = λ more. ap lines_of (append_assoc text (take lines.len rest) more)
            ∙ (s.lines (take lines.len rest ++ more)
            ∙ (ap (λ bs. s.good ++ lines_of (bs ++ (take lines.len rest ++ more))) none
            ∙ (ap (λ ls. s.good ++ ls) (a.lines more) ∙ sym (append_assoc s.good a.good (lines_of more)))));
        are_edges = both_lines s.good a.good h.edges es s.are_edges a.are_edges;
        inner = refl;
        part_is = nothing_is part p;
      };
      count_is = length-append h.edges es ∙ (ap (λ k. k + length es) h.count_is ∙ ap (λ k. count + k) (length-take-le lines.count lines.edges room));
      followed = accepted-followed (h.edges ++ es) (frames ++ frame ∷ []) g t.stays (t.accepted h.edges frames (followed-accepted h.edges frames f t.works h.followed));
    })
