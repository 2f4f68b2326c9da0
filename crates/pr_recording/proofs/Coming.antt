-- What was reported so far comes first in what is reported of all edges, whatever follows.
use Rattle.std.proofs.Common.{◌≡◌, ℕ, List, [], ◌++◌, refl, ap, sym, ◌∙◌, append-nil, append_assoc, Option, Some, None}
use Rattle.std.specs.Option.{option_to_list}
use Rattle.pr_wire.specs.declared.Edge.{Edge}
use Rattle.pr_wire.specs.Table.{fault_of}
use Rattle.pr_decode.specs.declared.reading.Reading.{Reading}
use Rattle.pr_decode.specs.Laws.{MoreEdgesAddReadings, OnlyTheLastIsCut}
use Rattle.pr_decode.specs.Readings.{readings_of, settled_of}
use Rattle.pr_decode.specs.Taking.{GivenAreSettled}
use Rattle.pr_capture.specs.declared.format.TraceInput.{TraceInput}
use Rattle.pr_jobs.specs.Report.{edges_checked}
use Rattle.pr_jobs.specs.declared.fault.CliFault.{CliFault}
use Rattle.pr_recording.specs.declared.wording.Wording.{Wording}
use Rattle.pr_recording.specs.declared.decode_report.DecodeReport.{DecodeReport}
use Rattle.pr_recording.specs.Decoded.{back_in, in_front, last_lines, readings_text, stop_at, told_of}
use Rattle.pr_recording.specs.Narrated.{HasNarrated, lines_in}
use Rattle.pr_recording.proofs.Accounting.{rest_text, text_add}
use Rattle.pr_recording.proofs.Backs.{front_more}

-- the laws of what this is made of
pub record Laws : Type 0 where
  pub more : MoreEdgesAddReadings
  pub cut : OnlyTheLastIsCut
  pub given : GivenAreSettled

-- what is reported of edges begins with the lines of what those in front settle
told_begins : (input : TraceInput) (w : Wording) → OnlyTheLastIsCut → (edges : List Edge) (own : Option CliFault) → (rest : List ℕ) × (told_of w input (stop_at (back_in edges) own) edges ≡ readings_text w (settled_of (in_front (back_in edges) edges)) ++ rest)
told_begins input w cut edges own = by (back_in edges) refl own
  where
    by : (v : Option ℕ) → back_in edges ≡ v → (own : Option CliFault) → (rest : List ℕ) × (told_of w input (stop_at v own) edges ≡ readings_text w (settled_of (in_front (back_in edges) edges)) ++ rest)
    by (Some n) is own = ([], sym (append-nil (readings_text w (settled_of (in_front (back_in edges) edges)))))
    by None is (Some f) = ([], sym (append-nil (readings_text w (settled_of (in_front (back_in edges) edges)))))
    by None is None =
        let c = cut edges in
        let settled = settled_of edges in
        let end = last_lines w input (fault_of (edges_checked input.source edges)) edges (readings_of edges) in
        let last = rest_text w settled (option_to_list c.0) in
        let lines : readings_text w (readings_of edges) ≡ readings_text w settled ++ last = ap (λ rs. readings_text w rs) c.1 ∙ text_add w settled (option_to_list c.0) in
        let all : told_of w input None edges ≡ readings_text w settled ++ (last ++ end) = ap (λ t. t ++ end) lines ∙ append_assoc (readings_text w settled) last end in
        (last ++ end, all ∙ ap (λ v. readings_text w (settled_of (in_front v edges)) ++ (last ++ end)) (sym is))

-- the readings given are in front of all
given_begins : Laws → (before all : List Edge) (given : List Reading) (later : List Edge) → all ≡ before ++ later → settled_of (in_front (back_in before) before) ≡ given
    → (more : List Reading) × (settled_of (in_front (back_in all) all) ≡ given ++ more)
given_begins laws before all given later is has =
    let f = front_more before later in
    let m = laws.more (in_front (back_in before) before) f.0 in
    (m.0, ap (λ l. settled_of (in_front (back_in l) l)) is ∙ (ap settled_of f.1 ∙ (m.1 ∙ ap (λ rs. rs ++ m.0) has)))

-- what was reported so far of edges comes first in what is reported of them and more
pub coming : Laws → (input : TraceInput) (w : Wording) (edges later : List Edge) (written : List ℕ) (n : DecodeReport) (own : Option CliFault) → HasNarrated input.source w edges written n
    → (rest : List ℕ) × (told_of w input (stop_at (back_in (edges ++ later)) own) (edges ++ later) ≡ (written ++ lines_in n) ++ rest)
coming laws input w edges later written n own h =
    let all = edges ++ later in
    let given = given_begins laws edges all h.given later refl (laws.given (in_front (back_in edges) edges) h.given n.tape.head.decoder h.taped.played.read) in
    let begins = told_begins input w laws.cut all own in
    let behind = rest_text w h.given given.0 in
    let lines : readings_text w (settled_of (in_front (back_in all) all)) ≡ (written ++ lines_in n) ++ behind =
    ap (λ rs. readings_text w rs) given.1 ∙ (text_add w h.given given.0 ∙ ap (λ l. l ++ behind) (sym h.accounted.lines)) in
    (behind ++ begins.0, begins.1 ∙ (ap (λ l. l ++ begins.0) lines ∙ append_assoc (written ++ lines_in n) behind begins.0))
