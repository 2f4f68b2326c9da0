-- What is reported of edges, as more of them come.
use Rattle.std.proofs.Common.{◌≡◌, ℕ, ◌+◌, ◌-◌, ◌≤◌, ◌^◌, Bool, true, false, List, ◌++◌, refl, ap, sym, ◌∙◌, arith, Option, Some, None}
use Rattle.std.specs.Prelude.{is_some}
use Rattle.pr_wire.specs.declared.Edge.{Edge}
use Rattle.pr_wire.specs.declared.WaveFault.{WaveFault}
use Rattle.pr_wire.specs.Table.{fault_of}
use Rattle.pr_capture.specs.declared.format.InputFormat.{InputFormat}
use Rattle.pr_capture.specs.declared.format.TraceInput.{TraceInput}
use Rattle.pr_decode.specs.declared.reading.Reading.{Reading}
use Rattle.pr_report.specs.Oddities.{oddities_of}
use Rattle.pr_jobs.specs.Report.{edges_checked}
use Rattle.pr_jobs.specs.declared.fault.CliFault.{CliFault}
use Rattle.pr_recording.specs.declared.wording.Wording.{Wording}
use Rattle.pr_recording.specs.declared.reading_log.ReadingLog.{ReadingLog}
use Rattle.pr_recording.specs.declared.decode_report.Ended.{Ended}
use Rattle.pr_recording.specs.declared.decode_report.DecodeReport.{DecodeReport}
use Rattle.pr_recording.specs.declared.tape.TapeEnd.{TapeEnd}
use Rattle.pr_recording.specs.Decoded.{back_in, last_lines, readings_text, readings_up_to, stop_at, told_of}
use Rattle.pr_recording.specs.Judged.{HasJudged, JudgesMore}
use Rattle.pr_recording.specs.Narrated.{AccountsMore, EndsEdges, HasAccounted, HasNarrated, NarratesMore}
use Rattle.pr_recording.specs.Taped.{EndsTape, IsEnd, TapesMore}
use Rattle.pr_recording.specs.Told.{refused_by}

-- all edges more are judged, and taken up to where time goes back
pub narrates : (old new : DecodeReport) (more : List Edge) → JudgesMore more old.judge new.judge → TapesMore AccountsMore more old.tape new.tape old.log new.log → NarratesMore more old new
narrates old new more judges tapes = λ s w edges written h. record {
  judged = judges s edges h.judged;
  given = h.given ++ tapes.later;
  taped = tapes.tapes edges h.given h.taped;
  accounted = tapes.taken w h.given written h.accounted;
}

-- the lines at the end of edges, by why they stop
pub record EndsLines (input : TraceInput) (fault : Option WaveFault) (n : DecodeReport) (log : ReadingLog) (end : TapeEnd) (e : Ended) : Type 0 where
  pub stopped : is_some end.stop ≡ true → e.lines ≡ log.lines
  pub whole : is_some end.stop ≡ false → (w : Wording) (edges : List Edge) (given : List Reading) (written : List ℕ) → end.odd ≡ oddities_of edges given
      → HasAccounted w given written log → written ++ e.lines.items ≡ readings_text w given ++ last_lines w input fault edges given
  pub odd : e.odd ≡ end.odd

-- the end of edges
pub ends : (input : TraceInput) (checked : Bool) (n : DecodeReport) (own : Option CliFault) (fault : Option WaveFault) (log : ReadingLog) (end : TapeEnd) (e : Ended) → EndsTape AccountsMore own n.tape n.log log end
    → ((s : InputFormat) (edges : List Edge) → HasJudged s edges n.judge → fault ≡ fault_of (edges_checked s edges)) → e.refused ≡ refused_by checked end.stop own fault → EndsLines input fault n log end e
    → (w : Wording) (edges : List Edge) (written : List ℕ) → HasNarrated input.source w edges written n → EndsEdges input w checked edges written own e
ends input checked n own fault log end e tape judges refused lines w edges written h = record {
  refused = refused ∙ (ap (λ v. refused_by checked v own fault) is.stop ∙ ap (λ f. refused_by checked (stop_at (back_in edges) own) own f) (judges input.source edges h.judged));
  lines = by end.stop refl ∙ ap (λ v. told_of w input v edges) is.stop;
  odd = λ none. lines.odd ∙ is.odd (is.stop ∙ none);
}
  where
    all : List Reading
    all = h.given ++ tape.later

    is : IsEnd edges own all end
    is = tape.ends edges h.given h.taped

    accounted : HasAccounted w all written log
    accounted = tape.taken w h.given written h.accounted

    by : (v : Option CliFault) → end.stop ≡ v → written ++ e.lines.items ≡ told_of w input end.stop edges
    by (Some f) k =
        ap (λ v. written ++ v.items) (lines.stopped (ap (λ (x : Option CliFault). is_some x) k))
        ∙ (accounted.lines
        ∙ (ap (λ rs. readings_text w rs) (is.readings ∙ ap (λ v. readings_up_to v edges) k) ∙ sym (ap (λ v. told_of w input v edges) k)))
    by None k =
        let whole = is.readings ∙ ap (λ v. readings_up_to v edges) k in
        let odd : end.odd ≡ oddities_of edges all = is.odd k ∙ ap (λ rs. oddities_of edges rs) (sym whole) in
        lines.whole (ap (λ (x : Option CliFault). is_some x) k) w edges all written odd accounted
        ∙ (ap (λ rs. readings_text w rs ++ last_lines w input fault edges rs) whole
        ∙ (ap (λ f. readings_text w (readings_up_to None edges) ++ last_lines w input f edges (readings_up_to None edges)) (judges input.source edges h.judged)
        ∙ sym (ap (λ v. told_of w input v edges) k)))

-- how many readings more fit, of as many as may come
pub load_more : (was is len : ℕ) → ((n : ℕ) → was + (len + n) ≤ 2 ^ 64 - 1 → is + n ≤ 2 ^ 64 - 1) → was + len ≤ 2 ^ 64 - 1 → is ≤ was + len
load_more was is len room fits =
    let left = (2 ^ 64 - 1) - (was + len) in
    let k = room left (omega (arith, fits)) in
    omega (arith, fits, k)
