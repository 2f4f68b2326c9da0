-- Readings and their text, as more of them come.
use Rattle.std.proofs.Common.{◌≡◌, ℕ, List, [], ◌∷◌, ◌++◌, refl, ap, sym, ◌∙◌, append-nil, append_assoc, Option}
use Rattle.pr_wire.specs.declared.Edge.{Edge}
use Rattle.pr_wire.specs.declared.WaveFault.{WaveFault}
use Rattle.pr_capture.specs.declared.format.TraceInput.{TraceInput}
use Rattle.pr_decode.specs.declared.reading.Reading.{Reading}
use Rattle.pr_report.specs.declared.detail.Bounds.{Bounds}
use Rattle.pr_report.specs.declared.detail.Detail.{Detail}
use Rattle.pr_report.specs.declared.context.Context.{Context}
use Rattle.pr_report.specs.Contexts.{after_reading, at_start, behind_all}
use Rattle.pr_report.specs.declared.oddities.Oddities.{Oddities}
use Rattle.pr_report.specs.JsonText.{json_line, json_lines, json_verdict}
use Rattle.pr_report.specs.ReadingText.{all_lines, reading_lines}
use Rattle.pr_report.specs.Oddities.{oddities_of, oddities_text}
use Rattle.pr_report.specs.Verdict.{conclusion}
use Rattle.pr_report.specs.Summary.{summary}
use Rattle.pr_report.specs.Taking as survey
use Rattle.pr_recording.specs.Decoded.{last_lines, readings_text}
use Rattle.pr_recording.specs.Narrated.{AccountsMore, HasAccounted, bounds_in, reading_text}
use Rattle.pr_recording.specs.declared.reading_log.ReadingLog.{ReadingLog}
use Rattle.pr_recording.specs.declared.wording.Wording.{Wording}
use Rattle.pr_recording.specs.declared.wording.Wording.TheVariants.{Json, Lines}

-- the lines of readings after others
lines_add : (d : Detail) (c : Context) (rs qs : List Reading) → all_lines d c (rs ++ qs) ≡ all_lines d c rs ++ all_lines d (behind_all c rs) qs
lines_add d c [] qs = refl
lines_add d c (r ∷ rs) qs =
    ap (λ t. reading_lines d c r ++ t) (lines_add d (after_reading c r) rs qs)
    ∙ sym (append_assoc (reading_lines d c r) (all_lines d (after_reading c r) rs) (all_lines d (behind_all c (r ∷ rs)) qs))

json_add : (rs qs : List Reading) → json_lines (rs ++ qs) ≡ json_lines rs ++ json_lines qs
json_add [] qs = refl
json_add (r ∷ rs) qs = ap (λ t. json_line r ++ t) (json_add rs qs) ∙ sym (append_assoc (json_line r) (json_lines rs) (json_lines qs))

-- the text of readings after others
abbrev pub rest_text : Wording → (before more : List Reading) → List ℕ
rest_text (Lines d) rs qs = all_lines d (behind_all at_start rs) qs
rest_text Json rs qs = json_lines qs

pub text_add : (w : Wording) (rs qs : List Reading) → readings_text w (rs ++ qs) ≡ readings_text w rs ++ rest_text w rs qs
text_add (Lines d) rs qs = lines_add d at_start rs qs
text_add Json rs qs = json_add rs qs

-- that of one
rest_one : (w : Wording) (rs : List Reading) (r : Reading) → rest_text w rs (r ∷ []) ≡ reading_text w (behind_all at_start rs) r
rest_one (Lines d) rs r = append-nil (reading_lines d (behind_all at_start rs) r)
rest_one Json rs r = append-nil (json_line r)

text_one : (w : Wording) (rs : List Reading) (r : Reading) → readings_text w (rs ++ r ∷ []) ≡ readings_text w rs ++ reading_text w (behind_all at_start rs) r
text_one w rs r = text_add w rs (r ∷ []) ∙ ap (λ t. readings_text w rs ++ t) (rest_one w rs r)

-- what follows them
behind_add : (c : Context) (rs qs : List Reading) → behind_all c (rs ++ qs) ≡ behind_all (behind_all c rs) qs
behind_add c [] qs = refl
behind_add c (r ∷ rs) qs = behind_add (after_reading c r) rs qs

-- a reading more
pub accounts_one : (old new : ReadingLog) (r : Reading) → new.wording ≡ old.wording → new.lines.items ≡ old.lines.items ++ reading_text old.wording old.context r
    → new.context ≡ after_reading old.context r
    → ((b : Bounds) (rs : List Reading) → survey.HasSurveyed b rs old.survey → survey.HasSurveyed b (rs ++ r ∷ []) new.survey) → AccountsMore (r ∷ []) old new
accounts_one old new r same lines context taken = λ w given written h. record {
  wording = same ∙ h.wording;
  surveyed = taken (bounds_in w) given h.surveyed;
  context = context ∙ (ap (λ c. after_reading c r) h.context ∙ sym (behind_add at_start given (r ∷ [])));
  lines =
      ap (λ t. written ++ t) (lines ∙ (ap (λ x. old.lines.items ++ reading_text x old.context r) h.wording ∙ ap (λ c. old.lines.items ++ reading_text w c r) h.context))
      ∙ (sym (append_assoc written old.lines.items (reading_text w (behind_all at_start given) r))
      ∙ (ap (λ t. t ++ reading_text w (behind_all at_start given) r) h.lines ∙ sym (text_one w given r)));
}

-- lines that are given up
pub cleared : (old new : ReadingLog) → new.wording ≡ old.wording → new.survey ≡ old.survey → new.context ≡ old.context → new.lines.items ≡ []
    → (w : Wording) (given : List Reading) (written : List ℕ) → HasAccounted w given written old → HasAccounted w given (written ++ old.lines.items) new
cleared old new e s b l = λ w given written h. record {
  wording = e ∙ h.wording;
  surveyed = rw s h.surveyed;
  context = b ∙ h.context;
  lines = ap (λ t. (written ++ old.lines.items) ++ t) l ∙ (append-nil (written ++ old.lines.items) ∙ h.lines);
}

-- the end
pub accounts_end : (w : Wording) (a : ReadingLog) (given : List Reading) (written text more : List ℕ) → HasAccounted w given written a → text ≡ a.lines.items ++ more
    → written ++ text ≡ readings_text w given ++ more
accounts_end w a given written text more h is =
    ap (λ t. written ++ t) is ∙ (sym (append_assoc written a.lines.items more) ∙ ap (λ t. t ++ more) h.lines)

-- what follows them at the end
pub last_in_lines : (w : Wording) (d : Detail) (input : TraceInput) (fault : Option WaveFault) (edges : List Edge) (given : List Reading) (odd : Oddities) → w ≡ Lines d → odd ≡ oddities_of edges given
    → summary d.intervals (bounds_in w) given ++ (conclusion (bounds_in w) fault given ++ oddities_text input odd) ≡ last_lines w input fault edges given
last_in_lines (Lines x) d input fault edges given odd is o =
    let same : x ≡ d = cc in
    ap (λ (z : Detail). summary z.intervals x.bounds given ++ (conclusion x.bounds fault given ++ oddities_text input odd)) (sym same)
    ∙ ap (λ z. summary x.intervals x.bounds given ++ (conclusion x.bounds fault given ++ oddities_text input z)) o
last_in_lines Json d input fault edges given odd is o = absurd (cc)

pub last_in_json : (w : Wording) (input : TraceInput) (fault : Option WaveFault) (edges : List Edge) (given : List Reading) → w ≡ Json → json_verdict fault ≡ last_lines w input fault edges given
last_in_json (Lines d) input fault edges given is = absurd (cc)
last_in_json Json input fault edges given is = refl
