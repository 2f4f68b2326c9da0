-- The summary and the verdict of a survey.
use Rattle.std.proofs.Common.{◌≡◌, ℕ, Bool, List, [], ◌∷◌, ◌++◌, length, Option, sym, ap, ◌∙◌}
use Rattle.std.specs.List.{count_by, find}
use Rattle.std.specs.Option.{option_or}
use Rattle.std.proofs.lemmas.List.Folds.{find-append}
use Rattle.pr_wire.specs.declared.WaveFault.{WaveFault}
use Rattle.pr_decode.specs.declared.reading.Reading.{Reading}
use Rattle.pr_report.specs.declared.counts.Counts.{Counts}
use Rattle.pr_report.specs.declared.detail.Bounds.{Bounds}
use Rattle.pr_report.specs.declared.detail.Bounds.TheVariants.{Guide}
use Rattle.pr_report.specs.declared.outside.Outside.{Outside}
use Rattle.pr_report.specs.Outside.{all_outside, first_of}
use Rattle.pr_report.specs.Summary.{counts_text, interval_lines_if, is_command, is_data_byte, is_frame, is_incomplete, is_unacknowledged, summary}
use Rattle.pr_report.specs.Taking.{HasCounted}
use Rattle.pr_report.specs.Verdict.{conclusion, is_damaged, verdict_line}
use Rattle.pr_report.proofs.Parts.{put}

-- the lines of the counts of readings
abbrev counts_of : List Reading → List ℕ
counts_of rs =
    counts_text (count_by is_frame rs) (count_by is_command rs) (count_by is_data_byte rs) (count_by is_unacknowledged rs)
    (count_by is_incomplete rs)

-- the counts are those of the readings
counts-told : (rs : List Reading) (c : Counts) → HasCounted rs c
    → counts_text c.frames c.commands c.data_bytes c.unacknowledged c.incomplete ≡ counts_of rs
counts-told rs c h =
    ap (λ n. counts_text n c.commands c.data_bytes c.unacknowledged c.incomplete) h.frames
    ∙ (ap (λ n. counts_text (count_by is_frame rs) n c.data_bytes c.unacknowledged c.incomplete) h.commands
    ∙ (ap (λ n. counts_text (count_by is_frame rs) (count_by is_command rs) n c.unacknowledged c.incomplete) h.data_bytes
    ∙ (ap (λ n. counts_text (count_by is_frame rs) (count_by is_command rs) (count_by is_data_byte rs) n c.incomplete) h.unacknowledged
    ∙ ap (λ n. counts_text (count_by is_frame rs) (count_by is_command rs) (count_by is_data_byte rs) (count_by is_unacknowledged rs) n) h.incomplete)))

-- the summary: the lines of the intervals, if they are asked for, and those of the counts
pub summary-told : (wanted : Bool) (b : Bounds) (rs : List Reading) (c : Counts) (t0 t1 t2 : List ℕ) → HasCounted rs c
    → t1 ≡ t0 ++ interval_lines_if wanted b rs → t2 ≡ t1 ++ counts_text c.frames c.commands c.data_bytes c.unacknowledged c.incomplete
    → t2 ≡ t0 ++ summary wanted b rs
unfolding summary
summary-told wanted b rs c t0 t1 t2 h e1 e2 =
    put t0 t1 t2 (interval_lines_if wanted b rs) (counts_of rs) e1 (e2 ∙ ap (λ (z : List ℕ). t1 ++ z) (counts-told rs c h))

-- the first damaged reading, with one reading more
pub damage-more : (rs : List Reading) (r : Reading) (before after : Option Reading) → before ≡ find is_damaged rs
    → after ≡ option_or before (find is_damaged (r ∷ [])) → after ≡ find is_damaged (rs ++ r ∷ [])
damage-more rs r before after was is =
    is ∙ (ap (λ o. option_or o (find is_damaged (r ∷ []))) was ∙ sym (find-append is_damaged rs (r ∷ [])))

-- the verdict: by what is kept of the readings
pub verdict-told : (b held : Bounds) (fault : Option WaveFault) (rs : List Reading) (damaged : Option Reading) (count : ℕ)
    (first : Option Outside) (t0 t1 : List ℕ) → held ≡ b → damaged ≡ find is_damaged rs → count ≡ length rs
    → first ≡ first_of (all_outside Guide rs) → t1 ≡ t0 ++ verdict_line held fault damaged count first
    → t1 ≡ t0 ++ conclusion b fault rs
verdict-told b held fault rs damaged count first t0 t1 same was many found told =
    told
    ∙ (ap (λ z. t0 ++ verdict_line z fault damaged count first) same
    ∙ (ap (λ z. t0 ++ verdict_line b fault z count first) was
    ∙ (ap (λ z. t0 ++ verdict_line b fault (find is_damaged rs) z first) many
    ∙ ap (λ z. t0 ++ verdict_line b fault (find is_damaged rs) (length rs) z) found)))
