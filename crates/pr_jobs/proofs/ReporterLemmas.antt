-- Reports: edges by their frames.
use Rattle.std.proofs.Common.{◌≡◌, ℕ, Bool, false, List, [], ◌∷◌, ◌++◌, refl, ap, sym, subst, ◌∙◌, append-nil, append_assoc, Option, Some, None, Result, Ok, Err}
use Rattle.std.specs.Prelude.{codes, flat_map, map, IfOk, IfSome, OnOk}
use Rattle.std.specs.Option.{option_to_list}
use Rattle.std.proofs.lemmas.Grind.{flat_map-append}
use Rattle.pr_wire.specs.declared.Edge.{Edge}
use Rattle.pr_wire.specs.declared.Frame.{Frame}
use Rattle.pr_wire.specs.declared.WaveFault.{WaveFault}
use Rattle.pr_wire.specs.declared.WaveFault.TheVariants as wave
use Rattle.pr_wire.specs.declared.text.TraceFault.TheVariants as trace
use Rattle.pr_wire.specs.Laws.{LawfulIsFaultless}
use Rattle.pr_wire.specs.Pieces.{frames_of, Spells}
use Rattle.pr_wire.specs.Table.{fault_of}
use Rattle.pr_report.specs.declared.frame_timer.FrameTimer.{FrameTimer}
use Rattle.pr_report.specs.declared.timed_frame.TimedFrame.{TimedFrame}
use Rattle.pr_report.specs.StoryLaws.{TracesTellWhatTheySpell}
use Rattle.pr_report.specs.Moments.{frame_told, timed_frames}
use Rattle.pr_report.specs.StoryText.{is_data, story_line, story_lines, story_of}
use Rattle.pr_report.specs.FrameTiming.{HasTold}
use Rattle.pr_report.specs.declared.report.Report.{Report}
use Rattle.pr_report.specs.declared.report.Report.TheVariants as report
use Rattle.pr_jobs.specs.FrameText.{frame_line, frame_lines}
use Rattle.pr_jobs.specs.Report.{refusal, IsReport, IsOwnFault}
use Rattle.pr_jobs.specs.Reported.{data_behind, last_line, lines_of_frame, lines_of_frames, AreLines, EndsReport, HasEnded, HasReported, IsTraceFault, ReportsMore, TellsSoFar}
use Rattle.pr_jobs.specs.declared.reporter.FrameReporter.{FrameReporter}
use Rattle.pr_jobs.specs.declared.reporter.ReportText.{ReportText}
use Rattle.pr_jobs.specs.declared.fault.CliFault.{CliFault}
use Rattle.pr_jobs.specs.declared.fault.CliFault.TheVariants.{Script, Trace, Wave, Capture, Picture, TooLarge, NoMemory, ReadFailed, WriteFailed}

-- a frame more in a story
story_more : (b : Bool) (fs : List TimedFrame) (f : TimedFrame) → story_lines b (fs ++ f ∷ []) ≡ story_lines b fs ++ story_line (data_behind b fs) f
story_more b [] f = append-nil (story_line b f)
story_more b (g ∷ fs) f =
    ap (λ t. story_line b g ++ t) (story_more (is_data g.sending) fs f)
    ∙ sym (append_assoc (story_line b g) (story_lines (is_data g.sending) fs) (story_line (data_behind (is_data g.sending) fs) f))

-- a frame more in a report
lines_more : (r : Report) (fs : List TimedFrame) (f : TimedFrame) → lines_of_frames r (fs ++ f ∷ []) ≡ lines_of_frames r fs ++ lines_of_frame r (data_behind false fs) f
lines_more report.Frames fs f =
    flat_map-append (λ (g : TimedFrame). frame_line (frame_told g)) fs (f ∷ [])
    ∙ ap (λ t. flat_map (λ (g : TimedFrame). frame_line (frame_told g)) fs ++ t) (append-nil (frame_line (frame_told f)))
lines_more report.Story fs f = story_more false fs f

-- the last frame is a data byte
data_more : (b : Bool) (fs : List TimedFrame) (f : TimedFrame) → data_behind b (fs ++ f ∷ []) ≡ is_data f.sending
data_more b [] f = refl
data_more b (g ∷ fs) f = data_more (is_data g.sending) fs f

-- what an edge adds, if it ends a frame
abbrev pub lines_if : Report → (behind_data : Bool) → Option TimedFrame → List ℕ
lines_if r b None = []
lines_if r b (Some f) = lines_of_frame r b f

abbrev pub data_if : (behind_data : Bool) → Option TimedFrame → Bool
data_if b None = b
data_if b (Some f) = is_data f.sending

lines_with : (r : Report) (fs : List TimedFrame) (f : Option TimedFrame) → lines_of_frames r (fs ++ option_to_list f) ≡ lines_of_frames r fs ++ lines_if r (data_behind false fs) f
lines_with r fs None = ap (lines_of_frames r) (append-nil fs) ∙ sym (append-nil (lines_of_frames r fs))
lines_with r fs (Some f) = lines_more r fs f

data_with : (fs : List TimedFrame) (f : Option TimedFrame) → data_behind false (fs ++ option_to_list f) ≡ data_if (data_behind false fs) f
data_with fs None = ap (data_behind false) (append-nil fs)
data_with fs (Some f) = data_more false fs f

-- an edge that the frame timer takes
told_more : (edges : List Edge) (given : List TimedFrame) (e : Edge) (f : Option TimedFrame) (old new : FrameTimer) (a b : Option WaveFault) → a ≡ None → b ≡ None
    → ((es : List Edge) (gs : List TimedFrame) → HasTold es gs old → HasTold (es ++ e ∷ []) (gs ++ option_to_list f) new)
    → TellsSoFar edges given old a → TellsSoFar (edges ++ e ∷ []) (given ++ option_to_list f) new b
told_more edges given e f old new None None n m told t = told edges given t
told_more edges given e f old new None (Some w) n m told t = absurd (cc)
told_more edges given e f old new (Some w) b n m told t = absurd (cc)

-- no fault is no lack of memory
no_memory : (a : Option WaveFault) → a ≡ None → a ≡ Some wave.NoMemory → ⊥
no_memory None e k = absurd (cc)
no_memory (Some w) e k = absurd (cc)

other_fault : (a : Option WaveFault) (w : WaveFault) → a ≡ Some w → (w ≡ wave.NoMemory → ⊥) → a ≡ Some wave.NoMemory → ⊥
other_fault None w e n k = absurd (cc)
other_fault (Some v) w e n k = n (cc)

-- so the reporter has taken it
pub edge_more : (old new : FrameReporter) (e : Edge) (f : Option TimedFrame) → old.fault ≡ None → new.fault ≡ None → new.report ≡ old.report
    → new.lines.items ≡ old.lines.items ++ lines_if old.report old.behind_data f → new.behind_data ≡ data_if old.behind_data f
    → ((edges : List Edge) (given : List TimedFrame) → HasTold edges given old.timer → HasTold (edges ++ e ∷ []) (given ++ option_to_list f) new.timer)
    → ReportsMore (e ∷ []) old new
edge_more old new e f n m r l b told = λ report edges h. record {
  report_is = r ∙ h.report_is;
  given = h.given ++ option_to_list f;
  lines = l ∙ (rw (h.report_is, h.behind, h.lines) (sym (lines_with report h.given f)));
  behind = b ∙ (rw h.behind (sym (data_with h.given f)));
  told = told_more edges h.given e f old.timer new.timer old.fault new.fault n m told h.told;
  memory = no_memory new.fault m;
}

-- an edge that is refused
told_refused : (edges : List Edge) (given : List TimedFrame) (e : Edge) (w : WaveFault) (old new : FrameTimer) (a b : Option WaveFault) → a ≡ None → b ≡ Some w
    → ((es more : List Edge) (gs : List TimedFrame) → HasTold es gs old → fault_of (es ++ e ∷ more) ≡ Some w)
    → ((es more : List Edge) (gs : List TimedFrame) → HasTold es gs old → timed_frames (es ++ e ∷ more) ≡ gs)
    → TellsSoFar edges given old a → TellsSoFar (edges ++ e ∷ []) given new b
told_refused edges given e w old new None None n m fault ends t = absurd (cc)
told_refused edges given e w old new None (Some v) n m fault ends t = λ more.
    let same : v ≡ w = cc in
    rw (append_assoc edges (e ∷ []) more, same) (fault edges more given t, ends edges more given t)
told_refused edges given e w old new (Some v) b n m fault ends t = absurd (cc)

pub edge_refused : (old new : FrameReporter) (e : Edge) (w : WaveFault) → old.fault ≡ None → new.fault ≡ Some w → new.report ≡ old.report → new.lines.items ≡ old.lines.items
    → new.behind_data ≡ old.behind_data → (w ≡ wave.NoMemory → ⊥)
    → ((es more : List Edge) (gs : List TimedFrame) → HasTold es gs old.timer → fault_of (es ++ e ∷ more) ≡ Some w)
    → ((es more : List Edge) (gs : List TimedFrame) → HasTold es gs old.timer → timed_frames (es ++ e ∷ more) ≡ gs)
    → ReportsMore (e ∷ []) old new
edge_refused old new e w n m r l b small fault ends = λ report edges h. record {
  report_is = r ∙ h.report_is;
  given = h.given;
  lines = l ∙ h.lines;
  behind = b ∙ h.behind;
  told = told_refused edges h.given e w old.timer new.timer old.fault new.fault n m fault ends h.told;
  memory = other_fault new.fault w m small;
}

-- an edge after a fault
told_kept : (edges : List Edge) (given : List TimedFrame) (e : Edge) (t : FrameTimer) (a : Option WaveFault) → (a ≡ None → ⊥) → TellsSoFar edges given t a → TellsSoFar (edges ++ e ∷ []) given t a
told_kept edges given e t None n h = absurd (n refl)
told_kept edges given e t (Some w) n h = λ more. rw (append_assoc edges (e ∷ []) more) (h (e ∷ more))

pub edge_kept : (r : FrameReporter) (e : Edge) → (r.fault ≡ None → ⊥) → ReportsMore (e ∷ []) r r
edge_kept r e n = λ report edges h. record {
  report_is = h.report_is;
  given = h.given;
  lines = h.lines;
  behind = h.behind;
  told = told_kept edges h.given e r.timer r.fault n h.told;
  memory = h.memory;
}

-- no edge
pub edges_none : (r : FrameReporter) → ReportsMore [] r r
edges_none r = λ report edges h. let P : List Edge → Type 0 = λ es. HasReported report es r in subst P (sym (append-nil edges)) h

-- nothing was taken
pub reported_none : (r : Report) (new : FrameReporter) → new.report ≡ r → new.lines.items ≡ [] → new.behind_data ≡ false → new.fault ≡ None → HasTold [] [] new.timer → HasReported r [] new
reported_none r new a l b n told = record {
  report_is = a;
  given = [];
  lines = l ∙ by r;
  behind = b;
  told = rw n told;
  memory = no_memory new.fault n;
}
  where
    by : (r : Report) → [] ≡ lines_of_frames r []
    by report.Frames = refl
    by report.Story = refl

-- edges that have a fault
fault_known : (edges : List Edge) (given : List TimedFrame) (t : FrameTimer) (w : WaveFault) → TellsSoFar edges given t (Some w) → (fault_of edges ≡ Some w) × (timed_frames edges ≡ given)
fault_known edges given t w h = let P : List Edge → Type 0 = λ es. (fault_of es ≡ Some w) × (timed_frames es ≡ given) in subst P (append-nil edges) (h [])

pub ended_faulty : (r : FrameReporter) (w : WaveFault) → r.fault ≡ Some w → HasEnded r (Some w)
ended_faulty r w e = λ report edges h.
    let t : TellsSoFar edges h.given r.timer (Some w) = rw e at h.told in
    let k = fault_known edges h.given r.timer w t in
    record { fault_is = sym k.0; frames = k.1; memory = λ m. h.memory (e ∙ m) }

-- edges that have none so far
pub ended_told : (r : FrameReporter) (fault : Option WaveFault) → r.fault ≡ None → (fault ≡ Some wave.NoMemory → ⊥)
    → ((es : List Edge) (gs : List TimedFrame) → HasTold es gs r.timer → timed_frames es ≡ gs)
    → ((es : List Edge) (gs : List TimedFrame) → HasTold es gs r.timer → fault ≡ fault_of es) → HasEnded r fault
ended_told r fault e m frames is = λ report edges h.
    let t : TellsSoFar edges h.given r.timer None = rw e at h.told in
    record { fault_is = is edges h.given t; frames = frames edges h.given t; memory = m }

-- lines of frames without their moments
lines_of_told : (fs : List TimedFrame) → flat_map (λ (f : TimedFrame). frame_line (frame_told f)) fs ≡ flat_map frame_line (map frame_told fs)
lines_of_told [] = refl
lines_of_told (f ∷ fs) = ap (λ t. frame_line (frame_told f) ++ t) (lines_of_told fs)

-- the report on a lawful trace
lawful_report : LawfulIsFaultless → TracesTellWhatTheySpell → (r : Report) (edges : List Edge) (given : List TimedFrame) (lines : List ℕ) → fault_of edges ≡ None → timed_frames edges ≡ given
    → lines ≡ lines_of_frames r given ++ codes "lawful\n" → IsReport r edges None lines
unfolding frame_lines story_of
lawful_report lawful tell report.Frames edges given lines n t e =
    let cut = (lawful edges).1 n in
    let frames : List Frame = frames_of cut.0 in
    let spelled : Spells edges frames = (cut.0, cut.1, refl) in
    let same : flat_map (λ (f : TimedFrame). frame_line (frame_told f)) given ≡ flat_map frame_line frames =
    ap (flat_map (λ (f : TimedFrame). frame_line (frame_told f))) (sym t) ∙ (lines_of_told (timed_frames edges) ∙ ap (flat_map frame_line) (tell edges frames spelled)) in
    (frames, spelled, e ∙ ap (λ v. v ++ codes "lawful\n") same)
lawful_report lawful tell report.Story edges given lines n t e = e ∙ rw (t, n) refl

-- why a trace is refused
refusal_none : (own : Option CliFault) (w : Option WaveFault) → refusal own w ≡ None → w ≡ None
refusal_none None None h = refl
refusal_none None (Some w) h = absurd (cc)
refusal_none (Some f) w h = absurd (cc)

trace_fault : (own : Option CliFault) (w : Option WaveFault) → (w ≡ Some wave.NoMemory → ⊥) → IfSome own IsOwnFault → IfSome (refusal own w) IsTraceFault
trace_fault None None n h = tt
trace_fault None (Some w) n h = by w (λ k. n (ap (λ (x : WaveFault). Some x) k))
  where
    by : (w : WaveFault) → (w ≡ wave.NoMemory → ⊥) → IsTraceFault (Wave w)
    by (wave.Start i) n = tt
    by (wave.Order i) n = tt
    by (wave.TooEarly i) n = tt
    by (wave.TooLate i) n = tt
    by (wave.Shape i) n = tt
    by (wave.Truncated i) n = tt
    by wave.NoMemory n = absurd (n refl)
trace_fault (Some f) w n h = by f h
  where
    by : (f : CliFault) → IsOwnFault f → IsTraceFault f
    by (Script x) h = absurd h
    by (Trace (trace.BadLine i)) h = tt
    by (Trace trace.NoMemory) h = absurd h
    by (Wave x) h = absurd h
    by (Capture x) h = h
    by (Picture x) h = absurd h
    by TooLarge h = absurd h
    by NoMemory h = absurd h
    by ReadFailed h = absurd h
    by WriteFailed h = absurd h

-- the end of a report
pub report_ends : LawfulIsFaultless → TracesTellWhatTheySpell → (report : Report) (edges : List Edge) (r : FrameReporter) (own : Option CliFault) (fault : Option WaveFault) (t : ReportText)
    → HasEnded r fault → t.refused ≡ refusal own fault → t.lines.items ≡ r.lines.items ++ last_line t.refused → HasReported report edges r → EndsReport report edges own t
report_ends lawful tell report edges r own fault t ends is lines h =
    let k = ends report edges h in
    record {
      is_refused = is ∙ ap (refusal own) k.fault_is;
      are_lines = by k.frames (λ e. sym k.fault_is ∙ refusal_none own fault (sym is ∙ e)) t.refused refl;
      faults = λ o. let P : Option CliFault → Type 0 = λ v. IfSome v IsTraceFault in subst P (sym is) (trace_fault own fault k.memory o);
    }
  where
    by : timed_frames edges ≡ h.given → (t.refused ≡ None → fault_of edges ≡ None) → (v : Option CliFault) → t.refused ≡ v → AreLines report edges v t.lines.items
    by timed none None e = lawful_report lawful tell report edges h.given t.lines.items (none e) timed (lines ∙ rw (h.lines, e) refl)
    by timed none (Some f) e = lines ∙ rw (h.lines, e) (append-nil (lines_of_frames report h.given) ∙ ap (lines_of_frames report) (sym timed))

-- what holds where a call went well holds of what follows from it
pub on_ok : {X E : Type 0} (r : Result X E) (P Q : Type 0) → OnOk r P → (P → Q) → OnOk r Q
on_ok (Ok x) P Q p f = f p
on_ok (Err e) P Q p f = tt

pub if_ok : {X E : Type 0} (r : Result X E) (P Q : X → Type 0) → IfOk r P → ((x : X) → P x → Q x) → IfOk r Q
if_ok (Ok x) P Q p f = f x p
if_ok (Err e) P Q p f = tt

-- what a frame timer has taken, in other words
pub told_as : (old mid new : FrameTimer) (e : Edge) (f g : Option TimedFrame) → f ≡ g → new ≡ mid
    → ((es : List Edge) (gs : List TimedFrame) → HasTold es gs old → HasTold (es ++ e ∷ []) (gs ++ option_to_list f) mid)
    → (es : List Edge) (gs : List TimedFrame) → HasTold es gs old → HasTold (es ++ e ∷ []) (gs ++ option_to_list g) new
told_as old mid new e f g a b h es gs k = rw (b, ← a) (h es gs k)
