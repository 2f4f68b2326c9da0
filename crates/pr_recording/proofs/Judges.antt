-- Edges that are judged one after another.
use Rattle.std.proofs.Common.{◌≡◌, ℕ, ◌+◌, ◌<◌, List, [], ◌∷◌, ◌++◌, length, map, take, drop, get_or, ap, refl, sym, subst, ◌∙◌, arith, append-nil, append_assoc, false, true, Option, Some, None, Result, Ok, Err}
use Rattle.std.proofs.Math.Seq.{take-add}
use Rattle.std.proofs.lemmas.List.{map-append, take_all}
use Rattle.std.specs.Prelude.{is_some}
use Rattle.pr_wire.specs.declared.Edge.{Edge}
use Rattle.pr_wire.specs.declared.Frame.{Frame}
use Rattle.pr_wire.specs.declared.WaveFault.{WaveFault}
use Rattle.pr_wire.specs.declared.bus_state.Step.{Step}
use Rattle.pr_wire.specs.declared.follower.Refusal.{Refusal}
use Rattle.pr_wire.specs.declared.follower.TraceFollower.{TraceFollower}
use Rattle.pr_wire.specs.Following.{HasAccepted, TakesFrame, kept_fault, outcome, refusal_at, refused_at, where_led}
use Rattle.pr_wire.specs.Reached.{Reached, begin, led, onto, reached, step_of}
use Rattle.pr_capture.specs.Samples.{counted_from}
use Rattle.pr_capture.specs.declared.format.InputFormat.{InputFormat}
use Rattle.pr_capture.specs.declared.format.InputFormat.TheVariants as source
use Rattle.pr_jobs.specs.Begun.{CountsOn, HasBegun, KeepsTimes}
use Rattle.pr_jobs.specs.Report.{counted_from_first, edges_checked}
use Rattle.pr_jobs.specs.declared.beginning.Beginning.{Beginning}
use Rattle.pr_recording.specs.declared.judge.Judge.{Judge}
use Rattle.pr_recording.specs.Judged.{HasJudged, IsFollowed, JudgesMore}

-- no edge was followed, or judged
pub followed_none : (f : TraceFollower) → HasAccepted [] [] f → f.refused ≡ None → IsFollowed [] f
followed_none f accepted works =
    let none : List Frame = [] in
    (none, accepted ∙ sym (ap (λ v. outcome (refused_at v f.taken) (where_led f none)) works))

pub judged_none : (s : InputFormat) (j : Judge) → HasBegun s [] j.beginning → IsFollowed [] j.follower → HasJudged s [] j
judged_none source.Text j begun followed = record { begun = begun; followed = followed }
judged_none source.Csv j begun followed = record { begun = begun; followed = followed }
judged_none source.Vcd j begun followed = record { begun = begun; followed = followed }

-- one edge more
pub judges_one : (e counted : Edge) (old new : Judge) → CountsOn e counted old.beginning new.beginning
    → ((edges : List Edge) → IsFollowed edges old.follower → IsFollowed (edges ++ counted ∷ []) new.follower) → JudgesMore (e ∷ []) old new
judges_one e counted old new counts follows = λ source edges h.
    let k = counts source edges h.begun in
    let P : List Edge → Type 0 = λ l. IsFollowed l new.follower in
    record { begun = k.begun; followed = subst P (sym k.counts) (follows (edges_checked source edges) h.followed) }

-- a whole frame is followed
frame_followed : (old new : TraceFollower) (edges : List Edge) (n : ℕ) (frame : Frame) → TakesFrame old edges n frame new
    → (before : List Edge) → IsFollowed before old → IsFollowed (before ++ take n edges) new
frame_followed old new edges n frame takes before (frames, h) = (
  frames ++ frame ∷ [],
  takes.accepted before frames (h ∙ ap (λ v. outcome (refused_at v old.taken) (where_led old frames)) takes.works)
      ∙ sym (ap (λ v. outcome (refused_at v new.taken) (where_led new (frames ++ frame ∷ []))) takes.stays),
)

pub judges_frame : (old new : Judge) (edges : List Edge) (n : ℕ) (frame : Frame) → KeepsTimes old.beginning → new.beginning ≡ old.beginning
    → TakesFrame old.follower edges n frame new.follower → JudgesMore (take n edges) old new
judges_frame old new edges n frame keeps same takes = λ source before h.
    let k = keeps source before (take n edges) h.begun in
    let P : List Edge → Type 0 = λ l. IsFollowed l new.follower in
    record {
      begun = ap (λ (b : Beginning). b.moment) same ∙ k.begun;
      followed = subst P (sym k.counts) (frame_followed old.follower new.follower edges n frame takes (edges_checked source before) h.followed);
    }

-- the first of edges
pub judges_first : (old mid new : Judge) (edges : List Edge) (x : Edge) → mid ≡ old → 0 < length edges → JudgesMore (get_or edges 0 x ∷ []) mid new
    → JudgesMore (take 1 edges) old new
judges_first old mid new [] x same some judges = absurd (omega (arith, some))
judges_first old mid new (y ∷ edges) x same some judges = let P : Judge → Type 0 = λ j. JudgesMore (y ∷ []) j new in subst P same judges

-- no edge, and edges after others
pub judges_none : (j : Judge) → JudgesMore [] j j
judges_none j = λ source before h. let P : List Edge → Type 0 = λ l. HasJudged source l j in subst P (sym (append-nil before)) h

pub judges_front : (n m : ℕ) (edges : List Edge) (old mid new : Judge) → JudgesMore (take n edges) old mid → JudgesMore (take m (drop n edges)) mid new
    → JudgesMore (take (n + m) edges) old new
judges_front n m edges old mid new h k = λ source before j.
    let P : List Edge → Type 0 = λ l. HasJudged source l new in
    subst P (append_assoc before (take n edges) (take m (drop n edges)) ∙ ap (λ l. before ++ l) (sym (take-add n m edges)))
    (k source (before ++ take n edges) (h source before j))

-- where a step refuses an edge, what comes after it changes nothing
led_on : (f g : Step → Result Reached WaveFault) (w : WaveFault) → ((s : Step) → f s ≡ Err w → g s ≡ Err w) → (v : Result Step WaveFault)
    → led f v ≡ Err w → led g v ≡ Err w
led_on f g w on (Ok s) h = on s h
led_on f g w on (Err x) h = h

refused_on : (r : Reached) (edges more : List Edge) (w : WaveFault) → reached r edges ≡ Err w → reached r (edges ++ more) ≡ Err w
refused_on r [] more w h = absurd (cc)
refused_on r (e ∷ es) more w h =
    led_on (λ s. reached (onto r e s) es) (λ s. reached (onto r e s) (es ++ more)) w (λ s k. refused_on (onto r e s) es more w k)
    (step_of r.last r.place r.count e) h

-- a follower that has refused an edge has its fault, whatever follows
abbrev pub HasFault : TraceFollower → WaveFault → Type 0
HasFault f w = (frames : List Frame) → outcome (kept_fault f) (where_led f frames) ≡ Err w

fault_kept : (f : TraceFollower) → is_some f.refused ≡ true → (w : WaveFault) × HasFault f w
fault_kept f some = by f.refused refl
  where
    by : (v : Option Refusal) → f.refused ≡ v → (w : WaveFault) × HasFault f w
    by None is = absurd (let e : is_some f.refused ≡ false = ap (λ (x : Option Refusal). is_some x) is in cc (e, some))
    by (Some refusal) is = (refusal_at refusal f.taken, λ frames. ap (λ v. outcome (refused_at v f.taken) (where_led f frames)) is)

followed_on : (f : TraceFollower) (edges more : List Edge) → is_some f.refused ≡ true → IsFollowed edges f → IsFollowed (edges ++ more) f
followed_on f edges more some (frames, h) =
    let k = fault_kept f some in
    (frames, refused_on begin edges more k.0 (h ∙ k.1 frames) ∙ sym (k.1 frames))

none_refused : (f : TraceFollower) → is_some f.refused ≡ true → IsFollowed [] f → ⊥
none_refused f some (frames, h) =
    let k = fault_kept f some in
    let e : Ok begin ≡ Err k.0 = h ∙ k.1 frames in
    absurd (cc e)

-- the first of the edges of a recording counts from itself, and those after it from there
judges_on : (f : TraceFollower) (e : Edge) (edges more : List Edge) → is_some f.refused ≡ true → IsFollowed (counted_from_first (e ∷ edges)) f
    → IsFollowed (counted_from_first ((e ∷ edges) ++ more)) f
judges_on f e edges more some h =
    let P : List Edge → Type 0 = λ l. IsFollowed l f in
    subst P (sym (map-append (counted_from e.time) (e ∷ edges) more))
    (followed_on f (counted_from_first (e ∷ edges)) (map (counted_from e.time) more) some h)

pub judges_refused : (j : Judge) (more : List Edge) → is_some j.follower.refused ≡ true → JudgesMore more j j
judges_refused j more some = by
  where
    by : JudgesMore more j j
    by source.Text edges h = record { begun = h.begun; followed = followed_on j.follower edges more some h.followed }
    by source.Csv [] h = absurd (none_refused j.follower some h.followed)
    by source.Csv (e ∷ edges) h = record { begun = h.begun; followed = judges_on j.follower e edges more some h.followed }
    by source.Vcd [] h = absurd (none_refused j.follower some h.followed)
    by source.Vcd (e ∷ edges) h = record { begun = h.begun; followed = judges_on j.follower e edges more some h.followed }

pub judges_settled : (j : Judge) (edges : List Edge) → is_some j.follower.refused ≡ true → JudgesMore (take (length edges) edges) j j
judges_settled j edges some =
    let P : List Edge → Type 0 = λ l. JudgesMore l j j in
    subst P (sym (take_all (length edges) edges (omega arith))) (judges_refused j edges some)
