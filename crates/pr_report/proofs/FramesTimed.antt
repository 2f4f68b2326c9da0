-- One edge more, taken by a frame timer.
use Rattle.std.proofs.Common.{◌≡◌, ℕ, ◌+◌, Bool, true, false, List, [], ◌∷◌, ◌++◌, Option, Some, None, Result, Ok, Err, if◌then◌else◌, refl, sym, ap, ◌∙◌, append_assoc, append-nil}
use Rattle.std.specs.Option.{option_to_list}
use Rattle.std.specs.Prelude.{MatchResult}
use Rattle.pr_wire.specs.declared.Edge.{Edge}
use Rattle.pr_wire.specs.declared.Frame.{Frame}
use Rattle.pr_wire.specs.declared.WaveFault.{WaveFault}
use Rattle.pr_wire.specs.declared.WaveFault.TheVariants.{Start}
use Rattle.pr_wire.specs.declared.bus_state.EdgeError.{EdgeError}
use Rattle.pr_wire.specs.declared.bus_state.BusState.{BusState}
use Rattle.pr_wire.specs.declared.bus_state.BusState.TheVariants.{Idle}
use Rattle.pr_wire.specs.declared.bus_state.Step.{Step}
use Rattle.pr_wire.specs.declared.follower.TraceFollower.{TraceFollower}
use Rattle.pr_wire.specs.Checking.{with_frame}
use Rattle.pr_wire.specs.Following.{HasAccepted, HasFollowed, Moves, Refuses, outcome, refused_at, where_led}
use Rattle.pr_wire.specs.Reached.{Reached, begin, indexed, step_of}
use Rattle.pr_wire.specs.Table.{is_start, verdict}
use Rattle.pr_report.specs.declared.timed_frame.TimedFrame.{TimedFrame}
use Rattle.pr_report.specs.declared.frame_timer.FrameTimer.{FrameTimer}
use Rattle.pr_report.specs.Moments.{if_allowed, look_with, timed_frames, timed_from, with_moments}
use Rattle.pr_report.specs.FrameTiming.{HasTold, timed_behind}

-- the first step, by whether the first edge is the start
abbrev start_step : Bool → Result Step WaveFault
start_step b = if b then Ok (record { place = Idle 0; frame = None }) else Err (Start 0)

-- all frames are those after no edge
pub frames-behind : (es : List Edge) → timed_frames es ≡ timed_behind 0 None (Idle 0) es
unfolding timed_frames
frames-behind [] = refl
frames-behind (e ∷ es) = refl

-- an edge that comes to a step ends the step's frame, and the frames after it follow
pub behind-step : (look : ℕ) (last : Option Edge) (p : BusState) (n : ℕ) (e : Edge) (es : List Edge) (s : Step) → step_of last p n e ≡ Ok s
    → timed_behind look last p (e ∷ es) ≡ option_to_list (with_moments look s.frame s.place) ++ timed_behind (look_with look s.place) (Some e) s.place es
behind-step look None p n e es s h = by (is_start e) h
  where
    by : (b : Bool) → start_step b ≡ Ok s
        → (if b then timed_from look e (Idle 0) es else []) ≡ option_to_list (with_moments look s.frame s.place) ++ timed_from (look_with look s.place) e s.place es
    by true k =
        let first : Step = record { place = Idle 0; frame = None } in
        let q : first ≡ s = cc in
        rw (← q) refl
    by false k = absurd (cc)
behind-step look (Some last) p n e es s h = by (verdict last p e) h
  where
    by : (v : Result Step EdgeError) → indexed n v ≡ Ok s
        → if_allowed v (λ t. option_to_list (with_moments look t.frame t.place) ++ timed_from (look_with look t.place) e t.place es)
        ≡ option_to_list (with_moments look s.frame s.place) ++ timed_from (look_with look s.place) e s.place es
    by (Ok t) k = let q : t ≡ s = cc in rw (← q) refl
    by (Err f) k = absurd (cc)

-- with an edge that is refused the frames end
pub behind-fault : (look : ℕ) (last : Option Edge) (p : BusState) (n : ℕ) (e : Edge) (es : List Edge) (w : WaveFault) → step_of last p n e ≡ Err w
    → timed_behind look last p (e ∷ es) ≡ []
behind-fault look None p n e es w h = by (is_start e) h
  where
    by : (b : Bool) → start_step b ≡ Err w → (if b then timed_from look e (Idle 0) es else []) ≡ []
    by true k = absurd (cc)
    by false k = refl
behind-fault look (Some last) p n e es w h = by (verdict last p e) h
  where
    by : (v : Result Step EdgeError) → indexed n v ≡ Err w
        → if_allowed v (λ t. option_to_list (with_moments look t.frame t.place) ++ timed_from (look_with look t.place) e t.place es) ≡ []
    by (Ok t) k = absurd (cc)
    by (Err f) k = refl

-- a follower after an edge that comes to a step
abbrev advanced : TraceFollower → Edge → Step → TraceFollower
advanced f e t = record { taken = f.taken + 1; last = Some e; state = t.place; refused = None }

-- what one edge changes, by the step that it comes to
abbrev moved_by : TraceFollower → Edge → Result (Option Frame) WaveFault → TraceFollower → Result Step WaveFault → Type 0
moved_by f e result new v =
    MatchResult v
    (λ (t : Step). (result ≡ Ok t.frame) × (new ≡ advanced f e t))
    (λ (w : WaveFault). (result ≡ Err w) × Refuses f w new)

-- one edge more is taken
told-step : (edges : List Edge) (given : List TimedFrame) (s new : FrameTimer) (e : Edge) (t : Step)
    → step_of s.follower.last s.follower.state s.follower.taken e ≡ Ok t
    → ((frames : List Frame) → HasAccepted edges frames s.follower → HasAccepted (edges ++ e ∷ []) (with_frame frames t.frame) new.follower)
    → new.follower ≡ advanced s.follower e t → new.look ≡ look_with s.look t.place
    → HasTold edges given s → HasTold (edges ++ e ∷ []) (given ++ option_to_list (with_moments s.look t.frame t.place)) new
told-step edges given s new e t k accepts f l h = record {
  frames = with_frame h.frames t.frame;
  accepted = accepts h.frames h.accepted;
  works = ap (λ x. x.refused) f;
  told = λ more.
      ap timed_frames (append_assoc edges (e ∷ []) more)
      ∙ (h.told (e ∷ more)
      ∙ (ap (λ v. given ++ v) (behind-step s.look s.follower.last s.follower.state s.follower.taken e more t k)
      ∙ (sym (append_assoc given (option_to_list (with_moments s.look t.frame t.place)) (timed_behind (look_with s.look t.place) (Some e) t.place more))
      ∙ sym (rw (f, l) refl))));
}

-- an edge that is accepted is taken, and gives its frame with its moments
pub told-more : (edges : List Edge) (given : List TimedFrame) (s new : FrameTimer) (f : TraceFollower) (e : Edge) (frame : Option Frame)
    (timed : Option TimedFrame)
    → ((es : List Edge) (frames : List Frame) → HasAccepted es frames s.follower → HasAccepted (es ++ e ∷ []) (with_frame frames frame) f)
    → (s.follower.refused ≡ None → Moves s.follower e (Ok frame) f)
    → timed ≡ with_moments s.look frame f.state → new ≡ record { follower = f; look = look_with s.look f.state }
    → HasTold edges given s → HasTold (edges ++ e ∷ []) (given ++ option_to_list timed) new
told-more edges given s new f e frame timed accepts moves is ends h =
    by (step_of s.follower.last s.follower.state s.follower.taken e) refl (moves h.works)
  where
    by : (v : Result Step WaveFault) → step_of s.follower.last s.follower.state s.follower.taken e ≡ v
        → moved_by s.follower e (Ok frame) f v
        → HasTold (edges ++ e ∷ []) (given ++ option_to_list timed) new
    by (Ok t) k (m, n) =
        let l : frame ≡ t.frame = cc in
        let p : f.state ≡ t.place = ap (λ x. x.state) n in
        let i : timed ≡ with_moments s.look t.frame t.place = is ∙ rw (l, p) refl in
        let accepted : (frames : List Frame) → HasAccepted edges frames s.follower → HasAccepted (edges ++ e ∷ []) (with_frame frames t.frame) f =
        rw (← l) (accepts edges) in
        let end : FrameTimer = record { follower = f; look = look_with s.look f.state } in
        rw (i, ends) (told-step edges given s end e t k accepted n (ap (λ x. look_with s.look x) p) h)
    by (Err w) k (m, n) = absurd (cc)

-- a follower that has refused nothing has followed what it has accepted
pub told-followed : (edges : List Edge) (given : List TimedFrame) (s : FrameTimer) (h : HasTold edges given s) → HasFollowed edges h.frames s.follower
told-followed edges given s h = h.accepted ∙ sym (ap (λ r. outcome (refused_at r s.follower.taken) (where_led s.follower h.frames)) h.works)

-- with an edge that is refused the story ends
pub refused-ends : (edges more : List Edge) (given : List TimedFrame) (s : FrameTimer) (f : TraceFollower) (e : Edge) (fault : WaveFault)
    → (s.follower.refused ≡ None → Moves s.follower e (Err fault) f) → HasTold edges given s → timed_frames (edges ++ e ∷ more) ≡ given
refused-ends edges more given s f e fault moves h = by (step_of s.follower.last s.follower.state s.follower.taken e) refl (moves h.works)
  where
    by : (v : Result Step WaveFault) → step_of s.follower.last s.follower.state s.follower.taken e ≡ v
        → moved_by s.follower e (Err fault) f v → timed_frames (edges ++ e ∷ more) ≡ given
    by (Ok t) k (m, n) = absurd (cc)
    by (Err w) k (m, n) =
        h.told (e ∷ more)
        ∙ (ap (λ l. given ++ l) (behind-fault s.look s.follower.last s.follower.state s.follower.taken e more w k) ∙ append-nil given)

-- no edge after the last adds a frame
pub behind-nothing : (look : ℕ) (last : Option Edge) (p : BusState) → timed_behind look last p [] ≡ []
behind-nothing look None p = refl
behind-nothing look (Some last) p = refl

-- the frames given are all that the edges end
pub told-all : (edges : List Edge) (given : List TimedFrame) (s : FrameTimer) → HasTold edges given s → timed_frames edges ≡ given
told-all edges given s h =
    ap timed_frames (sym (append-nil edges))
    ∙ (h.told [] ∙ (ap (λ l. given ++ l) (behind-nothing s.look s.follower.last s.follower.state) ∙ append-nil given))

-- nothing was taken
pub told-none : (f : TraceFollower) → HasAccepted [] [] f → f.refused ≡ None → HasTold [] [] (record { follower = f; look = 0 })
told-none f a w =
    let b : begin ≡ where_led f [] = cc in
    record {
      frames = [];
      accepted = a;
      works = w;
      told = λ more. frames-behind more ∙ ap (λ (r : Reached). timed_behind 0 r.last r.place more) b;
    }
