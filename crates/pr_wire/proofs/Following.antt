-- Edges that a follower is given, and where they lead.
use Rattle.std.proofs.Common.{◌≡◌, ℕ, ◌+◌, ◌-◌, ◌<◌, ◌≤◌, length, true, false, List, [], ◌∷◌, ◌++◌, take, reverse, Option, Some, None, Result, Ok, Err, MatchResult, refl, sym, ap, ◌∙◌, append_assoc}
use Rattle.pr_wire.specs.declared.Edge.{Edge}
use Rattle.pr_wire.specs.declared.Frame.{Frame}
use Rattle.pr_wire.specs.declared.WaveFault.{WaveFault}
use Rattle.pr_wire.specs.declared.WaveFault.TheVariants.{Start, Truncated}
use Rattle.pr_wire.specs.declared.bus_state.BusState.{BusState}
use Rattle.pr_wire.specs.declared.bus_state.Step.{Step}
use Rattle.pr_wire.specs.declared.follower.Refusal.{Refusal}
use Rattle.pr_wire.specs.declared.follower.TraceFollower.{TraceFollower}
use Rattle.pr_wire.specs.Ahead.{behind, last_of, PassesFrame, EndsNoneSooner}
use Rattle.pr_wire.specs.Checking.{with_frame}
use Rattle.pr_wire.specs.Following.{TakesFrame, HasAccepted, HasFollowed, LeadBy, Moves, Refuses, kept_fault, outcome, refusal_at, refused_at, where_led}
use Rattle.pr_wire.specs.FollowSteps.{RefusesAs}
use Rattle.pr_wire.specs.Pieces.{Spells}
use Rattle.pr_wire.specs.Reached.{begin, reached, led, one_more, onto, add, step_of, fault_by, fault_at_stop}
use Rattle.pr_wire.specs.Table.{fault_of, may_end}
use Rattle.pr_wire.proofs.Reached.{reached-more, fault-reached, with_frame-reverse, comes_by-spells}
use Rattle.pr_wire.proofs.WholeFrames.{reached-both}

-- where none was refused, the edges given are those accepted
pub followed-accepted : (edges : List Edge) (frames : List Frame) (f : TraceFollower) → f.refused ≡ None → HasFollowed edges frames f → HasAccepted edges frames f
followed-accepted edges frames f n h = h ∙ ap (λ o. outcome (refused_at o f.taken) (where_led f frames)) n

pub accepted-followed : (edges : List Edge) (frames : List Frame) (f : TraceFollower) → f.refused ≡ None → HasAccepted edges frames f → HasFollowed edges frames f
accepted-followed edges frames f n h = h ∙ sym (ap (λ o. outcome (refused_at o f.taken) (where_led f frames)) n)

-- where one was, the edges have its fault, whatever follows
pub followed-refused : (edges : List Edge) (frames : List Frame) (f : TraceFollower) (w : WaveFault) → kept_fault f ≡ Some w → HasFollowed edges frames f → reached begin edges ≡ Err w
followed-refused edges frames f w k h = h ∙ ap (λ o. outcome o (where_led f frames)) k

pub fault-more : (edges more : List Edge) (w : WaveFault) → reached begin edges ≡ Err w → fault_of (edges ++ more) ≡ Some w
fault-more edges more w h = fault-reached (edges ++ more) ∙ ap (λ v. fault_by v) (reached-both edges more begin ∙ ap (λ v. led (λ q. reached q more) v) h)

refused-more : (edges more : List Edge) (w : WaveFault) → reached begin edges ≡ Err w → reached begin (edges ++ more) ≡ Err w
refused-more edges more w h = reached-both edges more begin ∙ ap (λ v. led (λ q. reached q more) v) h

-- one edge more
accepted-step : (edges : List Edge) (frames : List Frame) (f : TraceFollower) (e : Edge) (v : Result Step WaveFault) → step_of f.last f.state f.taken e ≡ v → HasAccepted edges frames f
    → reached begin (edges ++ e ∷ []) ≡ led (λ s. Ok (onto (where_led f frames) e s)) v
accepted-step edges frames f e v k h = reached-more edges e ∙ (ap (λ x. led (λ q. one_more q e) x) h ∙ ap (λ x. led (λ s. Ok (onto (where_led f frames) e s)) x) k)

ok-one : {B : Type 0} (a b : Option Frame) → ◌≡◌ {A = Result (Option Frame) B} (Ok a) (Ok b) → a ≡ b
ok-one a b h = cc

err-not-ok : (r : Refusal) (a : Option Frame) → ◌≡◌ {A = Result (Option Frame) Refusal} (Err r) (Ok a) → ⊥
err-not-ok r a h = absurd (cc)

-- what an edge changes by its step, and what is found of it
abbrev MovesBy : Result Step WaveFault → TraceFollower → Edge → Result (Option Frame) WaveFault → TraceFollower → Type 0
MovesBy v f e result new =
    MatchResult v
    (λ (s : Step). (result ≡ Ok s.frame) × (new ≡ record { taken = f.taken + 1; last = Some e; state = s.place; refused = None }))
    (λ (w : WaveFault). (result ≡ Err w) × Refuses f w new)

abbrev FindsBy : Result Step WaveFault → TraceFollower → Result (Option Frame) Refusal → TraceFollower → Type 0
FindsBy v f found mid =
    MatchResult v (λ (s : Step). (found ≡ Ok s.frame) × (mid ≡ record f { state = s.place })) (λ (w : WaveFault). RefusesAs f.taken w found × (mid ≡ f))

-- the follower after an edge that is accepted
abbrev pub after : TraceFollower → Edge → TraceFollower
after mid e = record { taken = mid.taken + 1; last = Some e; state = mid.state; refused = mid.refused }

-- an edge that is accepted
pub moves-accepted : (f new : TraceFollower) (e : Edge) (frame : Option Frame) → Moves f e (Ok frame) new
    → (edges : List Edge) (frames : List Frame) → HasAccepted edges frames f → HasAccepted (edges ++ e ∷ []) (with_frame frames frame) new
moves-accepted f new e frame m edges frames h = by (step_of f.last f.state f.taken e) refl m
  where
    by : (v : Result Step WaveFault) → step_of f.last f.state f.taken e ≡ v → MovesBy v f e (Ok frame) new → HasAccepted (edges ++ e ∷ []) (with_frame frames frame) new
    by (Ok s) k m =
        let x : Ok frame ≡ Ok s.frame = m.0 in
        let g : frame ≡ s.frame = cc in
        rw m.1 (accepted-step edges frames f e (Ok s) k h
        ∙ ap (λ (l : List Frame). Ok (record { last = Some e; place = s.place; before = l; count = f.taken + 1 }))
        (ap (λ o. add o (reverse frames)) (sym g) ∙ sym (with_frame-reverse frames frame)))
    by (Err w) k m = absurd (let x : Ok frame ≡ Err w = m.0 in cc)

-- what the step of an edge that is accepted comes to
pub step-ok : (f mid : TraceFollower) (e : Edge) (frame : Option Frame) → f.refused ≡ None → FindsBy (step_of f.last f.state f.taken e) f (Ok frame) mid → Moves f e (Ok frame) (after mid e)
step-ok f mid e frame n m = by (step_of f.last f.state f.taken e) m
  where
    by : (v : Result Step WaveFault) → FindsBy v f (Ok frame) mid → MovesBy v f e (Ok frame) (after mid e)
    by (Ok s) m = let g : frame ≡ s.frame = ok-one frame s.frame m.0 in (ap (λ x. Ok x) g, rw (m.1, n) refl)
    by (Err w) m = absurd m.0

pub step-refused : (f mid : TraceFollower) (e : Edge) (frame : Option Frame) → f.refused ≡ None → FindsBy (step_of f.last f.state f.taken e) f (Ok frame) mid → mid.refused ≡ None
step-refused f mid e frame n m = by (step_of f.last f.state f.taken e) m
  where
    by : (v : Result Step WaveFault) → FindsBy v f (Ok frame) mid → mid.refused ≡ None
    by (Ok s) m = rw (m.1, n) refl
    by (Err w) m = absurd m.0

-- and that of one that is refused
pub step-err : (f mid : TraceFollower) (e : Edge) (refusal : Refusal) → FindsBy (step_of f.last f.state f.taken e) f (Err refusal) mid
    → (edges : List Edge) (frames : List Frame) → HasAccepted edges frames f → reached begin (edges ++ e ∷ []) ≡ Err (refusal_at refusal mid.taken)
step-err f mid e refusal m edges frames h = by (step_of f.last f.state f.taken e) refl m
  where
    by : (v : Result Step WaveFault) → step_of f.last f.state f.taken e ≡ v → FindsBy v f (Err refusal) mid → reached begin (edges ++ e ∷ []) ≡ Err (refusal_at refusal mid.taken)
    by (Ok s) k m = absurd (err-not-ok refusal s.frame m.0)
    by (Err w) k m = accepted-step edges frames f e (Err w) k h ∙ ap (λ x. Err x) (sym m.0 ∙ ap (λ (g : TraceFollower). refusal_at refusal g.taken) (sym m.1))

-- the edges given, with one that was accepted
pub followed-ok : (f new : TraceFollower) (e : Edge) (frame : Option Frame) → f.refused ≡ None → new.refused ≡ None → Moves f e (Ok frame) new
    → (edges : List Edge) (frames : List Frame) → HasFollowed edges frames f → HasFollowed (edges ++ e ∷ []) (with_frame frames frame) new
followed-ok f new e frame n k m edges frames h =
    accepted-followed (edges ++ e ∷ []) (with_frame frames frame) new k (moves-accepted f new e frame m edges frames (followed-accepted edges frames f n h))

-- or with one that was refused, now or before
pub followed-err : (edges : List Edge) (frames : List Frame) (new : TraceFollower) (e : Edge) (w : WaveFault) → kept_fault new ≡ Some w → reached begin (edges ++ e ∷ []) ≡ Err w → HasFollowed (edges ++ e ∷ []) frames new
followed-err edges frames new e w k h = h ∙ sym (ap (λ o. outcome o (where_led new frames)) k)

pub refused-before : (f : TraceFollower) (e : Edge) (w : WaveFault) → kept_fault f ≡ Some w → (edges : List Edge) (frames : List Frame) → HasFollowed edges frames f → reached begin (edges ++ e ∷ []) ≡ Err w
refused-before f e w k edges frames h = refused-more edges (e ∷ []) w (followed-refused edges frames f w k h)

-- a fault with an edge is one with more edges
pub fault-later : (edges more : List Edge) (e : Edge) (w : WaveFault) → reached begin (edges ++ e ∷ []) ≡ Err w → fault_of (edges ++ e ∷ more) ≡ Some w
fault-later edges more e w h = ap fault_of (sym (append_assoc edges (e ∷ []) more)) ∙ fault-more (edges ++ e ∷ []) more w h

-- what edges lead to that are taken at once
pub passes-frame : (f : TraceFollower) (new : BusState) (last : Edge) (edges : List Edge) (n : ℕ) (frame : Frame) → f.last ≡ Some last → PassesFrame last f.state edges n new frame
    → (before : List Edge) (frames : List Frame) → HasAccepted before frames f
    → HasAccepted (before ++ take n edges) (frames ++ frame ∷ []) (record { taken = f.taken + n; last = Some (last_of edges n); state = new; refused = f.refused })
passes-frame f new last edges n frame l p before frames h =
    let c : where_led f frames ≡ behind last f.state (reverse frames) f.taken = rw l refl in
    reached-both before (take n edges) begin
    ∙ (ap (λ v. led (λ q. reached q (take n edges)) v) h
    ∙ (ap (λ q. reached q (take n edges)) c
    ∙ (p (reverse frames) f.taken
    ∙ ap (λ b. Ok (behind (last_of edges n) new b (f.taken + n))) (sym (with_frame-reverse frames (Some frame))))))

-- those before the last of them end none
pub passes-sooner : (f : TraceFollower) (last : Edge) (edges : List Edge) (n : ℕ) → f.last ≡ Some last → EndsNoneSooner last f.state edges n
    → (before : List Edge) (frames : List Frame) → HasAccepted before frames f → LeadBy (before ++ take (n - 1) edges) frames
passes-sooner f last edges n l p before frames h =
    let c : where_led f frames ≡ behind last f.state (reverse frames) f.taken = rw l refl in
    let e : reached begin (before ++ take (n - 1) edges) ≡ reached (behind last f.state (reverse frames) f.taken) (take (n - 1) edges)
    = reached-both before (take (n - 1) edges) begin
    ∙ (ap (λ v. led (λ q. reached q (take (n - 1) edges)) v) h ∙ ap (λ q. reached q (take (n - 1) edges)) c) in
    rw e (p (reverse frames) f.taken)

-- the end of the edges given
pub accepted-fault : (edges : List Edge) (frames : List Frame) (f : TraceFollower) → HasAccepted edges frames f → fault_of edges ≡ fault_at_stop f.last f.state f.taken
accepted-fault edges frames f h = fault-reached edges ∙ ap (λ v. fault_by v) h

pub accepted-spells : (edges : List Edge) (frames : List Frame) (f : TraceFollower) (last : Edge) → f.last ≡ Some last → may_end f.state ≡ true → HasAccepted edges frames f → Spells edges frames
accepted-spells edges frames f last l m h = comes_by-spells edges frames (where_led f frames, h, rw l m, refl)

pub fault-kept : (edges : List Edge) (frames : List Frame) (f : TraceFollower) (w : WaveFault) → kept_fault f ≡ Some w → HasFollowed edges frames f → fault_of edges ≡ Some w
fault-kept edges frames f w k h = fault-reached edges ∙ ap (λ v. fault_by v) (followed-refused edges frames f w k h)

-- the fault of an end, by where it is
pub stop-unstarted : (o : Option Edge) (p : BusState) (n : ℕ) → o ≡ None → fault_at_stop o p n ≡ Some (Start 0)
stop-unstarted o p n l = rw l refl

pub stop-none : (o : Option Edge) (last : Edge) (p : BusState) (n : ℕ) → o ≡ Some last → may_end p ≡ true → fault_at_stop o p n ≡ None
stop-none o last p n l m = rw (l, m) refl

pub stop-cut : (o : Option Edge) (last : Edge) (p : BusState) (n : ℕ) → o ≡ Some last → may_end p ≡ false → fault_at_stop o p n ≡ Some (Truncated n)
stop-cut o last p n l m = rw (l, m) refl

-- edges are taken at once, by where the state has gone
pub takes-frame : (f new : TraceFollower) (p : BusState) (last : Edge) (edges : List Edge) (n : ℕ) (frame : Frame) → 0 < n → n ≤ length edges
    → f.refused ≡ None → f.last ≡ Some last → PassesFrame last f.state edges n p frame → EndsNoneSooner last f.state edges n
    → new ≡ record { taken = f.taken + n; last = Some (last_of edges n); state = p; refused = f.refused } → TakesFrame f edges n frame new
takes-frame f new p last edges n frame some within works l passes sooner is = rw is (record {
  some = some;
  within = within;
  works = works;
  accepted = passes-frame f p last edges n frame l passes;
  sooner = passes-sooner f last edges n l sooner;
  count = refl;
  last = refl;
  stays = works;
})

-- the edges given are those accepted, where no fault is kept
pub followed-kept : (edges : List Edge) (frames : List Frame) (f : TraceFollower) → kept_fault f ≡ None → HasFollowed edges frames f → HasAccepted edges frames f
followed-kept edges frames f k h = h ∙ ap (λ o. outcome o (where_led f frames)) k
