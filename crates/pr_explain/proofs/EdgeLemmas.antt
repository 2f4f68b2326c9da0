-- Edges that are followed to the first that is not allowed.
use Rattle.std.proofs.Common.{◌≡◌, ℕ, ◌+◌, ◌-◌, ◌<◌, ◌≤◌, ◌^◌, Bool, true, false, not, ◌&&◌, ◌||◌, List, [], ◌∷◌, ◌++◌, length, take, drop, refl, ap, subst, sym, ◌∙◌, arith, append_assoc, append-nil, length-append, Option, Some, None, Result, Ok, Err}
use Rattle.std.specs.Prelude.{◌↔◌, ◌==◌, IsTrue, if◌then◌else◌, nat_lt, slice_index_or}
use Rattle.std.specs.List.{list_all, list_any}
use Rattle.std.specs.Result.{result_err}
use Rattle.std.proofs.lemmas.Grind.{common_steps}
use Rattle.std.proofs.lemmas.List.{take_rest}
use Rattle.pr_wire.specs.declared.Edge.{Edge}
use Rattle.pr_wire.specs.declared.Frame.{Frame}
use Rattle.pr_wire.specs.declared.WaveFault.{WaveFault}
use Rattle.pr_wire.specs.declared.bus_state.EdgeError.{EdgeError}
use Rattle.pr_wire.specs.declared.bus_state.Step.{Step}
use Rattle.pr_wire.specs.declared.follower.TraceFollower.{TraceFollower}
use Rattle.pr_wire.specs.Checking.{with_frame}
use Rattle.pr_wire.specs.Following.{HasAccepted, HasFollowed, Refuses, outcome, refused_at, where_led}
use Rattle.pr_wire.specs.Laws.{AllowedIsReached, OneEdgeMore}
use Rattle.pr_wire.specs.Reached.{Reached, begin, first_step, indexed, led, one_more, onto, reached, step_of}
use Rattle.pr_wire.specs.Table.{IsAllowed, fault_of, verdict}
use Rattle.pr_capture.specs.declared.format.TraceInput.{TraceInput}
use Rattle.pr_jobs.specs.Report.{Says, edges_checked}
use Rattle.pr_jobs.specs.declared.fault.CliFault.{CliFault}
use Rattle.pr_explain.specs.declared.edges.EdgePlace.{EdgePlace}
use Rattle.pr_explain.specs.declared.edges.Followed.{Followed}
use Rattle.pr_explain.specs.declared.edges.Refused.{Refused}
use Rattle.pr_explain.specs.declared.rows.Row.{Row}
use Rattle.pr_explain.specs.declared.traces.ReadingPlace.{ReadingPlace}
use Rattle.pr_explain.specs.declared.traces.TracePlace.{TracePlace}
use Rattle.pr_explain.specs.Followed.{EndsAt, Follows, HasFront}
use Rattle.pr_explain.specs.Rows.{AreRowsBehind, all_lead_apart, has_moment, is_step, takes}
use Rattle.pr_explain.specs.TracePlaces.{AreRowsAfter, AreStopped, IsPlaceOf, IsPlaceRead, IsReadingPlace, IsTracePlace, StopAfter, StopsAt, fault_line, missed_by, missed_first, row_to}

-- a step is taken
abbrev is_taken : Result Step WaveFault → Bool
is_taken (Ok s) = true
is_taken (Err w) = false

-- an edge is allowed after others exactly if its step is taken
allowed_by : AllowedIsReached → (edges : List Edge) (e : Edge) (r : Reached) (v : Result Step WaveFault) → reached begin (edges ++ e ∷ []) ≡ led (λ s. Ok (onto r e s)) v
    → IsTrue (is_taken v) ↔ IsAllowed (edges ++ e ∷ [])
allowed_by allowed edges e r (Ok s) h = (λ t. (allowed (edges ++ e ∷ [])).1 (onto r e s, h), λ a. refl)
allowed_by allowed edges e r (Err w) h =
    (λ t. absurd (cc), λ a. let x = (allowed (edges ++ e ∷ [])).0 a in absurd (let n : Err w ≡ Ok x.0 = sym h ∙ x.1 in cc))

-- where one edge more leads
leads : OneEdgeMore → (edges : List Edge) (frames : List Frame) (f : TraceFollower) (e : Edge) → HasAccepted edges frames f
    → reached begin (edges ++ e ∷ []) ≡ led (λ s. Ok (onto (where_led f frames) e s)) (step_of f.last f.state f.taken e)
leads one edges frames f e h = one.step edges e ∙ ap (λ v. led (λ r. one_more r e) v) h

taken_indexed : (n : ℕ) (v : Result Step EdgeError) → is_taken (indexed n v) ≡ is_step v
taken_indexed n (Ok s) = refl
taken_indexed n (Err f) = refl

-- rows that have the step of an edge after others have the edges that may follow these
rows_by : AllowedIsReached → OneEdgeMore → (rows : List (Option Row)) (edges : List Edge) (frames : List Frame) (f : TraceFollower) → HasAccepted edges frames f
    → ((e : Edge) → e.time < 2 ^ 64 → is_taken (step_of f.last f.state f.taken e) ≡ list_any (λ row. takes row e) rows) → AreRowsAfter rows edges
rows_by allowed one rows edges frames f h same = λ e small.
    subst (λ b. IsTrue b ↔ IsAllowed (edges ++ e ∷ [])) (same e small)
    (allowed_by allowed edges e (where_led f frames) (step_of f.last f.state f.taken e) (leads one edges frames f e h))

pub rows_after_last : AllowedIsReached → OneEdgeMore → (rows : List (Option Row)) (last : Edge) (edges : List Edge) (frames : List Frame) (f : TraceFollower) → f.last ≡ Some last
    → AreRowsBehind rows last f.state → HasAccepted edges frames f → AreRowsAfter rows edges
rows_after_last allowed one rows last edges frames f is behind h =
    rows_by allowed one rows edges frames f h (λ e small. ap (λ l. is_taken (step_of l f.state f.taken e)) is ∙ (taken_indexed f.taken (verdict last f.state e) ∙ sym (behind e small)))

-- the row of the first edge of a trace
abbrev pub first_row : Row
first_row = record { levels = record { atn = true; clock = true; line = true }; earliest = 0; latest = Some 0 }

zero : (t : ℕ) → (t == 0) ≡ (not (nat_lt t 0) && not (nat_lt 0 t))
zero t = grind (arith, common_steps)

and_true : (z : Bool) → z && true ≡ z
and_true true = refl
and_true false = refl

and_false : (z : Bool) → z && false ≡ false
and_false true = refl
and_false false = refl

or_false : (z : Bool) → z || false ≡ z
or_false true = refl
or_false false = refl

-- tests in another order
tests : (z n a c l : Bool) → z ≡ n → (z && (a && (c && l))) ≡ (a && (c && (l && n))) || false
tests z n true true true e = and_true z ∙ (e ∙ sym (or_false n))
tests z n true true false e = and_false z
tests z n true false l e = and_false z
tests z n false c l e = and_false z

taken_if : (b : Bool) (s : Step) (w : WaveFault) → is_taken (if b then Ok s else Err w) ≡ b
taken_if true s w = refl
taken_if false s w = refl

at_start : (e : Edge) → is_taken (first_step e) ≡ list_any (λ row. takes row e) (Some first_row ∷ None ∷ None ∷ [])
at_start e =
    taken_if (e.time == 0 && (e.levels.atn && (e.levels.clock && e.levels.line))) _ _
    ∙ tests (e.time == 0) (not (nat_lt e.time 0) && not (nat_lt 0 e.time)) e.levels.atn e.levels.clock e.levels.line (zero e.time)

pub rows_at_start : AllowedIsReached → OneEdgeMore → (edges : List Edge) (frames : List Frame) (f : TraceFollower) → f.last ≡ None → HasAccepted edges frames f
    → AreRowsAfter (Some first_row ∷ None ∷ None ∷ []) edges
rows_at_start allowed one edges frames f is h =
    rows_by allowed one (Some first_row ∷ None ∷ None ∷ []) edges frames f h (λ e small. ap (λ l. is_taken (step_of l f.state f.taken e)) is ∙ at_start e)

-- no edge was followed yet
pub front_none : (edges : List Edge) (f : TraceFollower) → HasAccepted [] [] f → f.refused ≡ None → HasFront edges edges f
front_none edges f h w = record { before = []; frames = []; cut = refl; accepted = h; works = w }

-- one edge more was accepted
pub front_more : (edges more : List Edge) (e : Edge) (f g : TraceFollower) (frame : Option Frame) → HasFront edges (e ∷ more) f
    → ((es : List Edge) (fs : List Frame) → HasAccepted es fs f → HasAccepted (es ++ e ∷ []) (with_frame fs frame) g) → g.refused ≡ None → HasFront edges more g
front_more edges more e f g frame h goes w = record {
  before = h.before ++ e ∷ [];
  frames = with_frame h.frames frame;
  cut = h.cut ∙ sym (append_assoc h.before (e ∷ []) more);
  accepted = goes h.before h.frames h.accepted;
  works = w;
}

-- a follower that has refused no edge was given those that it has accepted
given : (edges : List Edge) (frames : List Frame) (f : TraceFollower) → f.refused ≡ None → HasAccepted edges frames f → HasFollowed edges frames f
given edges frames f w h = h ∙ ap (λ r. outcome (refused_at r f.taken) (where_led f frames)) (sym w)

-- all edges were accepted
pub follows_all : (edges rest : List Edge) (f : TraceFollower) → rest ≡ [] → HasFront edges rest f → f.taken + length rest ≡ length edges → Follows edges (record { follower = f; refused = None })
follows_all edges rest f none h count = record {
  before = h.before;
  frames = h.frames;
  rest = rest;
  cut = h.cut;
  accepted = h.accepted;
  count = omega (arith, count, ap length h.cut, length-append h.before rest);
  ends = (none, h.works);
}

-- the first of some edges, and the others
pub split_front : (rest : List Edge) (d : Edge) → 1 ≤ length rest → rest ≡ slice_index_or rest 0 d ∷ take (length rest - 1) (drop 1 rest)
split_front [] d h = absurd (omega arith)
split_front (x ∷ xs) d h = rw take_rest refl

-- one was refused
pub follows_to : (edges rest more : List Edge) (e : Edge) (f g : TraceFollower) (w : WaveFault) → AllowedIsReached → rest ≡ e ∷ more → HasFront edges rest f → f.taken + length rest ≡ length edges
    → ((es ms : List Edge) (fs : List Frame) → HasFollowed es fs f → fault_of (es ++ e ∷ ms) ≡ Some w) → ((es : List Edge) (fs : List Frame) → HasFollowed es fs f → (gs : List Frame) × HasFollowed (es ++ e ∷ []) gs g)
    → Refuses f w g → Follows edges (record { follower = g; refused = Some (record { edge = e; fault = w }) })
follows_to edges rest more e f g w allowed is h count first followed refuses =
    let of_f = given h.before h.frames f h.works h.accepted in
    let led_to = followed h.before h.frames of_f in
    let not_ok : reached begin (h.before ++ e ∷ []) ≡ Err w = led_to.1 ∙ ap (λ k. outcome k (where_led g led_to.0)) refuses.keeps in
    record {
      before = h.before;
      frames = h.frames;
      rest = rest;
      cut = h.cut;
      accepted = h.accepted ∙ ap (λ r. Ok (where_led r h.frames)) (sym refuses.stays);
      count = ap (λ r. r.taken) refuses.stays ∙ omega (arith, count, ap length h.cut, length-append h.before rest);
      ends = (
        more,
        is,
        record {
          first = ap fault_of (h.cut ∙ ap (λ l. h.before ++ l) is) ∙ first h.before more h.frames of_f;
          refused = λ a. let x = (allowed (h.before ++ e ∷ [])).0 a in absurd (let n : Err w ≡ Ok x.0 = sym not_ok ∙ x.1 in cc);
        },
      );
    }

-- where edges stop of which one is not allowed
pub stops_at_edge : (whole : Bool) (edges : List Edge) (r : Followed) (e : Refused) (rows : List (Option Row)) (p : EdgePlace) → AllowedIsReached → r.refused ≡ Some e → Follows edges r
    → ((es : List Edge) (fs : List Frame) → HasAccepted es fs r.follower → AreRowsAfter rows es) → list_all has_moment rows ≡ true → all_lead_apart rows ≡ true
    → p.index ≡ r.follower.taken → p.fault ≡ e.fault → p.expected ≡ rows → p.missed ≡ missed_by (row_to e.edge.levels rows) e.edge.time → AreStopped whole edges p
stops_at_edge whole edges r e rows p allowed is h are moments apart index fault expected missed =
    let ends : EndsAt edges h.before r.follower (Some e) h.rest = subst (λ o. EndsAt edges h.before r.follower o h.rest) is h.ends in
    record {
      before = h.before;
      after = h.rest;
      cut = h.cut;
      allowed = (allowed h.before).1 (where_led r.follower h.frames, h.accepted);
      index = index ∙ h.count;
      stop = subst (λ l. StopAfter whole h.before l) (sym ends.1) ends.2.refused;
      fault = ends.2.first ∙ ap Some (sym fault);
      expected = subst (λ l. AreRowsAfter l h.before) (sym expected) (are h.before h.frames h.accepted);
      moments = ap (list_all has_moment) expected ∙ moments;
      levels = ap all_lead_apart expected ∙ apart;
      missed = missed ∙ (ap (λ l. missed_by (row_to e.edge.levels l) e.edge.time) (sym expected) ∙ ap (λ l. missed_first p.expected l) (sym ends.1));
    }

-- all edges were given
whole_cut : (edges before rest : List Edge) → edges ≡ before ++ rest → rest ≡ [] → before ≡ edges
whole_cut edges before rest cut none = sym (cut ∙ (ap (λ l. before ++ l) none ∙ append-nil before))

all_given : (edges : List Edge) (r : Followed) (none : r.refused ≡ None) (h : Follows edges r) → HasFollowed edges h.frames r.follower
all_given edges r none h =
    let ends : EndsAt edges h.before r.follower None h.rest = subst (λ o. EndsAt edges h.before r.follower o h.rest) none h.ends in
    subst (λ l. HasFollowed l h.frames r.follower) (whole_cut edges h.before h.rest h.cut ends.0) (given h.before h.frames r.follower ends.1 h.accepted)

-- edges that may go on do not stop at their end
pub goes_on : (whole : Bool) (edges : List Edge) (r : Followed) → AllowedIsReached → whole ≡ false → r.refused ≡ None → Follows edges r → StopsAt whole edges None
goes_on whole edges r allowed cut none h =
    let ends : EndsAt edges h.before r.follower None h.rest = subst (λ o. EndsAt edges h.before r.follower o h.rest) none h.ends in
    let all : IsAllowed edges = subst IsAllowed (whole_cut edges h.before h.rest h.cut ends.0) ((allowed h.before).1 (where_led r.follower h.frames, h.accepted)) in
    subst (λ w. StopsAt w edges None) (sym cut) all

-- all edges have the fault that their follower ends with, or none
fault_at_end : {A : Type 0} (edges : List Edge) (r : Followed) (v : Result A WaveFault) → r.refused ≡ None → Follows edges r
    → ((es : List Edge) (fs : List Frame) → HasFollowed es fs r.follower → result_err v ≡ fault_of es) → result_err v ≡ fault_of edges
fault_at_end edges r v none h gives = gives edges h.frames (all_given edges r none h)

pub none_at_end : {A : Type 0} (whole : Bool) (edges : List Edge) (r : Followed) (v : Result A WaveFault) (x : A) → whole ≡ true → v ≡ Ok x → r.refused ≡ None → Follows edges r
    → ((es : List Edge) (fs : List Frame) → HasFollowed es fs r.follower → result_err v ≡ fault_of es) → StopsAt whole edges None
none_at_end whole edges r v x all is none h gives =
    let lawful : fault_of edges ≡ None = sym (fault_at_end edges r v none h gives) ∙ ap result_err is in
    subst (λ w. StopsAt w edges None) (sym all) lawful

pub stops_at_end : {A : Type 0} (whole : Bool) (edges : List Edge) (r : Followed) (v : Result A WaveFault) (w : WaveFault) (rows : List (Option Row)) (p : EdgePlace) → AllowedIsReached → whole ≡ true → v ≡ Err w
    → r.refused ≡ None → Follows edges r → ((es : List Edge) (fs : List Frame) → HasFollowed es fs r.follower → result_err v ≡ fault_of es)
    → ((es : List Edge) (fs : List Frame) → HasAccepted es fs r.follower → AreRowsAfter rows es) → list_all has_moment rows ≡ true → all_lead_apart rows ≡ true
    → p.index ≡ r.follower.taken → p.fault ≡ w → p.expected ≡ rows → p.missed ≡ None → AreStopped whole edges p
stops_at_end whole edges r v w rows p allowed all is none h gives are moments apart index fault expected missed =
    let ends : EndsAt edges h.before r.follower None h.rest = subst (λ o. EndsAt edges h.before r.follower o h.rest) none h.ends in
    record {
      before = h.before;
      after = [];
      cut = h.cut ∙ ap (λ l. h.before ++ l) ends.0;
      allowed = (allowed h.before).1 (where_led r.follower h.frames, h.accepted);
      index = index ∙ h.count;
      stop = all;
      fault = sym (fault_at_end edges r v none h gives) ∙ (ap result_err is ∙ ap Some (sym fault));
      expected = subst (λ l. AreRowsAfter l h.before) (sym expected) (are h.before h.frames h.accepted);
      moments = ap (list_all has_moment) expected ∙ moments;
      levels = ap all_lead_apart expected ∙ apart;
      missed = missed;
    }

-- the place of what an input says
pub trace_place : (input : TraceInput) (bytes : List ℕ) (edges all : List Edge) (own : Option CliFault) (p : TracePlace) (followed : Followed) → Says input bytes all own → edges ≡ edges_checked input.source all → Follows edges followed
    → ((es : List Edge) → Follows es followed → IsPlaceOf es own p) → IsTracePlace input bytes p
trace_place input bytes edges all own p followed says same follows gives =
    record { edges = all; own = own; says = says; is_place = subst (λ l. IsPlaceOf l own p) same (gives edges follows) }

pub reading_place : (input : TraceInput) (bytes : List ℕ) (edges all : List Edge) (own : Option CliFault) (v p : Option ReadingPlace) → Says input bytes all own → edges ≡ all → IsPlaceRead edges own v → v ≡ p
    → IsReadingPlace input bytes p
reading_place input bytes edges all own v p says same is found =
    record { edges = all; own = own; says = says; is_place = subst (λ o. IsPlaceRead all own o) found (subst (λ l. IsPlaceRead l own v) same is) }

-- the place of whole edges, and of those before a line that cannot be read
pub place_whole : (edges : List Edge) (own : Option CliFault) (edge : Option EdgePlace) → own ≡ None → StopsAt true edges edge → IsPlaceOf edges own (record { line = None; edge = edge })
place_whole edges own edge is stops =
    let p : TracePlace = record { line = None; edge = edge } in
    subst (λ o. IsPlaceOf edges o p) (sym is) (refl, stops)

pub place_cut : (edges : List Edge) (own : Option CliFault) (fault : CliFault) (n : ℕ) (edge : Option EdgePlace) → own ≡ Some fault → fault_line fault ≡ Some n → StopsAt false edges edge
    → IsPlaceOf edges own (record { line = Some n; edge = edge })
place_cut edges own fault n edge is line stops =
    let p : TracePlace = record { line = Some n; edge = edge } in
    subst (λ o. IsPlaceOf edges o p) (sym is) (n, refl, line, stops)
