-- What a device hears of the edges of a run.
use Rattle.std.proofs.Common.{◌≡◌, ℕ, ◌+◌, ◌<◌, Bool, true, false, ◌&&◌, List, [], ◌∷◌, ◌++◌, length, length-drop, take, drop, refl, ap, sym, subst, ◌∙◌, arith, append-nil, append_assoc, Option, Some, None, Result, Ok, Err}
use Rattle.std.specs.Prelude.{nat_lt, if◌then◌else◌}
use Rattle.std.specs.Option.{option_to_list}
use Rattle.std.proofs.lemmas.Grind.{common_steps}
use Rattle.std.proofs.lemmas.List.{take-append-drop}
use Rattle.pr_serial.specs.Items.{items_of}
use Rattle.pr_wire.specs.declared.Edge.{Edge}
use Rattle.pr_wire.specs.declared.Frame.{Frame}
use Rattle.pr_wire.specs.declared.bus_state.BusState.{BusState}
use Rattle.pr_wire.specs.declared.bus_state.BusState.TheVariants.{Idle}
use Rattle.pr_wire.specs.declared.bus_state.EdgeError.{EdgeError}
use Rattle.pr_wire.specs.declared.bus_state.EdgeError.TheVariants.{Order}
use Rattle.pr_wire.specs.declared.bus_state.Step.{Step}
use Rattle.pr_wire.specs.Laws.{LawfulIsFaultless}
use Rattle.pr_wire.specs.Pieces.{IsLawful, Spells}
use Rattle.pr_wire.specs.Table.{by_row, differ, fault_from, fault_of, fault_or, is_start}
use Rattle.pr_receiver.specs.Heard.{heard_of}
use Rattle.pr_decode.specs.declared.reading.Reading.{Reading}
use Rattle.pr_decode.specs.Readings.{readings_of}
use Rattle.pr_decode.specs.Taking.{HasReadings, StandsBefore, time_behind}
use Rattle.pr_basic.specs.declared.statement.Statement.{Statement}
use Rattle.pr_system.specs.Laws.{StepsAddToTheTrace}
use Rattle.pr_system.specs.RunningState.{RunningState, stepped_by, trace_before, trace_so_far}
use Rattle.pr_recording.specs.declared.byte_log.HeardBytes.{HeardBytes}
use Rattle.pr_recording.specs.declared.run_log.RunLog.{RunLog}
use Rattle.pr_recording.specs.Decoded.{back_behind, back_in}
use Rattle.pr_recording.specs.Laws.{TracesAreHeardAsSpelled}
use Rattle.pr_recording.specs.Logged.{AreHeard, HasHeard, HearsMore}
use Rattle.pr_recording.specs.Taped.{BeginsBack, ReadsMore, time_of}
use Rattle.pr_recording.specs.PrintedPages.{heard_in}
use Rattle.pr_recording.specs.RunLogged.{FollowsMore, FollowsRun, HasFollowed}
use Rattle.pr_recording.proofs.Backs.{back_stays, goes_back, times_many}

-- the times of a lawful trace do not go back
later_in_time : (i n : ℕ) (last : Edge) (es : List Edge) (p : BusState) → fault_from n last p es ≡ None → back_behind i last.time es ≡ None
later_in_time i n last [] p h = refl
later_in_time i n last (e ∷ es) p h = by (later_in_time (i + 1) (n + 1) e es) (nat_lt last.time e.time) (differ last.levels e.levels) refl (by_row p e) h
  where
    by : ((q : BusState) → fault_from (n + 1) e q es ≡ None → back_behind (i + 1) e.time es ≡ None) → (a b : Bool) → nat_lt last.time e.time ≡ a → (row : Result Step EdgeError)
        → fault_or (if (a && b) then row else Err Order) n (λ s. fault_from (n + 1) e s.place es) ≡ None → (if nat_lt e.time last.time then Some i else back_behind (i + 1) e.time es) ≡ None
    by rest false b k row h = absurd (cc)
    by rest true false k row h = absurd (cc)
    by rest true true k (Err f) h = absurd (cc)
    by rest true true k (Ok s) h =
        let not : nat_lt e.time last.time ≡ false = grind (arith, common_steps, k) in
        ap (λ b. if b then Some i else back_behind (i + 1) e.time es) not ∙ rest s.place h

in_time : (edges : List Edge) → fault_of edges ≡ None → back_in edges ≡ None
in_time [] h = refl
in_time (e ∷ es) h = by (is_start e) h
  where
    by : (b : Bool) → (if b then fault_from 1 e (Idle 0) es else fault_of []) ≡ None → back_behind 1 e.time es ≡ None
    by true h = later_in_time 1 1 e es (Idle 0) h
    by false h = absurd (cc)

pub spelled_in_time : LawfulIsFaultless → (edges : List Edge) (frames : List Frame) → Spells edges frames → back_in edges ≡ None
spelled_in_time law edges frames h =
    let lawful : IsLawful edges = (h.0, h.1) in
    in_time edges ((law edges).0 lawful)

-- if no time goes back in edges, none does in those in front
front_in_time : (edges more : List Edge) → back_in (edges ++ more) ≡ None → back_in edges ≡ None
front_in_time edges more h = by (back_in edges) refl
  where
    by : (v : Option ℕ) → back_in edges ≡ v → back_in edges ≡ None
    by None k = k
    by (Some n) k = absurd (let j : back_in (edges ++ more) ≡ Some n = back_stays edges more n k in cc)

-- the edges that were read
follows_front : (old new : RunLog) (more : List Edge) → ReadsMore HearsMore more old.head new.head old.log new.log → (device : ℕ) (edges : List Edge) → HasFollowed device edges old → HasFollowed device (edges ++ more) new
follows_front old new more reads device edges h = record {
  given = h.given ++ reads.later;
  read = reads.reads edges h.given h.read;
  last = reads.last ∙ (ap (λ t. time_behind t more) h.last ∙ sym (times_many edges more));
  heard = reads.taken device h.given h.heard;
}

-- are all edges
pub follows_all : (old new : RunLog) (n : ℕ) (more : List Edge) → ReadsMore HearsMore (take n more) old.head new.head old.log new.log → (n < length more → BeginsBack (drop n more) new.head) → FollowsMore more old new
follows_all old new n more reads back = λ device edges none h. by device edges none (drop n more) refl (follows_front old new (take n more) reads device edges h)
  where
    by : (device : ℕ) (edges : List Edge) → back_in (edges ++ more) ≡ None → (rest : List Edge) → drop n more ≡ rest → HasFollowed device (edges ++ take n more) new → HasFollowed device (edges ++ more) new
    by device edges none [] e k =
        let P : List Edge → Type 0 = λ l. HasFollowed device l new in
        let whole : take n more ≡ more = sym (append-nil (take n more)) ∙ (ap (λ l. take n more ++ l) (sym e) ∙ take-append-drop n more) in
        subst P (ap (λ l. edges ++ l) whole) k
    by device edges none (x ∷ xs) e k =
        let front = edges ++ take n more in
        let less : n < length more = omega (arith, length-drop n more, ap length e) in
        let P : List Edge → Type 0 = λ l. BeginsBack l new.head in
        let before : BeginsBack (x ∷ xs) new.head = subst P e (back less) in
        let stands : StandsBefore x.time (time_of front) = rw (← k.last) before in
        let seam : (front ++ x ∷ []) ++ xs ≡ edges ++ more =
        append_assoc front (x ∷ []) xs ∙ (append_assoc edges (take n more) (x ∷ xs) ∙ ap (λ l. edges ++ l) (ap (λ l. take n more ++ l) (sym e) ∙ take-append-drop n more)) in
        let goes : back_in (front ++ x ∷ []) ≡ None = front_in_time (front ++ x ∷ []) xs (ap back_in seam ∙ none) in
        let turns : back_in (front ++ x ∷ []) ≡ Some (length front) = goes_back front x (front_in_time front (x ∷ []) goes) stands in
        absurd (cc)

-- the end of the edges
pub ends_run : (old : RunLog) (cut : Option Reading) (heard : HeardBytes)
    → ((edges : List Edge) (given : List Reading) → HasReadings edges given old.head.decoder → readings_of edges ≡ given ++ option_to_list cut)
    → ((device : ℕ) (given : List Reading) → HasHeard device given old.log → AreHeard (heard_in device (given ++ option_to_list cut)) heard)
    → (device : ℕ) (edges : List Edge) → HasFollowed device edges old → AreHeard (heard_in device (readings_of edges)) heard
ends_run old cut heard reads are = λ device edges h.
    let P : List Reading → Type 0 = λ l. AreHeard (heard_in device l) heard in
    subst P (sym (reads edges h.given h.read)) (are device h.given h.heard)

-- the edges of a step are taken
pub follows_step : LawfulIsFaultless → StepsAddToTheTrace → (run new : RunningState) (statement : Statement) (edges : List Edge) (frames : List Frame) (old log : RunLog) → run.items ≡ items_of run.elements
    → new ≡ stepped_by run statement → trace_before new ++ edges ≡ trace_so_far new → Spells (trace_so_far new) frames → FollowsMore edges old log → FollowsRun run (stepped_by run statement) old log
follows_step lawful adds run new statement edges frames old log sent is told spells follows = λ device h.
    let seam : trace_so_far run ++ edges ≡ trace_so_far new = ap (λ l. l ++ edges) (sym (ap trace_before is ∙ adds run statement sent)) ∙ told in
    let goes : back_in (trace_so_far run ++ edges) ≡ None = ap back_in seam ∙ spelled_in_time lawful (trace_so_far new) frames spells in
    let P : List Edge → Type 0 = λ l. HasFollowed device l log in
    subst P (seam ∙ ap trace_so_far is) (follows device (trace_so_far run) goes h)

-- the first edges are taken
pub follows_first : LawfulIsFaultless → (device : ℕ) (run : RunningState) (edges : List Edge) (frames : List Frame) (old log : RunLog) → trace_before run ≡ [] → trace_before run ++ edges ≡ trace_so_far run
    → Spells (trace_so_far run) frames → HasFollowed device [] old → FollowsMore edges old log → HasFollowed device (trace_so_far run) log
follows_first lawful device run edges frames old log none told spells h follows =
    let seam : edges ≡ trace_so_far run = sym (ap (λ l. l ++ edges) none) ∙ told in
    let goes : back_in edges ≡ None = ap back_in seam ∙ spelled_in_time lawful (trace_so_far run) frames spells in
    let P : List Edge → Type 0 = λ l. HasFollowed device l log in
    subst P seam (follows device [] goes h)

-- of a trace a device hears what it hears of the frames that the trace spells
pub heard_as_spelled : TracesAreHeardAsSpelled → (device : ℕ) (edges : List Edge) (frames : List Frame) (heard : HeardBytes) → Spells edges frames → AreHeard (heard_in device (readings_of edges)) heard
    → AreHeard (heard_of device frames) heard
heard_as_spelled law device edges frames heard spells h = rw (← law device edges frames spells) h
