-- Edges that are taken one after another.
use Rattle.std.proofs.Common.{◌≡◌, ℕ, ◌+◌, ◌<◌, ◌≤◌, Bool, true, false, List, [], ◌∷◌, ◌++◌, ◌||◌, length, take, drop, get_or, refl, ap, sym, subst, ◌∙◌, arith, append-nil, append_assoc, length-append, Option, Some, None}
use Rattle.std.proofs.Math.Seq.{take-add}
use Rattle.std.proofs.lemmas.List.{length-take-le, take_all, take-append-drop}
use Rattle.std.proofs.lemmas.List.Folds.{list_any-append}
use Rattle.std.specs.List.{list_any}
use Rattle.std.specs.Option.{option_to_list}
use Rattle.std.specs.Prelude.{is_some}
use Rattle.pr_wire.specs.declared.Edge.{Edge}
use Rattle.pr_decode.specs.declared.decoder.Decoder.{Decoder}
use Rattle.pr_decode.specs.declared.reading.Reading.{Reading}
use Rattle.pr_decode.specs.Readings.{readings_of}
use Rattle.pr_decode.specs.Taking.{AreInOrder, GivenAreSettled, HasReadings, IsBefore, StandsBefore, last_time, time_behind}
use Rattle.pr_report.specs.Oddities.{is_acknowledged, oddities_of}
use Rattle.pr_report.specs.Taking.{HasSeen}
use Rattle.pr_jobs.specs.declared.fault.CliFault.{CliFault}
use Rattle.pr_recording.specs.declared.tape.Head.{Head}
use Rattle.pr_recording.specs.declared.tape.Tape.{Tape}
use Rattle.pr_recording.specs.declared.tape.TapeEnd.{TapeEnd}
use Rattle.pr_recording.specs.Decoded.{back_in, in_front, readings_up_to, stop_at}
use Rattle.pr_recording.specs.Taped.{BeginsBack, CutsLast, EndsTape, HasPlayed, HasTaped, IsEnd, ReadsMore, TapesMore, time_of}
use Rattle.pr_recording.proofs.Backs.{back_stays, front_back, front_stays, goes_back, many_on, times_many}

-- Reading.

-- times in order after others
in_order : (last : Option ℕ) (es fs : List Edge) → AreInOrder last es → AreInOrder (time_behind last es) fs → AreInOrder last (es ++ fs)
in_order last [] fs h k = k
in_order last (e ∷ es) fs (l, h) k = (l, in_order (Some e.time) es fs h k)

behind_both : (last : Option ℕ) (es fs : List Edge) → time_behind last (es ++ fs) ≡ time_behind (time_behind last es) fs
behind_both last [] fs = refl
behind_both last (e ∷ es) fs = behind_both (Some e.time) es fs

pub or_false : (b : Bool) → b ≡ (b || false)
or_false true = refl
or_false false = refl

-- with no reading more
no_later : (edges : List Edge) (given : List Reading) (d : Decoder) → HasReadings edges given d → HasReadings edges (given ++ []) d
no_later edges given d h = let P : List Reading → Type 0 = λ l. HasReadings edges l d in subst P (sym (append-nil given)) h

-- edges that settle nothing were read
pub reads_quietly : {S : Type 0} (takes : List Reading → S → S → Type 0) (more : List Edge) (old new : Head) (s : S) → takes [] s s
    → new.has_byte ≡ old.has_byte
    → ((edges : List Edge) (given : List Reading) → HasReadings edges given old.decoder → HasReadings (edges ++ more) given new.decoder)
    → AreInOrder (last_time old.decoder) more → last_time new.decoder ≡ time_behind (last_time old.decoder) more
    → ReadsMore takes more old new s s
reads_quietly takes more old new s none byte reads order last = record {
  later = [];
  taken = none;
  reads = λ edges given h. no_later (edges ++ more) given new.decoder (reads edges given h);
  byte = byte ∙ or_false old.has_byte;
  order = order;
  last = last;
}

-- no edge was read
pub reads_none : {S : Type 0} (takes : List Reading → S → S → Type 0) (old new : Head) (s : S) → takes [] s s → new ≡ old → ReadsMore takes [] old new s s
reads_none takes old new s none same =
    rw same (reads_quietly takes [] old old s none refl (λ edges given h. let P : List Edge → Type 0 = λ l. HasReadings l given old.decoder in subst P (sym (append-nil edges)) h) tt refl)

-- edges were read after others
pub reads_both : {S : Type 0} (takes : List Reading → S → S → Type 0) → ((xs ys : List Reading) (a b c : S) → takes xs a b → takes ys b c → takes (xs ++ ys) a c)
    → (xs ys : List Edge) (d e f : Head) (a b c : S) → ReadsMore takes xs d e a b → ReadsMore takes ys e f b c → ReadsMore takes (xs ++ ys) d f a c
reads_both takes both xs ys d e f a b c h k =
    let O : Option ℕ → Type 0 = λ t. AreInOrder t ys in
    record {
      later = h.later ++ k.later;
      taken = both h.later k.later a b c h.taken k.taken;
      reads = λ edges given r.
          let two = k.reads (edges ++ xs) (given ++ h.later) (h.reads edges given r) in
          let P : List Edge → Type 0 = λ l. HasReadings l (given ++ (h.later ++ k.later)) f.decoder in
          let Q : List Reading → Type 0 = λ g. HasReadings ((edges ++ xs) ++ ys) g f.decoder in
          subst P (append_assoc edges xs ys) (subst Q (append_assoc given h.later k.later) two);
      byte = byte_both d.has_byte e.has_byte f.has_byte h.later k.later h.byte k.byte;
      order = in_order (last_time d.decoder) xs ys h.order (subst O h.last k.order);
      last = k.last ∙ (ap (λ t. time_behind t ys) h.last ∙ sym (behind_both (last_time d.decoder) xs ys));
    }
  where
    or_assoc : (x y z : Bool) → ((x || y) || z) ≡ (x || (y || z))
    or_assoc true y z = refl
    or_assoc false y z = refl

    byte_both : (x y z : Bool) (rs ss : List Reading) → y ≡ (x || list_any is_acknowledged rs) → z ≡ (y || list_any is_acknowledged ss) → z ≡ (x || list_any is_acknowledged (rs ++ ss))
    byte_both x y z rs ss first second =
        second
        ∙ (ap (λ v. v || list_any is_acknowledged ss) first
        ∙ (or_assoc x (list_any is_acknowledged rs) (list_any is_acknowledged ss) ∙ ap (λ v. x || v) (sym (list_any-append is_acknowledged rs ss))))

pub reads_front : {S : Type 0} (takes : List Reading → S → S → Type 0) → ((xs ys : List Reading) (a b c : S) → takes xs a b → takes ys b c → takes (xs ++ ys) a c)
    → (n m : ℕ) (edges : List Edge) (d e f : Head) (a b c : S) → ReadsMore takes (take n edges) d e a b
    → ReadsMore takes (take m (drop n edges)) e f b c → ReadsMore takes (take (n + m) edges) d f a c
reads_front takes both n m edges d e f a b c h k =
    let P : List Edge → Type 0 = λ l. ReadsMore takes l d f a c in
    subst P (sym (take-add n m edges)) (reads_both takes both (take n edges) (take m (drop n edges)) d e f a b c h k)

pub reads_no_more : {S : Type 0} (takes : List Reading → S → S → Type 0) → ((xs ys : List Reading) (a b c : S) → takes xs a b → takes ys b c → takes (xs ++ ys) a c)
    → (n m : ℕ) (edges : List Edge) (d e f : Head) (a b c : S) → m ≡ 0 → ReadsMore takes (take n edges) d e a b
    → ReadsMore takes (take m (drop n edges)) e f b c → ReadsMore takes (take n edges) d f a c
reads_no_more takes both n m edges d e f a b c none h k =
    let P : ℕ → Type 0 = λ i. ReadsMore takes (take i edges) d f a c in
    let same : n + m ≡ n = omega (arith, none) in
    subst P same (reads_front takes both n m edges d e f a b c h k)

-- the first of edges
pub first_read : {S : Type 0} (takes : List Reading → S → S → Type 0) (edges : List Edge) (x : Edge) (r : Option Reading) (old mid new : Head) (a b : S) → mid ≡ old → 0 < length edges
    → (IsBefore (get_or edges 0 x) mid.decoder → ⊥)
    → ((before : List Edge) (given : List Reading) → HasReadings before given mid.decoder → HasReadings (before ++ get_or edges 0 x ∷ []) (given ++ option_to_list r) new.decoder)
    → last_time new.decoder ≡ Some (get_or edges 0 x).time → new.has_byte ≡ (mid.has_byte || list_any is_acknowledged (option_to_list r)) → takes (option_to_list r) a b
    → ReadsMore takes (take 1 edges) old new a b
first_read takes [] x r old mid new a b same some later reads last byte taken = absurd (omega (arith, some))
first_read takes (y ∷ edges) x r old mid new a b same some later reads last byte taken =
    let P : Head → Type 0 = λ z. ReadsMore takes (y ∷ []) z new a b in
    subst P same (record { later = option_to_list r; taken = taken; reads = reads; byte = byte; order = (later, tt); last = last })

-- Tapes.

-- nothing is there
pub not_some : {X : Type 0} (v : Option X) → is_some v ≡ false → v ≡ None
not_some None h = refl
not_some (Some x) h = absurd (cc)

-- all edges are in front, where none goes back
all_front : (edges : List Edge) → back_in edges ≡ None → in_front (back_in edges) edges ≡ edges
all_front edges h = ap (λ v. in_front v edges) h

of_front : (edges : List Edge) (given : List Reading) (t : Tape) → back_in edges ≡ None → HasPlayed (in_front (back_in edges) edges) given t → HasPlayed edges given t
of_front edges given t none h = let P : List Edge → Type 0 = λ l. HasPlayed l given t in subst P (all_front edges none) h

-- where time has gone back, edges change nothing
stays : (old new : Tape) (m : ℕ) (more : List Edge) → old.back ≡ Some m → new ≡ old → (edges : List Edge) (given : List Reading) → HasTaped edges given old → HasTaped (edges ++ more) given new
stays old new m more is same edges given h =
    let back : back_in edges ≡ Some m = sym h.back ∙ is in
    let P : List Edge → Type 0 = λ l. HasPlayed l given old in
    rw same (record {
      back = is ∙ sym (back_stays edges more m back);
      played = subst P (sym (front_stays edges more m back)) h.played;
    })

none_later : (edges : List Edge) (given : List Reading) (t : Tape) → HasTaped edges given t → HasTaped edges (given ++ []) t
none_later edges given t h = let P : List Reading → Type 0 = λ l. HasTaped edges l t in subst P (sym (append-nil given)) h

pub tapes_stopped : {S : Type 0} (takes : List Reading → S → S → Type 0) (t : Tape) (s : S) (more : List Edge) → takes [] s s → is_some t.back ≡ true → TapesMore takes more t t s s
tapes_stopped takes t s more none is = record { later = []; taken = none; tapes = λ edges given h. none_later (edges ++ more) given t (by t.back refl is edges given h) }
  where
    by : (v : Option ℕ) → t.back ≡ v → is_some v ≡ true → (edges : List Edge) (given : List Reading) → HasTaped edges given t → HasTaped (edges ++ more) given t
    by None e k = absurd (cc)
    by (Some m) e k = stays t t m more e refl

-- edges before one at which time goes back were taken
plays_many : {S : Type 0} (takes : List Reading → S → S → Type 0) (old new : Tape) (a b : S) (more : List Edge) → old.back ≡ None → new.back ≡ None → (reads : ReadsMore takes more old.head new.head a b)
    → ((edges : List Edge) → HasSeen edges old.lines → HasSeen (edges ++ more) new.lines) → new.taken ≡ old.taken + length more
    → (edges : List Edge) (given : List Reading) → HasTaped edges given old → HasTaped (edges ++ more) (given ++ reads.later) new
plays_many takes old new a b more was still reads sees taken edges given h =
    let none : back_in edges ≡ None = sym h.back ∙ was in
    let k = of_front edges given old none h.played in
    let Q : Option ℕ → Type 0 = λ t. AreInOrder t more in
    let on : back_in (edges ++ more) ≡ None = many_on edges more none (subst Q k.last reads.order) in
    let P : List Edge → Type 0 = λ l. HasPlayed l (given ++ reads.later) new in
    let plays : HasPlayed (edges ++ more) (given ++ reads.later) new = record {
      read = reads.reads edges given k.read;
      last = reads.last ∙ (ap (λ t. time_behind t more) k.last ∙ sym (times_many edges more));
      byte = reads.byte ∙ (ap (λ (x : Bool). x || list_any is_acknowledged reads.later) k.byte ∙ sym (list_any-append is_acknowledged given reads.later));
      seen = sees edges k.seen;
      taken = taken ∙ (ap (λ i. i + length more) k.taken ∙ sym (length-append edges more));
    } in
    record { back = still ∙ sym on; played = subst P (sym (all_front (edges ++ more) on)) plays }

-- all edges were taken
pub tapes_all : {S : Type 0} (takes : List Reading → S → S → Type 0) (old new : Tape) (a b : S) (n : ℕ) (more : List Edge) → n ≡ length more → old.back ≡ None → new.back ≡ None
    → ReadsMore takes (take n more) old.head new.head a b → ((edges : List Edge) → HasSeen edges old.lines → HasSeen (edges ++ take n more) new.lines) → new.taken ≡ old.taken + n → TapesMore takes more old new a b
tapes_all takes old new a b n more is was still reads sees taken =
    let all : take n more ≡ more = take_all n more (omega (arith, is)) in
    let count : new.taken ≡ old.taken + length (take n more) = taken ∙ ap (λ i. old.taken + i) (is ∙ sym (ap length all)) in
    record {
      later = reads.later;
      taken = reads.taken;
      tapes = λ edges given h.
          let P : List Edge → Type 0 = λ l. HasTaped (edges ++ l) (given ++ reads.later) new in
          subst P all (plays_many takes old new a b (take n more) was still reads sees count edges given h);
    }

-- time goes back at the first of edges
goes_no_further : (old new : Tape) (rest : List Edge) → old.back ≡ None → BeginsBack rest old.head → new ≡ record old { back = Some old.taken }
    → (edges : List Edge) (given : List Reading) → HasTaped edges given old → HasTaped (edges ++ rest) given new
goes_no_further old new [] was before is edges given h = absurd before
goes_no_further old new (e ∷ es) was before is edges given h =
    let none : back_in edges ≡ None = sym h.back ∙ was in
    let k = of_front edges given old none h.played in
    let stands : StandsBefore e.time (time_of edges) = rw (← k.last) before in
    let P : List Edge → Type 0 = λ l. HasPlayed l given old in
    let played : HasPlayed (in_front (back_in (edges ++ e ∷ [])) (edges ++ e ∷ [])) given old = subst P (sym (front_back edges e none stands)) h.played in
    let one : HasTaped (edges ++ e ∷ []) given (record old { back = Some old.taken }) = record {
      back = ap (λ (i : ℕ). Some i) k.taken ∙ sym (goes_back edges e none stands);
      played = record { read = played.read; last = played.last; byte = played.byte; seen = played.seen; taken = played.taken };
    } in
    let Q : List Edge → Type 0 = λ l. HasTaped l given new in
    rw (append_assoc edges (e ∷ []) es) at (stays (record old { back = Some old.taken }) new old.taken es refl is (edges ++ e ∷ []) given one)

-- the edges before one at which time goes back were taken, and no others
pub tapes_back : {S : Type 0} (takes : List Reading → S → S → Type 0) (old mid new : Tape) (a b : S) (n : ℕ) (more : List Edge) → n ≤ length more → old.back ≡ None → mid.back ≡ None
    → ReadsMore takes (take n more) old.head mid.head a b → ((edges : List Edge) → HasSeen edges old.lines → HasSeen (edges ++ take n more) mid.lines) → mid.taken ≡ old.taken + n
    → BeginsBack (drop n more) mid.head → new ≡ record mid { back = Some mid.taken } → TapesMore takes more old new a b
tapes_back takes old mid new a b n more within was still reads sees taken before is =
    let count : mid.taken ≡ old.taken + length (take n more) = taken ∙ ap (λ i. old.taken + i) (sym (length-take-le n more within)) in
    record {
      later = reads.later;
      taken = reads.taken;
      tapes = λ edges given h.
          let first = plays_many takes old mid a b (take n more) was still reads sees count edges given h in
          let both = goes_no_further mid new (drop n more) still before is (edges ++ take n more) (given ++ reads.later) first in
          let P : List Edge → Type 0 = λ l. HasTaped l (given ++ reads.later) new in
          subst P (append_assoc edges (take n more) (drop n more) ∙ ap (λ l. edges ++ l) (take-append-drop n more)) both;
    }

-- The end.

-- nothing stops edges of which none goes back
no_back : (v : Option ℕ) (own : Option CliFault) → stop_at v own ≡ None → v ≡ None
no_back None own h = refl
no_back (Some n) own h = absurd (cc)

-- edges that stop
ends_stopped : GivenAreSettled → (t : Tape) (own : Option CliFault) (f : CliFault) (e : TapeEnd) → stop_at t.back own ≡ Some f → e.stop ≡ Some f
    → (edges : List Edge) (given : List Reading) → HasTaped edges given t → IsEnd edges own (given ++ []) e
ends_stopped settled t own f e is stop edges given h = record {
  stop = stop ∙ (sym is ∙ ap (λ v. stop_at v own) h.back);
  readings = append-nil given ∙ (sym (settled (in_front (back_in edges) edges) given t.head.decoder h.played.read) ∙ sym (ap (λ s. readings_up_to s edges) stop));
  odd = λ none. absurd (let q : Some f ≡ None = sym stop ∙ none in cc);
}

pub ends_at_stop : {S : Type 0} (takes : List Reading → S → S → Type 0) → GivenAreSettled → (t : Tape) (own v : Option CliFault) (s : S) (e : TapeEnd) → takes [] s s → v ≡ stop_at t.back own → is_some v ≡ true → e.stop ≡ v
    → EndsTape takes own t s s e
ends_at_stop takes settled t own None s e none is some stop = absurd (cc)
ends_at_stop takes settled t own (Some f) s e none is some stop = record { later = []; taken = none; ends = ends_stopped settled t own f e (sym is) stop }

-- edges that nothing stops
pub ends_whole : {S : Type 0} (takes : List Reading → S → S → Type 0) (t : Tape) (own : Option CliFault) (byte : Bool) (a b : S) (e : TapeEnd) → stop_at t.back own ≡ None → e.stop ≡ None
    → CutsLast takes t.head a b byte
    → ((edges : List Edge) (readings : List Reading) → HasSeen edges t.lines → byte ≡ list_any is_acknowledged readings → e.odd ≡ oddities_of edges readings)
    → EndsTape takes own t a b e
ends_whole takes t own byte a b e is stop cuts odds = record {
  later = option_to_list cuts.cut;
  taken = cuts.taken;
  ends = λ edges given h.
      let in_order : back_in edges ≡ None = sym h.back ∙ no_back t.back own is in
      let k = of_front edges given t in_order h.played in
      let last = option_to_list cuts.cut in
      let all : readings_of edges ≡ given ++ last = cuts.reads edges given k.read in
      let said : byte ≡ list_any is_acknowledged (given ++ last) =
      cuts.byte ∙ (ap (λ (x : Bool). x || list_any is_acknowledged last) k.byte ∙ sym (list_any-append is_acknowledged given last)) in
      record {
        stop = stop ∙ (sym is ∙ ap (λ v. stop_at v own) h.back);
        readings = sym all ∙ sym (ap (λ s. readings_up_to s edges) stop);
        odd = λ _. odds edges (readings_of edges) k.seen (said ∙ ap (λ rs. list_any is_acknowledged rs) (sym all));
      };
}
