-- What is odd about edges that are in order.
use Rattle.std.proofs.Common.{◌≡◌, ℕ, Bool, ◌||◌, List, [], ◌∷◌, ◌++◌, take, refl, ap, sym, subst, ◌∙◌, append_assoc, append-nil, arith, Option, Some, None}
use Rattle.std.specs.Prelude.{zero, suc}
use Rattle.std.specs.List.{list_any}
use Rattle.std.specs.Option.{option_to_list}
use Rattle.std.proofs.lemmas.List.Folds.{list_any-append}
use Rattle.pr_wire.specs.declared.Edge.{Edge}
use Rattle.pr_decode.specs.Readings.{readings_of}
use Rattle.pr_decode.specs.Taking.{HasReadings, StandsBefore}
use Rattle.pr_decode.specs.declared.reading.Reading.{Reading}
use Rattle.pr_report.specs.Oddities.{is_acknowledged, oddities_of, oddities_text}
use Rattle.pr_report.specs.Taking.{HasSeen}
use Rattle.pr_report.specs.declared.oddities.Oddities.{Oddities}
use Rattle.pr_capture.specs.declared.format.TraceInput.{TraceInput}
use Rattle.pr_jobs.specs.Report.{Says}
use Rattle.pr_jobs.specs.declared.fault.CliFault.{CliFault}
use Rattle.pr_explain.specs.OddLines.{AreInOrderAfter, AreOddLines, AreRemarks, HasLooked, first_moment}
use Rattle.pr_explain.specs.TracePlaces.{AreInOrder, AreInOrderBehind, IsPlaceRead}
use Rattle.pr_explain.specs.declared.oddities.Looked.{Looked}
use Rattle.pr_explain.specs.declared.oddities.Remarks.{Remarks}
use Rattle.pr_explain.specs.declared.traces.ReadingPlace.{ReadingPlace}
use Rattle.pr_explain.specs.declared.traces.ReadingPlace.TheVariants as read

-- an edge in order is not before the last one
pub not_before : (last : Option ℕ) (e : Edge) (more : List Edge) → AreInOrderAfter last (e ∷ more) → StandsBefore e.time last → ⊥
not_before None e more h b = b
not_before (Some t) e more h b = absurd (omega (arith, h.0, b))

-- edges after the next one
pub order_on : (last : Option ℕ) (e : Edge) (more : List Edge) → AreInOrderAfter last (e ∷ more) → AreInOrderBehind e.time more
order_on None e more h = h
order_on (Some t) e more h = h.1

-- an acknowledged byte, with more readings
pub byte_more : (b c : Bool) (given more : List Reading) → b ≡ list_any is_acknowledged given → c ≡ (b || list_any is_acknowledged more) → c ≡ list_any is_acknowledged (given ++ more)
byte_more b c given more h k = k ∙ (ap (λ x. x || list_any is_acknowledged more) h ∙ sym (list_any-append is_acknowledged given more))

-- the front of edges in order is in order
front_behind : (t n : ℕ) (es : List Edge) → AreInOrderBehind t es → AreInOrderBehind t (take n es)
front_behind t zero es h = tt
front_behind t (suc n) [] h = tt
front_behind t (suc n) (e ∷ es) h = (h.0, front_behind e.time n es h.1)

front_in_order : (n : ℕ) (es : List Edge) → AreInOrder es → AreInOrder (take n es)
front_in_order zero es h = tt
front_in_order (suc n) [] h = tt
front_in_order (suc n) (e ∷ es) h = front_behind e.time n es h

-- a recording with a place cannot be read to its end
pub not_read : (edges : List Edge) (own : Option CliFault) (p : ReadingPlace) → IsPlaceRead edges own (Some p) → IsPlaceRead edges own None → ⊥
not_read edges own (read.Edge i) h k = h.1 (front_in_order _ edges k.0)
not_read edges own (read.Line n) h k = absurd (let e : Some h.1 ≡ None = sym h.2 ∙ k.1 in cc)

-- the edges before the rest were looked at
pub record LookedTo (edges rest : List Edge) (l : Looked) : Type 0 where
  pub before : List Edge
  pub cut : edges ≡ before ++ rest
  pub looked : HasLooked before l

pub looked_more : (edges more : List Edge) (e : Edge) (old new : Looked) → LookedTo edges (e ∷ more) old → ((es : List Edge) → HasLooked es old → HasLooked (es ++ e ∷ []) new)
    → LookedTo edges more new
looked_more edges more e old new h on = record {
  before = h.before ++ e ∷ [];
  cut = h.cut ∙ sym (append_assoc h.before (e ∷ []) more);
  looked = on h.before h.looked;
}

pub looked_all : (edges rest : List Edge) (l : Looked) → rest ≡ [] → LookedTo edges rest l → HasLooked edges l
looked_all edges rest l e h =
    let P : List Edge → Type 0 = λ es. HasLooked es l in
    subst P (sym (h.cut ∙ (ap (λ r. h.before ++ r) e ∙ append-nil h.before))) h.looked

pub looked_none : (edges : List Edge) (l : Looked) → HasLooked [] l → LookedTo edges edges l
looked_none edges l h = record { before = []; cut = refl; looked = h }

-- one edge more was looked at
pub looked_on : (old new : Looked) (e : Edge) (reading : Option Reading) → ((es : List Edge) (given : List Reading) → HasReadings es given old.decoder → HasReadings (es ++ e ∷ []) (given ++ option_to_list reading) new.decoder)
    → ((es : List Edge) → HasSeen es old.lines → HasSeen (es ++ e ∷ []) new.lines) → new.has_byte ≡ (old.has_byte || list_any is_acknowledged (option_to_list reading))
    → (es : List Edge) → HasLooked es old → HasLooked (es ++ e ∷ []) new
looked_on old new e reading reads sees byte es h = record {
  given = h.given ++ option_to_list reading;
  read = reads es h.given h.read;
  seen = sees es h.seen;
  byte = byte_more old.has_byte new.has_byte h.given (option_to_list reading) h.byte byte;
}

-- what is odd at the end
pub looked_end : (l : Looked) (cut : Option Reading) (has_byte : Bool) (odd : Oddities) → ((es : List Edge) (given : List Reading) → HasReadings es given l.decoder → readings_of es ≡ given ++ option_to_list cut)
    → has_byte ≡ (l.has_byte || list_any is_acknowledged (option_to_list cut))
    → ((es : List Edge) (rs : List Reading) → HasSeen es l.lines → has_byte ≡ list_any is_acknowledged rs → odd ≡ oddities_of es rs)
    → (es : List Edge) → HasLooked es l → odd ≡ oddities_of es (readings_of es)
looked_end l cut has_byte odd reads byte odds es h =
    odds es (readings_of es) h.seen
    (byte_more l.has_byte has_byte h.given (option_to_list cut) h.byte byte ∙ ap (list_any is_acknowledged) (sym (reads es h.given h.read)))

-- the lines of a recording that can be read to its end, and of any other
pub lines_told : (input : TraceInput) (edges : List Edge) (own : Option CliFault) (v : Option ReadingPlace) (odd : Oddities) (there text : List ℕ) → v ≡ None → IsPlaceRead edges own v → odd ≡ oddities_of edges (readings_of edges)
    → there ≡ [] → text ≡ there ++ oddities_text input odd → AreOddLines input edges own text
lines_told input edges own v odd there text is read odds none lines = record {
  readable = λ h. lines ∙ (ap (λ t. t ++ oddities_text input odd) none ∙ ap (λ o. oddities_text input o) odds);
  refused = λ n. absurd (n (subst (λ p. IsPlaceRead edges own p) is read));
}

pub lines_none : (input : TraceInput) (edges : List Edge) (own : Option CliFault) (v : Option ReadingPlace) (p : ReadingPlace) (text : List ℕ) → v ≡ Some p → IsPlaceRead edges own v → text ≡ [] → AreOddLines input edges own text
lines_none input edges own v p text is read none = record {
  readable = λ h. absurd (not_read edges own p (subst (λ x. IsPlaceRead edges own x) is read) h);
  refused = λ n. none;
}

-- the remarks on what an input says
pub remarks : (input : TraceInput) (bytes : List ℕ) (all edges : List Edge) (own : Option CliFault) (r : Remarks) → Says input bytes all own → edges ≡ all → r.later ≡ first_moment edges
    → AreOddLines input edges own r.oddities.items → AreRemarks input bytes r
remarks input bytes all edges own r says same later lines = record {
  edges = all;
  own = own;
  says = says;
  later = later ∙ ap first_moment same;
  are_lines = subst (λ es. AreOddLines input es own r.oddities.items) same lines;
}
