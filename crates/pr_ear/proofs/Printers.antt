-- A printer comes back from its numbers, and its marks are put into a buffer one after another.
use Rattle.std.proofs.Common.{◌≡◌, ℕ, inl, inr, ◌+◌, ◌^◌, ◌<◌, ◌≤◌, Bool, true, false, List, [], ◌∷◌, ◌++◌, length, map, take, drop, get_or, add-one, Option, Some, None, refl, sym, ap, ◌∙◌, subst, arith, append_assoc, length-append}
use Rattle.std.specs.Prelude.{◌==◌, min, slice_get, slice_set}
use Rattle.std.proofs.Math.Seq.{set-append_seam, take-suc}
use Rattle.std.proofs.lemmas.List.{append-nil, drop_more, length-drop, length-map, length-take-le, map-append}
use Rattle.std.proofs.lemmas.Option.{get_or_from_slice_get, none-some, slice_get_cases, slice_get_within}
use Rattle.pr_page.specs.Marks.{marks_made, marks_on}
use Rattle.pr_page.specs.Making.{HasMade, HeadsMakePages, NextRowsAreAtHeads}
use Rattle.pr_page.specs.Steps.{pending_after, start, state_after, state_after_token, state_after_tokens, step, tokens_by}
use Rattle.pr_page.specs.Striking.{carriage_of, head_of}
use Rattle.pr_page.specs.Token.{Plain}
use Rattle.pr_page.specs.declared.state.PrinterState.{PrinterState}
use Rattle.pr_page.specs.declared.carriage.Made.{Made}
use Rattle.pr_page.specs.declared.carriage.MarkOnPaper.{MarkOnPaper}
use Rattle.pr_page.specs.declared.head.Head.{Head}
use Rattle.pr_page.specs.declared.input.Input.{Input}
use Rattle.pr_page.specs.declared.input.Input.TheVariants.{Byte}
use Rattle.pr_page.specs.declared.pending.Pending.{Pending}
use Rattle.pr_page.specs.declared.pending.Pending.TheVariants.{Idle, ColumnCode, ColumnTens, RepeatCode, RepeatCount, EscapeCode, AddressCode, AddressHigh}
use Rattle.pr_ear.specs.declared.printer_numbers.WireMark.{WireMark}
use Rattle.pr_ear.specs.declared.printer_numbers.WirePrinter.{WirePrinter}
use Rattle.pr_ear.specs.MarkNumbers.{mark_numbers}
use Rattle.pr_ear.specs.PrinterNumbers.{head_by, override_by, override_number, parameter_of, pending_by, pending_number, stored}
use Rattle.pr_ear.specs.Printing.{ArePrinted, HasPrinted, IsLaid, IsPrinted, NextRowsAreAtPrinters, PrintersPrintPages}
use Rattle.pr_ear.specs.PrintingSteps.{IsPrintedAt, LeavesSettings}
use Rattle.pr_ear.specs.declared.printing.Printed.{Printed}
use Rattle.pr_ear.specs.declared.printing.Printed.TheVariants.{Marks, TooSmall}
use Rattle.pr_ear.specs.declared.printing.Run.{Run}
use Rattle.pr_ear.proofs.Stored.{bit-back}

override-back : (set : Option Bool) → override_by (override_number set) ≡ set
override-back None = refl
override-back (Some false) = refl
override-back (Some true) = refl

pending-back : (p : Pending) → pending_by (pending_number p) (parameter_of p) ≡ p
pending-back Idle = refl
pending-back ColumnCode = refl
pending-back (ColumnTens tens) = refl
pending-back RepeatCode = refl
pending-back (RepeatCount count) = refl
pending-back EscapeCode = refl
pending-back AddressCode = refl
pending-back (AddressHigh high) = refl

-- a head comes back from its numbers
pub head-back : (h : Head) → h.carriage.y ≤ 2 ^ 63 → h.carriage.position ≤ 480 → head_by (stored h) ≡ h
head-back h top left =
    let a = bit-back h.settings.graphic in
    let b = bit-back h.settings.wide in
    let c = bit-back h.settings.reverse in
    let d = override-back h.settings.override_set in
    let e = bit-back h.lower in
    let f = pending-back h.pending in
    let g : min h.carriage.y (2 ^ 63) ≡ h.carriage.y = grind (arith, top) in
    let i : min h.carriage.position 480 ≡ h.carriage.position = grind (arith, left) in
    rw (a, b, c, d, e, f, g, i) refl

-- what a printer means has made its marks
pub restored : (inputs : List Input) (marks : List MarkOnPaper) (w : WirePrinter) (head : Head) → length inputs < 2 ^ 58 → HasPrinted inputs marks w →
    head ≡ head_by w → HasMade inputs marks head
restored inputs marks w head few h e =
    let top : h.head.carriage.y ≤ 2 ^ 63 = omega (arith, few, h.made.y) in
    let same : head ≡ h.head = e ∙ ap head_by h.numbers ∙ head-back h.head top h.made.position in
    subst (λ head. HasMade inputs marks head) (sym same) h.made

-- an input more
pub printed-more : (inputs : List Input) (marks : List MarkOnPaper) (input : Input) (w w' : WirePrinter) (old new : Head) (more : List MarkOnPaper) →
    length inputs < 2 ^ 58 → HasPrinted inputs marks w → old ≡ head_by w → w' ≡ stored new →
    ((inputs : List Input) (marks : List MarkOnPaper) → HasMade inputs marks old → HasMade (inputs ++ input ∷ []) (marks ++ more) new) →
    HasPrinted (inputs ++ input ∷ []) (marks ++ more) w'
printed-more inputs marks input w w' old new more few h is is' makes =
    record { head = new; made = makes inputs marks (restored inputs marks w old few h is); numbers = is' }

-- what is kept after one more input
after-push : (s : PrinterState) (inputs : List Input) (input : Input) → state_after s (inputs ++ input ∷ []) ≡ step (state_after s inputs) input
after-push s [] input = refl
after-push s (first ∷ inputs) input = after-push (step s first) inputs input

-- nothing is pending where the number says so
idle-number : (p : Pending) → pending_number p ≡ 0 → p ≡ Idle
idle-number Idle e = refl
idle-number ColumnCode e = absurd (omega (arith, e))
idle-number (ColumnTens tens) e = absurd (omega (arith, e))
idle-number RepeatCode e = absurd (omega (arith, e))
idle-number (RepeatCount count) e = absurd (omega (arith, e))
idle-number EscapeCode e = absurd (omega (arith, e))
idle-number AddressCode e = absurd (omega (arith, e))
idle-number (AddressHigh high) e = absurd (omega (arith, e))

-- a byte that leaves the settings moves the carriage alone
plain-step : (s : PrinterState) (b : ℕ) → s.pending ≡ Idle → LeavesSettings b →
    head_of (step s (Byte b)) ≡ record (head_of s) { carriage = (head_of (step s (Byte b))).carriage }
plain-step s b idle plain =
    let tokens = tokens_by s.pending s.lower b in
    let t = state_after_tokens s tokens in
    let one : tokens ≡ Plain s.lower b ∷ [] = ap (λ p. tokens_by p s.lower b) idle ∙ plain.completes s.lower in
    let after : t ≡ state_after_token s (Plain s.lower b) = ap (state_after_tokens s) one in
    let settings : t.settings ≡ s.settings = ap (λ (t : PrinterState). t.settings) after ∙ plain.sets s.settings in
    let lower : t.lower ≡ s.lower = ap (λ (t : PrinterState). t.lower) after in
    let pending : pending_after s.pending b ≡ s.pending = ap (λ p. pending_after p b) idle ∙ plain.begins ∙ sym idle in
    let carriage = carriage_of t.sheet in
    ap (λ settings. record { settings = settings; lower = t.lower; pending = pending_after s.pending b; carriage = carriage }) settings
    ∙ ap (λ lower. record { settings = s.settings; lower = lower; pending = pending_after s.pending b; carriage = carriage }) lower
    ∙ ap (λ pending. record { settings = s.settings; lower = s.lower; pending = pending; carriage = carriage }) pending

-- a head whose mode is said again
abbrev pub in_mode : Head → Bool → Head
in_mode head graphic = record head { settings = record head.settings { graphic = graphic } }

pub mode-same : (w : WirePrinter) (head : Head) (graphic : Bool) → head ≡ head_by w → graphic ≡ (w.graphic == 1) → in_mode head graphic ≡ head_by w
mode-same w head graphic is mode = ap (λ head. in_mode head graphic) is ∙ ap (in_mode (head_by w)) mode

-- a byte more that leaves the settings
pub plain-more : (inputs : List Input) (marks : List MarkOnPaper) (b : ℕ) (w : WirePrinter) (old new : Head) (more : List MarkOnPaper) →
    length inputs < 2 ^ 58 → HasPrinted inputs marks w → old ≡ head_by w → w.pending ≡ 0 → LeavesSettings b →
    ((inputs : List Input) (marks : List MarkOnPaper) → HasMade inputs marks old → HasMade (inputs ++ Byte b ∷ []) (marks ++ more) new) →
    HasPrinted (inputs ++ Byte b ∷ []) (marks ++ more) (record w { y = new.carriage.y; x = new.carriage.position })
plain-more inputs marks b w old new more few h is none plain makes =
    let s = state_after start inputs in
    let before : HasMade inputs marks old = restored inputs marks w old few h is in
    let after : HasMade (inputs ++ Byte b ∷ []) (marks ++ more) new = makes inputs marks before in
    let top : h.head.carriage.y ≤ 2 ^ 63 = omega (arith, few, h.made.y) in
    let same : old ≡ h.head = is ∙ ap head_by h.numbers ∙ head-back h.head top h.made.position in
    let numbers : w ≡ stored old = h.numbers ∙ ap stored (sym same) in
    let idle : old.pending ≡ Idle = idle-number old.pending (sym (ap (λ (w : WirePrinter). w.pending) numbers) ∙ none) in
    let rests : s.pending ≡ Idle = sym (ap (λ (head : Head). head.pending) before.head_is) ∙ idle in
    let now : new ≡ head_of (step s (Byte b)) = after.head_is ∙ ap head_of (after-push start inputs (Byte b)) in
    let kept : new ≡ record old { carriage = new.carriage } =
    now ∙ plain-step s b rests plain
    ∙ ap (λ (head : Head). record (head_of s) { carriage = head.carriage }) (sym now)
    ∙ ap (λ (head : Head). record head { carriage = new.carriage }) (sym before.head_is) in
    record {
      head = new;
      made = after;
      numbers = ap (λ (w : WirePrinter). record w { y = new.carriage.y; x = new.carriage.position }) numbers ∙ sym (ap stored kept);
    }

-- no marks are at the front of any buffer
pub laid-none : (first : List WireMark) → IsLaid [] first first
laid-none first = record { fits = omega arith; buffer = refl }

-- one mark more
pub laid-one : (marks : List MarkOnPaper) (m : MarkOnPaper) (first now : List WireMark) (n : ℕ) (w : WireMark) → n ≡ length marks → length marks < length first →
    w ≡ mark_numbers m → IsLaid marks first now → IsLaid (marks ++ m ∷ []) first (slice_set now n w)
laid-one marks m first now n w at room is h =
    let count : length (marks ++ m ∷ []) ≡ length marks + 1 = length-append marks (m ∷ []) in
    let here : n ≡ length (map mark_numbers marks) = at ∙ sym (length-map marks mark_numbers) in
    let rest = drop (length marks + 1) first in
    record {
      fits = omega (arith, count, room);
      buffer =
          ap (λ now. slice_set now n w) (h.buffer ∙ ap (λ rest. map mark_numbers marks ++ rest) (drop_more first (length marks) w room))
          ∙ ap (λ n. slice_set (map mark_numbers marks ++ get_or first (length marks) w ∷ rest) n w) here
          ∙ set-append_seam (map mark_numbers marks) (get_or first (length marks) w) rest w
          ∙ ap (λ w. map mark_numbers marks ++ w ∷ rest) is
          ∙ sym (append_assoc (map mark_numbers marks) (mark_numbers m ∷ []) rest)
          ∙ ap (λ front. front ++ rest) (sym (map-append mark_numbers marks (m ∷ [])))
          ∙ ap (λ n. map mark_numbers (marks ++ m ∷ []) ++ drop n first) (sym count);
    }

-- the size of a buffer stays
laid-length : (marks : List MarkOnPaper) (first now : List WireMark) → IsLaid marks first now → length now ≡ length first
laid-length marks first now h =
    let whole = ap length h.buffer in
    let parts = length-append (map mark_numbers marks) (drop (length marks) first) in
    let front = length-map marks mark_numbers in
    let back = length-drop (length marks) first in
    omega (arith, whole, parts, front, back, h.fits)

-- an input that makes no mark
pub laid-nothing : (marks made : List MarkOnPaper) (first now : List WireMark) → length made ≡ 0 → IsLaid marks first now → IsLaid (marks ++ made) first now
laid-nothing marks [] first now none h = subst (λ marks. IsLaid marks first now) (sym (append-nil marks)) h
laid-nothing marks (m ∷ made) first now none h = absurd (omega (arith, none))

-- the mark of an input that makes one
pub laid-single : (marks : List MarkOnPaper) (made : Made) (first now : List WireMark) (n : ℕ) (w : WireMark) → made.count ≡ 1 → made.next_count ≡ 0 →
    n ≡ length marks → n + length (marks_made made) ≤ length now → w ≡ mark_numbers (record { y = made.y; x = made.x; mark = made.mark }) →
    IsLaid marks first now → IsLaid (marks ++ marks_made made) first (slice_set now n w)
laid-single marks made first now n w one none at room is h =
    let m : MarkOnPaper = record { y = made.y; x = made.x; mark = made.mark } in
    let all : marks_made made ≡ m ∷ [] = rw (one, none) refl in
    let count : length (marks_made made) ≡ 1 = ap length all in
    let size = laid-length marks first now h in
    let fits : length marks < length first = omega (arith, at, room, size, count) in
    subst (λ more. IsLaid (marks ++ more) first (slice_set now n w)) (sym all) (laid-one marks m first now n w at fits is h)

-- the next mark of those that an input makes
pub laid-next : (marks made : List MarkOnPaper) (first now : List WireMark) (at i n : ℕ) (m : MarkOnPaper) (w : WireMark) → at ≡ length marks →
    at + length made ≤ length now → slice_get made i ≡ Some m → n ≡ at + i → w ≡ mark_numbers m →
    IsLaid (marks ++ take i made) first now → IsLaid (marks ++ take (i + 1) made) first (slice_set now n w)
laid-next marks made first now at i n m w is room has place numbers h =
    let inside : i < length made = slice_get_within made i m has in
    let one : take (i + 1) made ≡ take i made ++ m ∷ [] =
    ap (λ n. take n made) (add-one i) ∙ take-suc made i m inside ∙ ap (λ m. take i made ++ m ∷ []) (get_or_from_slice_get made i m m has) in
    let more : (marks ++ take i made) ++ m ∷ [] ≡ marks ++ take (i + 1) made = append_assoc marks (take i made) (m ∷ []) ∙ ap (λ made. marks ++ made) (sym one) in
    let front : length (take i made) ≡ i = length-take-le i made (omega (arith, inside)) in
    let count = length-append marks (take i made) in
    let size = laid-length (marks ++ take i made) first now h in
    let spot : n ≡ length (marks ++ take i made) = omega (arith, place, is, count, front) in
    let fits : length (marks ++ take i made) < length first = omega (arith, is, count, front, inside, room, size) in
    subst (λ marks. IsLaid marks first (slice_set now n w)) more (laid-one (marks ++ take i made) m first now n w spot fits numbers h)

-- there is a next mark
pub no_mark : (made : List MarkOnPaper) (i : ℕ) → i < length made → slice_get made i ≡ None → ⊥
no_mark made i inside none = elim (slice_get_cases made i).1 [
  | inl one ↦ none-some one.0 (sym none ∙ one.2)
  | inr past ↦ absurd (omega (arith, inside, past.0))
]

-- the bytes so far and one more
next-bytes : (inputs : List Input) (bytes : List ℕ) (i d : ℕ) → i < length bytes →
    (inputs ++ map Byte (take i bytes)) ++ Byte (get_or bytes i d) ∷ [] ≡ inputs ++ map Byte (take (i + 1) bytes)
next-bytes inputs bytes i d inside =
    let one : take (i + 1) bytes ≡ take i bytes ++ get_or bytes i d ∷ [] = ap (λ n. take n bytes) (add-one i) ∙ take-suc bytes i d inside in
    append_assoc inputs (map Byte (take i bytes)) (Byte (get_or bytes i d) ∷ [])
    ∙ ap (λ more. inputs ++ more) (sym (ap (map Byte) one ∙ map-append (λ (b : ℕ). Byte b) (take i bytes) (get_or bytes i d ∷ [])))

few-inputs : (inputs : List Input) (bytes : List ℕ) (i : ℕ) → i ≤ length bytes → length inputs + length bytes < 2 ^ 58 → length (inputs ++ map Byte (take i bytes)) < 2 ^ 58
few-inputs inputs bytes i inside few =
    let all = length-append inputs (map Byte (take i bytes)) in
    let same = length-map (take i bytes) (λ (b : ℕ). Byte b) in
    let front = length-take-le i bytes inside in
    omega (arith, all, same, front, inside, few)

-- a byte more was taken
pub bytes-more : (inputs : List Input) (marks made : List MarkOnPaper) (bytes : List ℕ) (i d n count : ℕ) (w w' : WirePrinter) (first out out' : List WireMark) →
    i < length bytes → length inputs + length bytes < 2 ^ 58 →
    HasPrinted (inputs ++ map Byte (take i bytes)) (marks ++ made) w → IsLaid made first out → n ≡ length made →
    ((inputs : List Input) (marks laid : List MarkOnPaper) (first : List WireMark) → length inputs < 2 ^ 58 → HasPrinted inputs marks w → n ≡ length laid → IsLaid laid first out →
    IsPrintedAt inputs marks laid first (get_or bytes i d) (Marks count) w w' out out') →
    (made : List MarkOnPaper) × HasPrinted (inputs ++ map Byte (take (i + 1) bytes)) (marks ++ made) w' × IsLaid made first out' × (n + count ≡ length made)
bytes-more inputs marks made bytes i d n count w w' first out out' inside few h laid at prints =
    let within : i ≤ length bytes = omega (arith, inside) in
    let next = prints (inputs ++ map Byte (take i bytes)) (marks ++ made) made first (few-inputs inputs bytes i within few) h at laid in
    let total = length-append made next.0 in (
      made ++ next.0,
      subst (λ inputs. HasPrinted inputs (marks ++ (made ++ next.0)) w') (next-bytes inputs bytes i d inside)
          (subst (λ marks. HasPrinted ((inputs ++ map Byte (take i bytes)) ++ Byte (get_or bytes i d) ∷ []) marks w') (append_assoc marks made next.0) next.1),
      next.2,
      omega (arith, at, next.3, total),
    )

-- a byte more has no room
pub bytes-stop : (inputs : List Input) (marks made : List MarkOnPaper) (bytes : List ℕ) (i d count : ℕ) (run : Run) (w w' : WirePrinter) (first out out' : List WireMark) →
    i < length bytes → length inputs + length bytes < 2 ^ 58 → run.taken ≡ i →
    HasPrinted (inputs ++ map Byte (take i bytes)) (marks ++ made) w → IsLaid made first out → run.marks ≡ length made →
    ((inputs : List Input) (marks laid : List MarkOnPaper) (first : List WireMark) → length inputs < 2 ^ 58 → HasPrinted inputs marks w → run.marks ≡ length laid → IsLaid laid first out →
    IsPrintedAt inputs marks laid first (get_or bytes i d) (TooSmall count) w w' out out') →
    ArePrinted inputs marks bytes run w' first out'
bytes-stop inputs marks made bytes i d count run w w' first out out' inside few taken h laid at prints =
    let within : i ≤ length bytes = omega (arith, inside) in
    let next = prints (inputs ++ map Byte (take i bytes)) (marks ++ made) made first (few-inputs inputs bytes i within few) h at laid in
    let makes = next.1 in
    let total = length-append made next.0 in
    let size = laid-length made first out laid in
    record {
      made = made;
      few = omega (arith, taken, inside);
      printed = subst (λ w. HasPrinted (inputs ++ map Byte (take run.taken bytes)) (marks ++ made) w) (sym next.4)
          (subst (λ i. HasPrinted (inputs ++ map Byte (take i bytes)) (marks ++ made) w) (sym taken) h);
      laid = subst (λ out. IsLaid made first out) (sym next.5) laid;
      count = at;
      most = λ ne. (
        made ++ next.0,
        record {
          printer = makes.printer;
          printed =
              subst (λ i. HasPrinted (inputs ++ map Byte (take (i + 1) bytes)) (marks ++ (made ++ next.0)) makes.printer) (sym taken)
              (subst (λ inputs. HasPrinted inputs (marks ++ (made ++ next.0)) makes.printer) (next-bytes inputs bytes i d inside)
              (subst (λ marks. HasPrinted ((inputs ++ map Byte (take i bytes)) ++ Byte (get_or bytes i d) ∷ []) marks makes.printer) (append_assoc marks made next.0) makes.printed));
        },
        omega (arith, total, size, next.2, next.3),
      );
    }

-- all bytes were taken
pub bytes-all : (inputs : List Input) (marks made : List MarkOnPaper) (bytes : List ℕ) (i : ℕ) (run : Run) (w : WirePrinter) (first out : List WireMark) →
    i ≡ length bytes → run.taken ≡ i → HasPrinted (inputs ++ map Byte (take i bytes)) (marks ++ made) w → IsLaid made first out → run.marks ≡ length made →
    ArePrinted inputs marks bytes run w first out
bytes-all inputs marks made bytes i run w first out whole taken h laid at = record {
  made = made;
  few = omega (arith, taken, whole);
  printed = subst (λ i. HasPrinted (inputs ++ map Byte (take i bytes)) (marks ++ made) w) (sym taken) h;
  laid = laid;
  count = at;
  most = λ ne. absurd (ne (taken ∙ whole));
}

-- marks that are put after none
pub printed-first : (inputs : List Input) (marks : List MarkOnPaper) (b : ℕ) (printed : Printed) (old new : WirePrinter) (before after : List WireMark) →
    IsPrintedAt inputs marks [] before b printed old new before after → IsPrinted inputs marks b printed old new before after
printed-first inputs marks b (Marks n) old new before after h = h
printed-first inputs marks b (TooSmall n) old new before after h = (h.0, h.1, h.2, omega (arith, h.3), h.4, h.5)

-- the marks are those of the page, and the next row is at the printer's place
pub printers-print : HeadsMakePages → PrintersPrintPages
printers-print pages inputs marks w paper h page =
    pages inputs marks h.head paper h.made page ∙ ap (λ (w : WirePrinter). marks_on paper w.y) (sym h.numbers)

pub next-at-printers : NextRowsAreAtHeads → NextRowsAreAtPrinters
next-at-printers next inputs more marks w before after row rows h page page' e =
    next inputs more marks h.head before after row rows h.made page page' e ∙ ap (λ (w : WirePrinter). w.y) (sym h.numbers)
