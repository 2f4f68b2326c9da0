-- What a device hears of the bytes that are said, and the inputs that its events are.
use Rattle.std.proofs.Common.{◌≡◌, ℕ, ◌+◌, ◌/◌, ◌%◌, ◌==◌, Bool, true, false, not, ◌&&◌, List, [], ◌∷◌, ◌++◌, Option}
use Rattle.std.proofs.Common.{Some, None, if◌then◌else◌, refl, sym, ap, ◌∙◌, append_assoc, append-nil, arith, eqb-true}
use Rattle.std.proofs.Common.{ne_eqb}
use Rattle.std.proofs.lemmas.Bool.{eqb-false}
use Rattle.std.proofs.lemmas.Grind.{flat_map-append}
use Rattle.std.specs.List.{flat_map}
use Rattle.std.specs.Option.{option_to_list}
use Rattle.pr_wire.specs.declared.Frame.{Frame}
use Rattle.pr_page.specs.Before.{with_before}
use Rattle.pr_page.specs.declared.input.Input.{Input}
use Rattle.pr_page.specs.declared.input.Input.TheVariants as input
use Rattle.pr_receiver.specs.Heard.{heard_of, input_of, is_listening, is_called}
use Rattle.pr_device.specs.declared.event.Event.{Event}
use Rattle.pr_device.specs.declared.event.Event.TheVariants.{Listen, Second, Open, Close, Byte, Unlisten}
use Rattle.pr_device.specs.Events.{command_event, event_of, events_of, secondary_event, input_of_event}
use Rattle.pr_device.specs.Events.{inputs_of_events}
use Rattle.pr_device.specs.Following.{said, frame_at}
use Rattle.pr_device.specs.Laws.{HistoriesAreHeard}
use Rattle.pr_device.specs.Seen.{event_at}
use Rattle.pr_device.specs.Sound.{event_if}

-- the elements before each, for two parts
with_before-append : {X : Type 0} (before xs ys : List X)
    → with_before before (xs ++ ys) ≡ with_before before xs ++ with_before (before ++ xs) ys
with_before-append before [] ys = rw append-nil
with_before-append before (x ∷ xs) ys = rw (with_before-append (before ++ x ∷ []) xs ys, append_assoc)

-- what is heard of one frame more
events-push : (device : ℕ) (fs : List Frame) (f : Frame)
    → events_of device (fs ++ f ∷ []) ≡ events_of device fs ++ option_to_list (event_of device fs f)
events-push device fs f =
    let each : List Frame × Frame → List Event = λ (p : List Frame × Frame). option_to_list (event_of device p.0 p.1) in
    ap (flat_map each) (with_before-append [] fs (f ∷ []))
    ∙ (flat_map-append each (with_before [] fs) ((fs, f) ∷ [])
    ∙ ap (λ l. events_of device fs ++ l) (append-nil (option_to_list (event_of device fs f))))

events-more : (device : ℕ) (fs : List Frame) (o : Option Frame)
    → events_of device (fs ++ option_to_list o) ≡ events_of device fs ++ option_to_list (event_if device fs o)
events-more device fs None = ap (events_of device) (append-nil fs) ∙ sym (append-nil (events_of device fs))
events-more device fs (Some f) = events-push device fs f

-- a device hears what the bytes say that are said
pub histories-heard : HistoriesAreHeard
histories-heard wait device [] = refl
histories-heard wait device (e ∷ h) =
    ap (λ l. l ++ option_to_list (event_at wait device h e)) (histories-heard wait device h)
    ∙ sym (events-more device (said wait h) (frame_at wait h e))

-- the inputs that an event is, if there is one
abbrev inputs_if : Option Event → List Input
inputs_if o = flat_map (λ (e : Event). option_to_list (input_of_event e)) (option_to_list o)

-- secondary address 7 is one byte
seventh : (byte : ℕ) (p q r : Bool) → (byte / 16 == 6) ≡ p → (byte % 16 == 7) ≡ q → (byte == 103) ≡ r → (p && q) ≡ r
seventh byte true true true a b c = refl
seventh byte true true false a b c =
    let x : byte / 16 ≡ 6 = eqb-true (byte / 16) 6 a in
    let y : byte % 16 ≡ 7 = eqb-true (byte % 16) 7 b in
    absurd (eqb-false byte 103 c (omega arith))
seventh byte true false false a b c = refl
seventh byte true false true a b c =
    let x : byte ≡ 103 = eqb-true byte 103 c in
    absurd (eqb-false (byte % 16) 7 b (omega arith))
seventh byte false q false a b c = refl
seventh byte false q true a b c =
    let x : byte ≡ 103 = eqb-true byte 103 c in
    absurd (eqb-false (byte / 16) 6 a (omega arith))

secondary-shape : (p o c q : Bool) (n : ℕ) → (n == 7) ≡ q
    → inputs_if (if p then Some (Second n) else (if c then Some (Close n) else (if o then Some (Open n) else None)))
    ≡ option_to_list (if p && q then Some (input.Select true) else None)
secondary-shape true o c true n h = ap (λ v. option_to_list (if v then Some (input.Select true) else None) ++ []) h
secondary-shape true o c false n h = ap (λ v. option_to_list (if v then Some (input.Select true) else None) ++ []) h
secondary-shape false o true q n h = refl
secondary-shape false true false q n h = refl
secondary-shape false false false q n h = refl

secondary-inputs : (byte : ℕ) → inputs_if (secondary_event byte)
    ≡ option_to_list (if byte == 103 then Some (input.Select true) else None)
secondary-inputs byte =
    secondary-shape (byte / 16 == 6) (byte / 16 == 15) (byte / 16 == 14) (byte % 16 == 7) (byte % 16) refl
    ∙ ap (λ v. option_to_list (if v then Some (input.Select true) else None))
    (seventh byte (byte / 16 == 6) (byte % 16 == 7) (byte == 103) refl refl refl)

-- what a command gives a printer
abbrev command_input : Bool → Bool → Bool → Option Input
command_input calls seven called =
    if calls then Some (input.Select false) else (if seven && called then Some (input.Select true) else None)

not-seventh : (byte : ℕ) → (byte == 63) ≡ true → (byte == 103) ≡ false
not-seventh byte h = let x : byte ≡ 63 = eqb-true byte 63 h in ne_eqb byte 103 (λ k. absurd (omega arith))

command-shape : (byte : ℕ) (calls ends seven called listens : Bool) → (byte == 63) ≡ ends → (byte == 103) ≡ seven
    → inputs_if (if calls then Some Listen
    else (if ends then (if listens then Some Unlisten else None) else (if called then secondary_event byte else None)))
    ≡ option_to_list (command_input calls seven called)
command-shape byte true ends seven called listens a b = refl
command-shape byte false true true called listens a b = absurd (let k : true ≡ false = sym b ∙ not-seventh byte a in cc)
command-shape byte false true false called true a b = refl
command-shape byte false true false called false a b = refl
command-shape byte false false true true listens a b =
    secondary-inputs byte ∙ ap (λ v. option_to_list (if v then Some (input.Select true) else None)) b
command-shape byte false false false true listens a b =
    secondary-inputs byte ∙ ap (λ v. option_to_list (if v then Some (input.Select true) else None)) b
command-shape byte false false true false listens a b = refl
command-shape byte false false false false listens a b = refl

-- what any frame gives it
frame-shape : (device byte : ℕ) (eoi attention called listens : Bool)
    → inputs_if (if attention then command_event device called listens byte
    else (if listens then Some (Byte byte eoi) else None))
    ≡ option_to_list (if attention && byte == 32 + device then Some (input.Select false)
    else (if (attention && byte == 103) && called then Some (input.Select true)
    else (if not attention && listens then Some (input.Byte byte) else None)))
frame-shape device byte eoi false called true = refl
frame-shape device byte eoi false called false = refl
frame-shape device byte eoi true called listens =
    command-shape byte (byte == 32 + device) (byte == 63) (byte == 103) called listens refl refl

one-frame : (device : ℕ) (before : List Frame) (f : Frame)
    → inputs_if (event_of device before f) ≡ option_to_list (input_of device before f)
one-frame device before f =
    frame-shape device f.byte f.eoi f.attention (is_called device before) (is_listening device before)

-- each of each
flat-flat : {X Y Z : Type 0} (g : Y → List Z) (f : X → List Y) (k : X → List Z) (xs : List X)
    → ((x : X) → flat_map g (f x) ≡ k x) → flat_map g (flat_map f xs) ≡ flat_map k xs
flat-flat g f k [] h = refl
flat-flat g f k (x ∷ xs) h = flat_map-append g (f x) (flat_map f xs)
    ∙ (ap (λ l. l ++ flat_map g (flat_map f xs)) (h x) ∙ ap (λ l. k x ++ l) (flat-flat g f k xs h))

-- the inputs of what a device hears of frames are those that a printer hears
pub inputs-heard : (device : ℕ) (fs : List Frame) → inputs_of_events (events_of device fs) ≡ heard_of device fs
inputs-heard device fs =
    flat-flat (λ (e : Event). option_to_list (input_of_event e))
    (λ (p : List Frame × Frame). option_to_list (event_of device p.0 p.1))
    (λ (p : List Frame × Frame). option_to_list (input_of device p.0 p.1)) (with_before [] fs)
    (λ p. one-frame device p.0 p.1)
