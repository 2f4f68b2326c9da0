-- Receivers between calls: what comes with one edge more, and what it is to a printer.
use Rattle.std.proofs.Common.{◌≡◌, ℕ, ◌≤◌, ◌+◌, ◌-◌, arith, Bool, true, false, not, List, [], ◌∷◌, ◌++◌, map, Option, Some, None, Result, Ok, Err, refl, sym, ap, subst, ◌∙◌, append-nil, append_assoc}
use Rattle.std.proofs.lemmas.Bool.{eq-eqb, eqb-true}
use Rattle.std.proofs.lemmas.List.Elements.{filter_map-append}
use Rattle.std.proofs.lemmas.Grind.{flat_map-append}
use Rattle.std.specs.List.{filter, filter_map, flat_map}
use Rattle.std.specs.Option.{option_to_list}
use Rattle.std.specs.Prelude.{◌&&◌, ◌==◌, min, nat_lt, if◌then◌else◌, IsErrAnd}
use Rattle.pr_page.specs.Before.{with_before}
use Rattle.pr_page.specs.declared.input.Input.{Input}
use Rattle.pr_page.specs.declared.input.Input.TheVariants as input
use Rattle.pr_wire.specs.declared.Frame.{Frame}
use Rattle.pr_receiver.specs.Heard.{heard_of, input_of, is_called, is_listening}
use Rattle.pr_receiver.specs.Kept.{kept_of}
use Rattle.pr_receiver.specs.declared.listener.Listener.{Listener}
use Rattle.pr_decode.specs.declared.decoder.GoesBack.{GoesBack}
use Rattle.pr_decode.specs.declared.reading.FrameEnd.TheVariants.{Acknowledged, Unacknowledged, Cut}
use Rattle.pr_decode.specs.declared.reading.IncompleteEnd.TheVariants as glitch
use Rattle.pr_decode.specs.declared.reading.Reading.{Reading}
use Rattle.pr_decode.specs.declared.reading.Reading.TheVariants as read
use Rattle.pr_decode.specs.Readings.{is_settled}
use Rattle.pr_decode.specs.Frames.{acknowledged_frame, acknowledged_frames}
use Rattle.pr_decode.specs.Laws.{TracesAreAcknowledged}
use Rattle.pr_ear.specs.declared.WireEdge.{WireEdge}
use Rattle.pr_ear.specs.declared.receiving.Received.{Received}
use Rattle.pr_ear.specs.declared.receiving.Received.TheVariants.{Byte, Select, Listen, Unlisten}
use Rattle.pr_ear.specs.declared.receiving.WireReceiver.{WireReceiver}
use Rattle.pr_ear.specs.DecoderTaken.{HasDecoded}
use Rattle.pr_ear.specs.Decoding.{StandsBefore, last_moment, said_by, settled_by}
use Rattle.pr_ear.specs.Hearing.{bit_of, edge_of, number_of, IsDevice}
use Rattle.pr_ear.specs.Receiving.{printed_for, printed_of, received_by, received_from, received_of, ReceiversHearLawfulTraces, ReceiversHearWhatIsPrinted, TellsReceived}
use Rattle.pr_ear.specs.ReceiverTaken.{frame_in, listener_by, received_with, HasReceived}
use Rattle.pr_ear.proofs.Stored.{bit-back}

-- the elements before each, for two parts
with_before-append : {X : Type 0} → (before xs ys : List X) → with_before before (xs ++ ys) ≡ with_before before xs ++ with_before (before ++ xs) ys
with_before-append before [] ys = rw append-nil
with_before-append before (x ∷ xs) ys = rw (with_before-append (before ++ x ∷ []) xs ys, append_assoc)

-- a byte that the recording's end cuts is not acknowledged, so the frames of all readings are those of the settled ones
pub settled-frames : (rs : List Reading) → acknowledged_frames rs ≡ acknowledged_frames (filter is_settled rs)
settled-frames [] = refl
settled-frames (read.Frame t (Acknowledged time) ∷ rs) = ap (λ fs. option_to_list (acknowledged_frame (read.Frame t (Acknowledged time))) ++ fs) (settled-frames rs)
settled-frames (read.Frame t (Unacknowledged time) ∷ rs) = settled-frames rs
settled-frames (read.Frame t Cut ∷ rs) = settled-frames rs
settled-frames (read.IncompleteByte t (glitch.Attention time) ∷ rs) = settled-frames rs
settled-frames (read.IncompleteByte t (glitch.ClockTimeout time) ∷ rs) = settled-frames rs
settled-frames (read.IncompleteByte t glitch.Cut ∷ rs) = settled-frames rs

-- the frames with one reading more, if there is one
one-frame : (o : Option Reading) → acknowledged_frames (option_to_list o) ≡ option_to_list (frame_in o)
one-frame None = refl
one-frame (Some (read.Frame t (Acknowledged time))) = refl
one-frame (Some (read.Frame t (Unacknowledged time))) = refl
one-frame (Some (read.Frame t Cut)) = refl
one-frame (Some (read.IncompleteByte t end)) = refl

pub frames-more : (given : List Reading) (o : Option Reading) → acknowledged_frames (given ++ option_to_list o) ≡ acknowledged_frames given ++ option_to_list (frame_in o)
frames-more given o = filter_map-append acknowledged_frame given (option_to_list o) ∙ ap (λ fs. acknowledged_frames given ++ fs) (one-frame o)

-- what comes with one frame more, if there is one
pub received-more : (device : ℕ) (frames : List Frame) (o : Option Frame)
    → received_of device (frames ++ option_to_list o) ≡ received_of device frames ++ option_to_list (received_with device frames o)
received-more device frames None = ap (received_of device) (append-nil frames) ∙ sym (append-nil (received_of device frames))
received-more device frames (Some frame) =
    let f = λ (p : List Frame × Frame). option_to_list (received_from device p.0 p.1) in
    ap (flat_map f) (with_before-append [] frames (frame ∷ []))
    ∙ (flat_map-append f (with_before [] frames) (with_before frames (frame ∷ []))
    ∙ ap (λ z. received_of device frames ++ z) (append-nil (option_to_list (received_from device frames frame))))

-- what comes with one edge more, by the reading that it settles
pub received-next : (device : ℕ) (edges more : List WireEdge) (given : List Reading) (r : Option Reading) (o : Option Received)
    → settled_by edges ≡ given → settled_by more ≡ settled_by edges ++ option_to_list r
    → o ≡ received_with device (acknowledged_frames given) (frame_in r)
    → received_by device more ≡ received_by device edges ++ option_to_list o
received-next device edges more given r o is next o-is =
    let frames : acknowledged_frames (said_by edges) ≡ acknowledged_frames given = settled-frames (said_by edges) ∙ ap acknowledged_frames is in
    let frames' : acknowledged_frames (said_by more) ≡ acknowledged_frames given ++ option_to_list (frame_in r) =
    settled-frames (said_by more) ∙ (ap acknowledged_frames (next ∙ ap (λ g. g ++ option_to_list r) is) ∙ frames-more given r) in
    ap (received_of device) frames'
    ∙ (received-more device (acknowledged_frames given) (frame_in r)
    ∙ (ap (λ fs. received_of device fs ++ option_to_list (received_with device (acknowledged_frames given) (frame_in r))) (sym frames)
    ∙ ap (λ x. received_by device edges ++ option_to_list x) (sym o-is)))

-- a listener comes back from its numbers
pub listener-back : (l : Listener) → l.device ≤ 30 → listener_by l.device (bit_of l.listens) (bit_of l.called) ≡ l
listener-back l h =
    let a = bit-back l.listens in
    let b = bit-back l.called in
    let d : min l.device 30 ≡ l.device = grind (arith, h) in
    rw (a, b, d) refl

-- a receiver that was begun
pub begun-for : (device : ℕ) (w : WireReceiver) → IsDevice device → HasDecoded [] [] w.decoder → w.device ≡ device → w.listens ≡ 0 → w.called ≡ 0 → HasReceived device [] w
begun-for device w is decoded d l c =
    let few : min device 30 ≡ device = grind (arith, is.greatest) in
    let stored : listener_by w.device w.listens w.called ≡ listener_by device 0 0 = rw (d, l, c) refl in
    record {
      few = is.greatest;
      given = [];
      decoded = decoded;
      listener = stored ∙ ap (λ n. record { device = n; listens = false; called = false }) few;
    }

-- what a receiver keeps of the frames of what was given
pub next-given : (device : ℕ) (edges : List WireEdge) (w : WireReceiver) (l : Listener) (h : HasReceived device edges w)
    → l ≡ listener_by w.device w.listens w.called → l ≡ kept_of device (acknowledged_frames h.given)
next-given device edges w l h k = k ∙ h.listener

-- a receiver that has taken one edge more
pub received-on : (device : ℕ) (edges : List WireEdge) (e : WireEdge) (old new : WireReceiver) (after : Listener) (r : Option Reading)
    (h : HasReceived device edges old) → HasDecoded (edges ++ e ∷ []) (h.given ++ option_to_list r) new.decoder
    → after ≡ kept_of device (acknowledged_frames h.given ++ option_to_list (frame_in r))
    → new.device ≡ after.device → new.listens ≡ bit_of after.listens → new.called ≡ bit_of after.called
    → HasReceived device (edges ++ e ∷ []) new
received-on device edges e old new after r h decoded kept d l c =
    let few : after.device ≤ 30 = subst (λ n. n ≤ 30) (sym (ap (λ (x : Listener). x.device) kept)) h.few in
    let stored : listener_by new.device new.listens new.called ≡ listener_by after.device (bit_of after.listens) (bit_of after.called) = rw (d, l, c) refl in
    record {
      few = h.few;
      given = h.given ++ option_to_list r;
      decoded = decoded;
      listener = stored ∙ (listener-back after few ∙ (kept ∙ ap (kept_of device) (sym (frames-more h.given r))));
    }

-- a number that is not 103 is not 7 above 96
no-seven : (n : ℕ) → (n == 103) ≡ false → (n - 96 == 7) ≡ false
no-seven n f = by (n - 96 == 7) refl
  where
    by : (b : Bool) → (n - 96 == 7) ≡ b → b ≡ false
    by false e = refl
    by true e =
        let is : n ≡ 103 = omega (arith, eqb-true (n - 96) 7 e) in
        absurd (let x : true ≡ false = sym (eq-eqb n 103 is) ∙ f in cc)

-- what a command is to a printer: nothing but LISTEN to it and secondary address 7
command-printed : (n : ℕ) (u k s l c : Bool) → (n == 63) ≡ u → (n == 103) ≡ k → (nat_lt 95 n && nat_lt n 128) ≡ s
    → printed_of (option_to_list (if (u && l) then Some Unlisten else (if (s && c) then Some (Select (n - 96)) else None)))
    ≡ option_to_list (if (k && c) then Some (input.Select true) else None)
command-printed n true true s l c e f g = absurd (omega (arith, eqb-true n 63 e, eqb-true n 103 f))
command-printed n true false s true c e f g = refl
command-printed n true false true false c e f g = absurd (let x : (nat_lt 95 63 && nat_lt 63 128) ≡ true = ap (λ m. nat_lt 95 m && nat_lt m 128) (sym (eqb-true n 63 e)) ∙ g in let y : false ≡ true = x in cc)
command-printed n true false false false c e f g = refl
command-printed n false true true l true e f g = ap (λ m. printed_of (option_to_list (Some (Select (m - 96))))) (eqb-true n 103 f)
command-printed n false true true l false e f g = refl
command-printed n false true false l c e f g = absurd (let x : (nat_lt 95 103 && nat_lt 103 128) ≡ false = ap (λ m. nat_lt 95 m && nat_lt m 128) (sym (eqb-true n 103 f)) ∙ g in let y : true ≡ false = x in cc)
command-printed n false false true l true e f g =
    let other : (n - 96 == 7) ≡ false = no-seven n f in
    ap (λ (b : Bool). filter_map (λ (o : Option Input). o) ((if b then Some (input.Select true) else None) ∷ [])) other
command-printed n false false true l false e f g = refl
command-printed n false false false l c e f g = refl

-- a frame of what comes is to a printer what it hears of that frame
frame-printed : (device : ℕ) (before : List Frame) (frame : Frame)
    → printed_of (option_to_list (received_from device before frame)) ≡ option_to_list (input_of device before frame)
frame-printed device before frame = by frame.attention (frame.byte == 32 + device) (is_listening device before) (is_called device before)
  where
    by : (t a l c : Bool)
        → printed_of (option_to_list (if (t && a) then Some Listen else (if ((t && frame.byte == 63) && l) then Some Unlisten
        else (if ((t && (nat_lt 95 frame.byte && nat_lt frame.byte 128)) && c) then Some (Select (frame.byte - 96))
        else (if (not t && l) then Some (Byte frame.byte frame.eoi) else None)))))
        ≡ option_to_list (if (t && a) then Some (input.Select false) else (if ((t && frame.byte == 103) && c) then Some (input.Select true)
        else (if (not t && l) then Some (input.Byte frame.byte) else None)))
    by false a true c = refl
    by false a false c = refl
    by true true l c = refl
    by true false l c = command-printed frame.byte (frame.byte == 63) (frame.byte == 103) (nat_lt 95 frame.byte && nat_lt frame.byte 128) l c refl refl refl

-- and so of all frames
frames-printed : (device : ℕ) (ps : List (List Frame × Frame))
    → printed_of (flat_map (λ (p : List Frame × Frame). option_to_list (received_from device p.0 p.1)) ps)
    ≡ flat_map (λ (p : List Frame × Frame). option_to_list (input_of device p.0 p.1)) ps
frames-printed device [] = refl
frames-printed device (p ∷ ps) =
    let rest = flat_map (λ (q : List Frame × Frame). option_to_list (received_from device q.0 q.1)) ps in
    filter_map-append printed_for (option_to_list (received_from device p.0 p.1)) rest
    ∙ (ap (λ is. is ++ printed_of rest) (frame-printed device p.0 p.1)
    ∙ ap (λ is. option_to_list (input_of device p.0 p.1) ++ is) (frames-printed device ps))

pub what-is-printed : ReceiversHearWhatIsPrinted
what-is-printed = λ device edges. frames-printed device (with_before [] (acknowledged_frames (said_by edges)))

-- those of a lawful trace are those that it spells
pub what-is-heard : TracesAreAcknowledged → ReceiversHearLawfulTraces
what-is-heard law = λ device edges numbers h.
    let frames : acknowledged_frames (said_by edges) ≡ h.0 = law (map edge_of edges) h.0 h.2 in
    h.3 ∙ ap (λ is. map number_of is) (sym (what-is-printed device edges ∙ ap (heard_of device) frames))

-- an edge that goes back is reported as that
pub still-back : (device : ℕ) (edges : List WireEdge) (e : WireEdge) (v : Result (Option Received) GoesBack) (b : GoesBack) → IsErrAnd v (λ x. x ≡ b)
    → StandsBefore e.time (last_moment edges) → TellsReceived device edges e v
still-back device edges e (Ok r) b h p = absurd h
still-back device edges e (Err x) b h p = p
