-- One input more, and one reading more, of the bytes that a device hears.
use Rattle.std.proofs.Common.{◌≡◌, ℕ, Bool, true, false, not, ◌||◌, List, [], ◌∷◌, ◌++◌, refl, ap, sym, subst, ◌∙◌, append-nil, Option, Some, None, Result, Ok, Err, OnOk}
use Rattle.std.proofs.lemmas.List.Elements.{filter_map-append}
use Rattle.std.proofs.lemmas.List.Folds.{list_any-append}
use Rattle.std.specs.List.{list_any}
use Rattle.std.specs.Option.{option_or, option_to_list}
use Rattle.std.specs.declared.alloc.AllocError.{AllocError}
use Rattle.pr_page.specs.declared.input.Input.{Input}
use Rattle.pr_page.specs.declared.input.Input.TheVariants.{Select, Byte}
use Rattle.pr_wire.specs.declared.Frame.{Frame}
use Rattle.pr_receiver.specs.Heard.{heard_of, input_of}
use Rattle.pr_receiver.specs.Kept.{kept_of}
use Rattle.pr_receiver.specs.Laws.{HeardOfOneMore}
use Rattle.pr_receiver.specs.declared.listener.Listener.{Listener}
use Rattle.pr_decode.specs.declared.reading.Reading.{Reading}
use Rattle.pr_decode.specs.Frames.{acknowledged_frame, acknowledged_frames}
use Rattle.pr_recording.specs.declared.byte_log.ByteLog.{ByteLog}
use Rattle.pr_recording.specs.declared.device_log.Ear.{Ear}
use Rattle.pr_recording.specs.Bytes.{byte_of, bytes_of, sets_from, sets_of}
use Rattle.pr_recording.specs.Logged.{HasLogged, HearsMore, LogsInput, first_of, selected_after}
use Rattle.pr_recording.specs.PrintedPages.{heard_in}
use Rattle.pr_recording.proofs.Adding.{one-frame}

-- the sets of one input more
sets_more : (lower : Bool) (xs : List Input) (i : Input) → sets_from lower (xs ++ i ∷ []) ≡ sets_from lower xs ++ sets_from (selected_after lower xs) (i ∷ [])
sets_more lower [] i = refl
sets_more lower (Select other ∷ xs) i = sets_more other xs i
sets_more lower (Byte byte ∷ xs) i = ap (λ sets. lower ∷ sets) (sets_more lower xs i)

selected_more : (lower : Bool) (xs : List Input) (i : Input) → selected_after lower (xs ++ i ∷ []) ≡ selected_after (selected_after lower xs) (i ∷ [])
selected_more lower [] i = refl
selected_more lower (Select other ∷ xs) i = selected_more other xs i
selected_more lower (Byte byte ∷ xs) i = selected_more lower xs i

-- the first of one set more
first_more : (sets : List Bool) (s : Bool) → first_of (sets ++ s ∷ []) ≡ option_or (first_of sets) (Some s)
first_more [] s = refl
first_more (t ∷ sets) s = refl

-- whether one of them passes, with one set more
any_more : (p : Bool → Bool) (sets : List Bool) (s : Bool) → list_any p (sets ++ s ∷ []) ≡ (list_any p sets || p s)
any_more p sets s = list_any-append p sets (s ∷ []) ∙ ap (λ b. list_any p sets || b) (or_false (p s))
  where
    or_false : (b : Bool) → (b || false) ≡ b
    or_false true = refl
    or_false false = refl

-- a selection was taken
pub logs_select : (old new : ByteLog) (lower : Bool) → new ≡ record old { lower = lower } → LogsInput (Select lower) old new
logs_select old new lower is = λ inputs h.
    let none : sets_of (inputs ++ Select lower ∷ []) ≡ sets_of inputs = sets_more false inputs (Select lower) ∙ append-nil (sets_of inputs) in
    let bytes : bytes_of (inputs ++ Select lower ∷ []) ≡ bytes_of inputs = filter_map-append byte_of inputs (Select lower ∷ []) ∙ append-nil (bytes_of inputs) in
    rw is (record {
      bytes = h.bytes ∙ sym bytes;
      lower = sym (selected_more false inputs (Select lower));
      first = h.first ∙ sym (ap first_of none);
      in_lower = h.in_lower ∙ sym (ap (list_any (λ s. s)) none);
      in_upper = h.in_upper ∙ sym (ap (list_any (λ s. not s)) none);
    })

-- a byte was taken
pub logs_byte : (old new : ByteLog) (byte : ℕ) → new.bytes.items ≡ old.bytes.items ++ byte ∷ [] → new.lower ≡ old.lower → new.first ≡ option_or old.first (Some old.lower)
    → new.in_lower ≡ (old.in_lower || old.lower) → new.in_upper ≡ (old.in_upper || not old.lower) → LogsInput (Byte byte) old new
logs_byte old new byte bytes lower first in_lower in_upper = λ inputs h.
    let sets = sets_of inputs in
    let set = selected_after false inputs in
    let one : sets_of (inputs ++ Byte byte ∷ []) ≡ sets ++ set ∷ [] = sets_more false inputs (Byte byte) in
    record {
      bytes = bytes ∙ (ap (λ bs. bs ++ byte ∷ []) h.bytes ∙ sym (filter_map-append byte_of inputs (Byte byte ∷ [])));
      lower = lower ∙ (h.lower ∙ sym (selected_more false inputs (Byte byte)));
      first = first ∙ (ap (λ f. option_or f (Some old.lower)) h.first ∙ (ap (λ s. option_or (first_of sets) (Some s)) h.lower ∙ (sym (first_more sets set) ∙ sym (ap first_of one))));
      in_lower = in_lower ∙ (ap (λ b. b || old.lower) h.in_lower ∙ (ap (λ s. list_any (λ l. l) sets || s) h.lower ∙ (sym (any_more (λ l. l) sets set) ∙ sym (ap (list_any (λ l. l)) one))));
      in_upper = in_upper ∙ (ap (λ b. b || not old.lower) h.in_upper ∙ (ap (λ s. list_any (λ l. not l) sets || not s) h.lower ∙ (sym (any_more (λ l. not l) sets set) ∙ sym (ap (list_any (λ l. not l)) one))));
    }

-- a reading that says no frame adds nothing
pub hears_none : (s : Ear) (r : Reading) → None ≡ acknowledged_frame r → HearsMore (r ∷ []) s s
hears_none s r e = λ device readings h.
    let same : acknowledged_frames (readings ++ r ∷ []) ≡ acknowledged_frames readings = one-frame readings r None (sym e) ∙ append-nil (acknowledged_frames readings) in
    record {
      kept = h.kept ∙ sym (ap (kept_of device) same);
      logged = subst (λ frames. HasLogged (heard_of device frames) s.log) (sym same) h.logged;
    }

-- what a listening part gives for a frame more, and what it keeps then
abbrev pub Moves : ℕ → (old new : Listener) → Frame → Option Input → Type 0
Moves device old new f o = (before : List Frame) → old ≡ kept_of device before → (o ≡ input_of device before f) × (new ≡ kept_of device (before ++ f ∷ []))

moves_for : (old new : Listener) (f : Frame) (o : Option Input) → Moves old.device old new f o → (device : ℕ) (frames : List Frame) → old ≡ kept_of device frames
    → (o ≡ input_of device frames f) × (new ≡ kept_of device (frames ++ f ∷ []))
moves_for old new f o moves device frames is =
    let P : ℕ → Type 0 = λ d. Moves d old new f o in
    subst P (ap (λ l. l.device) is) moves frames is

-- a reading that says a frame adds what the device hears of it
hears_frame : HeardOfOneMore → (old new : Ear) (r : Reading) (f : Frame) (o : Option Input) → Some f ≡ acknowledged_frame r → Moves old.listener.device old.listener new.listener f o
    → ((inputs : List Input) → HasLogged inputs old.log → HasLogged (inputs ++ option_to_list o) new.log) → HearsMore (r ∷ []) old new
hears_frame law old new r f o e moves logs = λ device readings h.
    let frames = acknowledged_frames readings in
    let move = moves_for old.listener new.listener f o moves device frames h.kept in
    let more : acknowledged_frames (readings ++ r ∷ []) ≡ frames ++ f ∷ [] = one-frame readings r (Some f) (sym e) in
    let inputs : heard_in device (readings ++ r ∷ []) ≡ heard_in device readings ++ option_to_list o =
    ap (heard_of device) more ∙ (law device frames f ∙ ap (λ i. heard_of device frames ++ option_to_list i) (sym move.0)) in
    record {
      kept = move.1 ∙ sym (ap (kept_of device) more);
      logged = subst (λ is. HasLogged is new.log) (sym inputs) (logs (heard_in device readings) h.logged);
    }

-- an input
pub hears_input : HeardOfOneMore → (result : Result (Unit {0}) AllocError) (old new : Ear) (r : Reading) (f : Frame) (i : Input) → Some f ≡ acknowledged_frame r
    → Moves old.listener.device old.listener new.listener f (Some i) → OnOk result (LogsInput i old.log new.log) → OnOk result (HearsMore (r ∷ []) old new)
hears_input law (Ok u) old new r f i e moves logs = hears_frame law old new r f (Some i) e moves logs
hears_input law (Err x) old new r f i e moves logs = tt

-- or nothing
pub hears_no_input : HeardOfOneMore → (old new : Ear) (r : Reading) (f : Frame) → Some f ≡ acknowledged_frame r → Moves old.listener.device old.listener new.listener f None → new.log ≡ old.log
    → HearsMore (r ∷ []) old new
hears_no_input law old new r f e moves same =
    hears_frame law old new r f None e moves (λ inputs h. rw (append-nil inputs, same) h)
