-- What more readings add.
use Rattle.std.proofs.Common.{◌≡◌, ℕ, ◌≤◌, suc, List, [], ◌∷◌, ◌++◌, length, Option, Some, None, sym, ap, ◌∙◌, append_assoc, append-nil, length-append, arith}
use Rattle.std.proofs.lemmas.List.Elements.{filter_map-append}
use Rattle.std.specs.List.{cons_option}
use Rattle.std.specs.Option.{option_to_list}
use Rattle.pr_page.specs.declared.input.Input.{Input}
use Rattle.pr_wire.specs.declared.Frame.{Frame}
use Rattle.pr_receiver.specs.Heard.{heard_of, input_of}
use Rattle.pr_receiver.specs.Laws.{HeardOfOneMore}
use Rattle.pr_decode.specs.declared.reading.Reading.{Reading}
use Rattle.pr_decode.specs.Frames.{acknowledged_frame, acknowledged_frames}
use Rattle.pr_recording.specs.Laws.{InputsAreFew, MoreReadingsAddInputs}

-- more frames only add inputs
heard-more : HeardOfOneMore → (device : ℕ) (frames more : List Frame)
    → (later : List Input) × (heard_of device (frames ++ more) ≡ heard_of device frames ++ later)
heard-more law device frames [] = ([], ap (heard_of device) (append-nil frames) ∙ sym (append-nil (heard_of device frames)))
heard-more law device frames (f ∷ more) =
    let rest = heard-more law device (frames ++ f ∷ []) more in
    let input = option_to_list (input_of device frames f) in (
      input ++ rest.0,
      ap (heard_of device) (sym (append_assoc frames (f ∷ []) more)) ∙ rest.1 ∙ ap (λ inputs. inputs ++ rest.0) (law device frames f)
          ∙ append_assoc (heard_of device frames) input rest.0,
    )

-- and so do more readings
pub readings-more : HeardOfOneMore → MoreReadingsAddInputs
readings-more law = λ device readings more.
    let rest = heard-more law device (acknowledged_frames readings) (acknowledged_frames more) in
    (rest.0, ap (heard_of device) (filter_map-append acknowledged_frame readings more) ∙ rest.1)

-- an input at most
one-at-most : {X : Type 0} (o : Option X) → length (option_to_list o) ≤ 1
one-at-most None = omega arith
one-at-most (Some x) = omega arith

-- a device hears no more inputs than there are frames
heard-few : HeardOfOneMore → (device : ℕ) (frames more : List Frame) → length (heard_of device frames) ≤ length frames
    → length (heard_of device (frames ++ more)) ≤ length (frames ++ more)
heard-few law device frames [] h = rw append-nil h
heard-few law device frames (f ∷ more) h =
    let longer : length (heard_of device (frames ++ f ∷ [])) ≤ length (frames ++ f ∷ []) =
    omega (
      arith,
      one-at-most (input_of device frames f),
      ap length (law device frames f),
      length-append (heard_of device frames) (option_to_list (input_of device frames f)),
      length-append frames (f ∷ []),
    ) in
    rw (← append_assoc frames (f ∷ []) more) (heard-few law device (frames ++ f ∷ []) more longer)

-- there are no more frames than readings
some-at-most : {X : Type 0} (o : Option X) (xs : List X) (n : ℕ) → length xs ≤ n → length (cons_option o xs) ≤ suc n
some-at-most None xs n h = omega arith
some-at-most (Some x) xs n h = omega arith

frames-few : (readings : List Reading) → length (acknowledged_frames readings) ≤ length readings
frames-few [] = omega arith
frames-few (r ∷ rs) = some-at-most (acknowledged_frame r) (acknowledged_frames rs) (length rs) (frames-few rs)

-- and so no more inputs than readings
pub readings-few : HeardOfOneMore → InputsAreFew
readings-few law = λ device readings.
    omega (arith, heard-few law device [] (acknowledged_frames readings) (omega arith), frames-few readings)

-- one reading that says no frame, or one
pub one-frame : (readings : List Reading) (r : Reading) (o : Option Frame) → acknowledged_frame r ≡ o
    → acknowledged_frames (readings ++ r ∷ []) ≡ acknowledged_frames readings ++ option_to_list o
one-frame readings r o e =
    filter_map-append acknowledged_frame readings (r ∷ []) ∙ ap (λ z. acknowledged_frames readings ++ z) (ap (λ f. cons_option f []) e ∙ alone o)
  where
    alone : (f : Option Frame) → cons_option f [] ≡ option_to_list f
    alone None = search arith
    alone (Some f) = search arith
