-- One input more of a printer.
use Rattle.std.proofs.Common.{◌≡◌, ℕ, Bool, true, false, ◌||◌, List, [], ◌∷◌, ◌++◌, Some, Result, Ok, Err, OnOk, refl, sym, ap, subst, ◌∙◌}
use Rattle.std.proofs.lemmas.List.Folds.{list_any-append}
use Rattle.std.specs.List.{list_any}
use Rattle.std.specs.Option.{option_to_list}
use Rattle.std.specs.declared.alloc.AllocError.{AllocError}
use Rattle.pr_page.specs.declared.input.Input.{Input}
use Rattle.pr_page.specs.Taken as page
use Rattle.pr_wire.specs.declared.Frame.{Frame}
use Rattle.pr_receiver.specs.Heard.{heard_of, input_of}
use Rattle.pr_receiver.specs.Kept.{kept_of}
use Rattle.pr_receiver.specs.Laws.{HeardOfOneMore}
use Rattle.pr_recording.specs.declared.bus_printer.BusPrinter.{BusPrinter}
use Rattle.pr_recording.specs.PrintedPages.{is_byte}
use Rattle.pr_recording.specs.Taking.{HasPrinted}

or-false : (b : Bool) → (b || false) ≡ b
or-false true = refl
or-false false = refl

-- a byte is among inputs with one more, if it was among them or this one is a byte
byte-more : (inputs : List Input) (i : Input) → list_any is_byte (inputs ++ i ∷ []) ≡ (list_any is_byte inputs || is_byte i)
byte-more inputs i = list_any-append is_byte inputs (i ∷ []) ∙ ap (λ b. list_any is_byte inputs || b) (or-false (is_byte i))

pub input-more : HeardOfOneMore → (result : Result (Unit {0}) AllocError) (device : ℕ) (old new : BusPrinter) (f : Frame) (i : Input)
    → ((before : List Frame) → old.listener ≡ kept_of device before
    → (Some i ≡ input_of device before f) × (new.listener ≡ kept_of device (before ++ f ∷ [])))
    → OnOk result ((inputs : List Input) → page.HasTaken inputs old.printer → page.HasTaken (inputs ++ i ∷ []) new.printer)
    → new.got_byte ≡ (old.got_byte || is_byte i)
    → OnOk result ((frames : List Frame) → HasPrinted device frames old → HasPrinted device (frames ++ f ∷ []) new)
input-more law (Ok u) device old new f i moves took got = λ frames h.
    let move = moves frames h.kept in
    let one : heard_of device (frames ++ f ∷ []) ≡ heard_of device frames ++ i ∷ [] =
    law device frames f ∙ ap (λ o. heard_of device frames ++ option_to_list o) (sym move.0) in
    record {
      kept = move.1;
      taken = subst (λ inputs. page.HasTaken inputs new.printer) (sym one) (took (heard_of device frames) h.taken);
      bytes = got ∙ ap (λ b. b || is_byte i) h.bytes ∙ sym (ap (list_any is_byte) one ∙ byte-more (heard_of device frames) i);
    }
input-more law (Err e) device old new f i moves took got = tt
