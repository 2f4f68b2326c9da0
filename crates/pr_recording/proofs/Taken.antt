-- One reading more.
use Rattle.std.proofs.Common.{◌≡◌, List, [], ◌∷◌, ◌++◌, Some, None, Result, Ok, Err, is_err, OnOk, sym, subst, ◌∙◌, append-nil}
use Rattle.std.specs.declared.alloc.AllocError.{AllocError}
use Rattle.pr_wire.specs.declared.Frame.{Frame}
use Rattle.pr_decode.specs.declared.reading.Reading.{Reading}
use Rattle.pr_decode.specs.Frames.{acknowledged_frame, acknowledged_frames}
use Rattle.pr_recording.specs.declared.printer_pair.BusPrinters.{BusPrinters}
use Rattle.pr_recording.specs.Taking.{HasPrinted, HasReprinted}
use Rattle.pr_recording.proofs.Adding.{one-frame}

-- one that says no frame leaves both printers as they are
pub none-more : (s : BusPrinters) (r : Reading) → None ≡ acknowledged_frame r
    → (readings : List Reading) → HasReprinted readings s → HasReprinted (readings ++ r ∷ []) s
none-more s r e readings h =
    let same : acknowledged_frames (readings ++ r ∷ []) ≡ acknowledged_frames readings =
    one-frame readings r None (sym e) ∙ append-nil (acknowledged_frames readings) in
    record {
      works = h.works;
      four = subst (λ fs. HasPrinted 4 fs s.four) (sym same) h.four;
      five = subst (λ fs. HasPrinted 5 fs s.five) (sym same) h.five;
    }

-- both printers hear the frame of one that says it, unless one is refused
pub frame-more : (result : Result (Unit {0}) AllocError) (old new : BusPrinters) (r : Reading) (f : Frame) → Some f ≡ acknowledged_frame r
    → new.failed ≡ is_err result
    → OnOk result ((frames : List Frame) → HasPrinted 4 frames old.four → HasPrinted 4 (frames ++ f ∷ []) new.four)
    → OnOk result ((frames : List Frame) → HasPrinted 5 frames old.five → HasPrinted 5 (frames ++ f ∷ []) new.five)
    → OnOk result ((readings : List Reading) → HasReprinted readings old → HasReprinted (readings ++ r ∷ []) new)
frame-more (Ok u) old new r f e failed four five = λ readings h.
    let one : acknowledged_frames (readings ++ r ∷ []) ≡ acknowledged_frames readings ++ f ∷ [] = one-frame readings r (Some f) (sym e) in
    record {
      works = failed;
      four = subst (λ fs. HasPrinted 4 fs new.four) (sym one) (four (acknowledged_frames readings) h.four);
      five = subst (λ fs. HasPrinted 5 fs new.five) (sym one) (five (acknowledged_frames readings) h.five);
    }
frame-more (Err x) old new r f e failed four five = tt
