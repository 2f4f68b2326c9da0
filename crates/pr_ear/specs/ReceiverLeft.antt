-- Trusted: what each call of a receiver on any bus does. `HasReceived` holds of a receiver that was begun for a device,
-- with no edge; each call says for which edges it holds next; and the answers are right for all edges for which it
-- holds.
use Rattle.std.specs.Prelude.{◌≡◌, ℕ, List, [], ◌∷◌, ◌++◌, Option, Result, Ok, Err}
use Rattle.pr_decode.specs.declared.decoder.GoesBack.{GoesBack}
use Rattle.pr_ear.specs.declared.WireEdge.{WireEdge}
use Rattle.pr_ear.specs.declared.receiving.Received.{Received}
use Rattle.pr_ear.specs.declared.receiving.WireReceiver.{WireReceiver}
use Rattle.pr_ear.specs.ReceiverTaken.{HasReceived}

-- after an edge: it was taken, or the receiver is as it was
abbrev pub ReceiverLeaves :
    ℕ → List WireEdge → WireEdge → Result (Option Received) GoesBack → (old new : WireReceiver) → Type 0
ReceiverLeaves device edges edge (Ok received) old new = HasReceived device (edges ++ edge ∷ []) new
ReceiverLeaves device edges edge (Err back) old new = new ≡ old
