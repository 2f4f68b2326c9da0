-- Trusted: what each call of a decoder does. `HasDecoded` holds of a decoder that was begun, with
-- no edge; each call says for which edges and readings it holds next; and the answers are right for
-- all edges and readings for which it holds.
use Rattle.std.specs.Prelude.{◌≡◌, List, [], ◌∷◌, ◌++◌, Option, Result, Ok, Err}
use Rattle.std.specs.Option.{option_to_list}
use Rattle.pr_decode.specs.declared.decoder.GoesBack.{GoesBack}
use Rattle.pr_decode.specs.declared.reading.Reading.{Reading}
use Rattle.pr_ear.specs.declared.WireEdge.{WireEdge}
use Rattle.pr_ear.specs.declared.decoder_numbers.WireDecoder.{WireDecoder}
use Rattle.pr_ear.specs.DecoderTaken.{HasDecoded}

-- after an edge: it was taken, or the decoder is as it was
abbrev pub LeavesOf :
    List WireEdge → (given : List Reading) → WireEdge → Result (Option Reading) GoesBack → (old new : WireDecoder)
    → Type 0
LeavesOf edges given edge (Ok reading) old new =
    HasDecoded (edges ++ edge ∷ []) (given ++ option_to_list reading) new
LeavesOf edges given edge (Err back) old new = new ≡ old
