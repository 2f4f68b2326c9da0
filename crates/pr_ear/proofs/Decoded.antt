-- Decoders between calls: what one edge more leaves, and what the end cuts.
use Rattle.std.proofs.Common.{◌≡◌, ℕ, List, [], ◌∷◌, ◌++◌, map, Option, Some, None, refl, sym, ap, subst, ◌∙◌}
use Rattle.std.proofs.lemmas.List.{map-append}
use Rattle.std.specs.Option.{option_to_list}
use Rattle.pr_wire.specs.declared.Edge.{Edge}
use Rattle.pr_decode.specs.declared.decoder.Decoder.{Decoder}
use Rattle.pr_decode.specs.declared.reading.Reading.{Reading}
use Rattle.pr_decode.specs.Readings.{settled_of}
use Rattle.pr_decode.specs.Taking.{HasReadings, IsBefore, last_time}
use Rattle.pr_decode.specs.Taking as taking
use Rattle.pr_ear.specs.declared.WireEdge.{WireEdge}
use Rattle.pr_ear.specs.declared.decoder_numbers.WireDecoder.{WireDecoder}
use Rattle.pr_ear.specs.Decoding.{StandsBefore, last_moment, settled_by}
use Rattle.pr_ear.specs.DecoderTaken.{HasDecoded, decoder_by, stored}
use Rattle.pr_ear.specs.Hearing.{edge_of}
use Rattle.pr_ear.proofs.DecodersStored.{decoder-back}

-- a decoder comes back
pub comes-back : (edges : List WireEdge) (given : List Reading) (w : WireDecoder) (h : HasDecoded edges given w) → decoder_by w ≡ h.decoder
comes-back edges given w h = ap decoder_by h.numbers ∙ decoder-back h.decoder

pub read-back : (edges : List WireEdge) (given : List Reading) (w : WireDecoder) (d : Decoder) → HasDecoded edges given w → d ≡ decoder_by w
    → HasReadings (map edge_of edges) given d
read-back edges given w d h k = subst (HasReadings (map edge_of edges) given) (sym (k ∙ comes-back edges given w h)) h.read

pub last-back : (edges : List WireEdge) (given : List Reading) (w : WireDecoder) (d : Decoder) → HasDecoded edges given w → d ≡ decoder_by w
    → last_time d ≡ last_moment edges
last-back edges given w d h k = ap last_time (k ∙ comes-back edges given w h) ∙ h.last

-- the moment of the last edge, after one more
pub last-one : (edges : List WireEdge) (e : WireEdge) → last_moment (edges ++ e ∷ []) ≡ Some e.time
last-one [] e = refl
last-one (a ∷ []) e = refl
last-one (a ∷ b ∷ edges) e = last-one (b ∷ edges) e

one-more : (edges : List WireEdge) (e : WireEdge) → map edge_of (edges ++ e ∷ []) ≡ map edge_of edges ++ edge_of e ∷ []
one-more edges e = map-append edge_of edges (e ∷ [])

-- an edge was taken
pub takes-on : (edges : List WireEdge) (given : List Reading) (w new : WireDecoder) (e : WireEdge) (x : Edge) (d after : Decoder) (r : Option Reading)
    → HasDecoded edges given w → d ≡ decoder_by w → x ≡ edge_of e
    → ((es : List Edge) (gs : List Reading) → HasReadings es gs d → HasReadings (es ++ x ∷ []) (gs ++ option_to_list r) after)
    → last_time after ≡ Some x.time → new ≡ stored after
    → HasDecoded (edges ++ e ∷ []) (given ++ option_to_list r) new
takes-on edges given w new e x d after r h k same read last is =
    let more = read (map edge_of edges) given (read-back edges given w d h k) in
    let all : map edge_of edges ++ x ∷ [] ≡ map edge_of (edges ++ e ∷ []) = ap (λ y. map edge_of edges ++ y ∷ []) same ∙ sym (one-more edges e) in
    record {
      decoder = after;
      read = subst (λ es. HasReadings es (given ++ option_to_list r) after) all more;
      last = last ∙ (ap (λ (y : Edge). Some y.time) same ∙ sym (last-one edges e));
      numbers = is;
    }

-- what is settled is what was given
pub settled-next : ((es : List Edge) (gs : List Reading) (d : Decoder) → HasReadings es gs d → settled_of es ≡ gs)
    → (edges : List WireEdge) (given : List Reading) (w new : WireDecoder) (e : WireEdge) (r : Option Reading)
    → HasDecoded edges given w → HasDecoded (edges ++ e ∷ []) (given ++ option_to_list r) new
    → settled_by (edges ++ e ∷ []) ≡ settled_by edges ++ option_to_list r
settled-next law edges given w new e r h k =
    law (map edge_of (edges ++ e ∷ [])) (given ++ option_to_list r) k.decoder k.read
    ∙ ap (λ gs. gs ++ option_to_list r) (sym (law (map edge_of edges) given h.decoder h.read))

-- an edge comes before the last in both ways of saying it
same-way : (t : ℕ) (o : Option ℕ) → StandsBefore t o → taking.StandsBefore t o
same-way t None h = h
same-way t (Some n) h = h

other-way : (t : ℕ) (o : Option ℕ) → taking.StandsBefore t o → StandsBefore t o
other-way t None h = h
other-way t (Some n) h = h

pub stands-back : (edges : List WireEdge) (given : List Reading) (w : WireDecoder) (e : WireEdge) (x : Edge) (d : Decoder)
    → HasDecoded edges given w → d ≡ decoder_by w → x ≡ edge_of e → StandsBefore e.time (last_moment edges) → IsBefore x d
stands-back edges given w e x d h k same b =
    let last : last_moment edges ≡ last_time d = sym (last-back edges given w d h k) in
    let time : e.time ≡ x.time = sym (ap (λ (y : Edge). y.time) same) in
    same-way x.time (last_time d) (subst (λ o. StandsBefore x.time o) last (subst (λ t. StandsBefore t (last_moment edges)) time b))

pub is-back : (edges : List WireEdge) (given : List Reading) (w : WireDecoder) (e : WireEdge) (x : Edge) (d : Decoder)
    → HasDecoded edges given w → d ≡ decoder_by w → x ≡ edge_of e → IsBefore x d → StandsBefore e.time (last_moment edges)
is-back edges given w e x d h k same b =
    let last : last_time d ≡ last_moment edges = last-back edges given w d h k in
    let time : x.time ≡ e.time = ap (λ (y : Edge). y.time) same in
    subst (λ t. StandsBefore t (last_moment edges)) time (subst (λ o. StandsBefore x.time o) last (other-way x.time (last_time d) b))
