-- A text written piece by piece.
use Rattle.std.proofs.Common.{◌≡◌, ℕ, ◌+◌, ◌<◌, ◌≤◌, List, [], ◌++◌, length, get_or, drop, ap, sym, ◌∙◌, append_assoc, append-nil, Option, Vec, Result, Ok, Err, OnErr, subst, refl}
use Rattle.std.proofs.lemmas.List.{drop_all}
use Rattle.std.specs.Global.{Global}
use Rattle.std.specs.Io.KnownBytes.{Appends}
use Rattle.std.proofs.KnownBytes.{Appends-nil, Appends-trans}
use Rattle.pr_render.specs.Sheets.{joined}
use Rattle.pr_input.specs.PartlyWritten.{AppendsFront}
use Rattle.pr_jobs.proofs.TraceSteps.{cut_at}

-- all of a text but the rest was written
pub record HasWritten (old new : Option (List ℕ)) (text rest : List ℕ) : Type 0 where
  pub front : List ℕ
  pub whole : text ≡ front ++ rest
  pub wrote : Appends old new front

-- nothing was written
pub written_none : (a : Option (List ℕ)) (text : List ℕ) → HasWritten a a text text
written_none a text = record { front = []; whole = refl; wrote = Appends-nil a }

-- a piece more
pub written_more : (a b c : Option (List ℕ)) (text rest ys zs : List ℕ) → rest ≡ ys ++ zs → HasWritten a b text rest → Appends b c ys → HasWritten a c text zs
written_more a b c text rest ys zs is h k = record {
  front = h.front ++ ys;
  whole = h.whole ∙ ap (λ l. h.front ++ l) is ∙ sym (append_assoc h.front ys zs);
  wrote = Appends-trans a b c h.front ys h.wrote k;
}

-- a beginning of the next piece
pub written_front : (a b c : Option (List ℕ)) (text rest ys zs : List ℕ) → rest ≡ ys ++ zs → HasWritten a b text rest → AppendsFront b c ys → AppendsFront a c text
written_front a b c text rest ys zs is h k = (
  h.front ++ k.0,
  k.1 ++ zs,
  h.whole ∙ ap (λ l. h.front ++ l) (is ∙ ap (λ l. l ++ zs) k.2 ∙ append_assoc k.0 k.1 zs) ∙ sym (append_assoc h.front k.0 (k.1 ++ zs)),
  Appends-trans a b c h.front k.0 h.wrote k.3,
)

-- all pieces
pub written_all : (a b : Option (List ℕ)) (text : List ℕ) → HasWritten a b text [] → Appends a b text
written_all a b text h = let P : List ℕ → Type 0 = λ t. Appends a b t in subst P (sym (h.whole ∙ append-nil h.front)) h.wrote

-- the bytes left are those of the next block and of what follows it
pub block_next : (blocks full : List (Vec ℕ Global)) (i : ℕ) (b : Vec ℕ Global) (piece last : List ℕ) → blocks ≡ full → i < length blocks → b ≡ get_or blocks i b → piece ≡ b.items
    → joined (drop i full) ++ last ≡ piece ++ (joined (drop (i + 1) full) ++ last)
block_next blocks full i b piece last same within is told =
    let more : List (Vec ℕ Global) → List ℕ = λ l. joined (drop (i + 1) l) ++ last in
    ap (λ l. joined (drop i l) ++ last) (sym same)
    ∙ ap (λ l. joined l ++ last) (cut_at blocks i b within is)
    ∙ append_assoc b.items (joined (drop (i + 1) blocks)) last
    ∙ ap (λ l. l ++ more blocks) (sym told)
    ∙ ap (λ l. piece ++ more l) same

-- nothing is after the last block
pub block_last : (blocks full : List (Vec ℕ Global)) (i : ℕ) (piece last : List ℕ) → blocks ≡ full → length blocks ≤ i → piece ≡ last → joined (drop i full) ++ last ≡ piece ++ []
block_last blocks full i piece last same past told =
    ap (λ l. joined (drop i l) ++ last) (sym same) ∙ ap (λ l. joined l ++ last) (drop_all i blocks past) ∙ sym told ∙ sym (append-nil piece)

-- what holds, holds of an error
pub on_err : {X E : Type 0} (r : Result X E) (P : Type 0) → P → OnErr r P
on_err (Ok x) P p = tt
on_err (Err e) P p = p
