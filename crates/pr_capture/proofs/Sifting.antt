-- Edges that are decided one by one.
use Rattle.std.proofs.Common.{◌≡◌, ℕ, ◌≤◌, List, [], ◌∷◌, ◌++◌, Bool, true, false, if◌then◌else◌, Option, Some, None, length, take, refl, ap, sym, ◌∙◌, append_assoc, append-nil}
use Rattle.std.proofs.lemmas.List.{take-append-le}
use Rattle.pr_wire.specs.declared.Edge.{Edge}
use Rattle.pr_wire.specs.declared.Levels.{Levels}
use Rattle.pr_capture.specs.Samples.{is_new, listed}
use Rattle.pr_capture.specs.declared.pulse_filter.PulseFilter.{PulseFilter}
use Rattle.pr_capture.specs.Pulses.{steady_after, steady_edge, without_pulses}
use Rattle.pr_capture.specs.Gathering.{edge_at_end, told_with}
use Rattle.pr_capture.specs.Sifting.{SteadyEdgesComeFirst, HasSifted, SiftsMore, still_to_come}

-- an edge, with or without a change
by_change : (s : Edge) (told : Option Levels) (rest : Option Levels → List Edge) (b : Bool)
    → (if b then s ∷ rest (Some s.levels) else rest told) ≡ listed (if b then Some s else None) ++ rest (told_with told (if b then Some s else None))
by_change s told rest true = refl
by_change s told rest false = refl

-- the first edge is decided by those held, the first of the rest
pub first_decided : (limit : ℕ) (told : Option Levels) (e : Edge) (rest held : List Edge) (known : Option Edge) → take 15 rest ≡ take 15 held
    → known ≡ edge_at_end (Some (steady_edge limit told e held)) told
    → steady_after limit told (e ∷ rest) ≡ listed known ++ steady_after limit (told_with told known) rest
first_decided limit told e rest held known t k =
    let s = steady_edge limit told e held in
    rw (t, k) (by_change s told (λ l. steady_after limit l rest) (is_new told s.levels))

-- an edge is decided by all that are left
pub last_decided : (limit : ℕ) (told : Option Levels) (e : Edge) (held before after all : List Edge) (known : Option Edge)
    → known ≡ edge_at_end (Some (steady_edge limit told e held)) told → after ≡ before ++ listed known → before ++ steady_after limit told (e ∷ held) ≡ all
    → after ++ steady_after limit (told_with told known) held ≡ all
last_decided limit told e held before after all known k a h =
    ap (λ v. v ++ steady_after limit (told_with told known) held) a
    ∙ (append_assoc before (listed known) (steady_after limit (told_with told known) held)
    ∙ (ap (λ v. before ++ v) (sym (first_decided limit told e held held known refl k)) ∙ h))

-- an edge more is held
pub sifts_held : (old new : PulseFilter) (e : Edge) → new.limit ≡ old.limit → new.told ≡ old.told → new.held ≡ old.held ++ e ∷ [] → SiftsMore e [] old new
sifts_held old new e l t h = λ limit taken given s more.
    let still : still_to_come old (e ∷ more) ≡ still_to_come new more = rw (l, t, h) (ap (steady_after old.limit old.told) (sym (append_assoc old.held (e ∷ []) more))) in
    ap (without_pulses limit) (append_assoc taken (e ∷ []) more) ∙ (s (e ∷ more) ∙ (ap (λ v. given ++ v) still ∙ ap (λ v. v ++ still_to_come new more) (sym (append-nil given))))

-- an edge more is held, and the first is decided
pub sifts_decided : (old new : PulseFilter) (e front : Edge) (held : List Edge) (known : Option Edge) → old.held ≡ front ∷ held → 15 ≤ length held
    → known ≡ edge_at_end (Some (steady_edge old.limit old.told front held)) old.told → new.limit ≡ old.limit → new.told ≡ told_with old.told known → new.held ≡ held ++ e ∷ []
    → SiftsMore e (listed known) old new
sifts_decided old new e front held known is full k l t h = λ limit taken given s more.
    let first : steady_after old.limit old.told ((front ∷ held) ++ (e ∷ more)) ≡ listed known ++ steady_after old.limit (told_with old.told known) (held ++ e ∷ more) =
    first_decided old.limit old.told front (held ++ e ∷ more) held known (take-append-le 15 held (e ∷ more) full) k in
    let still : still_to_come old (e ∷ more) ≡ listed known ++ still_to_come new more =
    ap (λ v. steady_after old.limit old.told (v ++ e ∷ more)) is
    ∙ (first ∙ rw (l, t, h) (ap (λ v. listed known ++ steady_after old.limit (told_with old.told known) v) (sym (append_assoc held (e ∷ []) more)))) in
    ap (without_pulses limit) (append_assoc taken (e ∷ []) more)
    ∙ (s (e ∷ more) ∙ (ap (λ v. given ++ v) still ∙ sym (append_assoc given (listed known) (still_to_come new more))))

-- the edges given come first
pub steady_first : SteadyEdgesComeFirst
steady_first = λ limit taken more given f h. (still_to_come f more, h more)

-- the edges end: those held are decided
pub sifts_all : (f : PulseFilter) (before after : List Edge) → after ≡ before ++ steady_after f.limit f.told f.held
    → (limit : ℕ) (taken given : List Edge) → HasSifted limit taken (given ++ before) f → without_pulses limit taken ≡ given ++ after
sifts_all f before after e limit taken given h =
    ap (without_pulses limit) (sym (append-nil taken))
    ∙ (h [] ∙ (ap (λ v. (given ++ before) ++ steady_after f.limit f.told v) (append-nil f.held)
    ∙ (append_assoc given before (steady_after f.limit f.told f.held) ∙ ap (λ v. given ++ v) (sym e))))
