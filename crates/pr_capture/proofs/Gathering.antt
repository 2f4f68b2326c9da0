-- Samples that become edges one by one.
use Rattle.std.proofs.Common.{◌≡◌, ℕ, ◌-◌, ◌==◌, Bool, true, false, List, [], ◌∷◌, ◌++◌, Option, Some, None, if◌then◌else◌, refl, ap, sym, ◌∙◌, append_assoc, append-nil}
use Rattle.std.specs.Prelude.{map}
use Rattle.std.proofs.lemmas.List.{map-append}
use Rattle.pr_wire.specs.declared.Levels.{Levels}
use Rattle.pr_wire.specs.declared.Edge.{Edge}
use Rattle.pr_capture.specs.declared.edge_detector.EdgeDetector.{EdgeDetector}
use Rattle.pr_capture.specs.Samples.{begin_at, changes_after, counted_from, edges_of, is_new, last_at_each, listed}
use Rattle.pr_capture.specs.Gathering.{edge_at_end, edge_before, settled, settled_by, still_to_come, told_with, HasGathered}
use Rattle.pr_capture.specs.Gathers.{AllHave, GathersMore, GathersRepeats}

-- nothing was taken
pub gathered-none : (start : ℕ) (g : EdgeDetector) → g.start ≡ start → g.held ≡ None → g.told ≡ None → HasGathered start [] [] g
unfolding edges_of
gathered-none start g s h t = λ more. rw (s, h, t) refl

-- a sample held that is apart from those after it
apart : (h : Edge) (told : Option Levels) (ss : List Edge) (b : Bool)
    → (if b then h ∷ changes_after (Some h.levels) ss else changes_after told ss)
    ≡ listed (if b then Some h else None) ++ changes_after (told_with told (if b then Some h else None)) ss
apart h told ss true = refl
apart h told ss false = refl

-- a sample held, with or without another at its moment
held-one : (h : Edge) (told : Option Levels) (ss : List Edge) (b : Bool)
    → changes_after told (if b then ss else h ∷ ss)
    ≡ listed (if b then None else (if is_new told h.levels then Some h else None))
    ++ changes_after (told_with told (if b then None else (if is_new told h.levels then Some h else None))) ss
held-one h told ss true = refl
held-one h told ss false = apart h told ss (is_new told h.levels)

-- the next sample makes the edge of the sample held
step : (held : Option Edge) (told : Option Levels) (n : Edge) (ns : List Edge)
    → changes_after told (last_at_each (listed held ++ n ∷ ns))
    ≡ listed (edge_before held told n.time) ++ changes_after (told_with told (edge_before held told n.time)) (last_at_each (n ∷ ns))
step None told n ns = refl
step (Some h) told n ns = held-one h told (last_at_each (n ∷ ns)) (h.time == n.time)

-- what is still to come, with one sample more
still-one : (old new : EdgeDetector) (s : Edge) (result : Option Edge) → new.start ≡ old.start
    → new.held ≡ Some (counted_from old.start s) → new.told ≡ told_with old.told result → result ≡ edge_before old.held old.told (s.time - old.start)
    → (more : List Edge) → still_to_come old (s ∷ more) ≡ listed result ++ still_to_come new more
still-one old new s result a b c d more =
    rw (a, b, c, d) (step old.held old.told (counted_from old.start s) (map (counted_from old.start) more))

-- one sample more
pub gathered-more : (old new : EdgeDetector) (s : Edge) (result : Option Edge) → new.start ≡ old.start
    → new.held ≡ Some (counted_from old.start s) → new.told ≡ told_with old.told result
    → result ≡ edge_before old.held old.told (s.time - old.start) → GathersMore (s ∷ []) (listed result) old new
gathered-more old new s result a b c d = λ start samples edges h more.
    ap (edges_of start) (append_assoc samples (s ∷ []) more)
    ∙ (h (s ∷ more)
    ∙ (ap (λ v. edges ++ v) (still-one old new s result a b c d more)
    ∙ sym (append_assoc edges (listed result) (still_to_come new more))))

-- samples with levels that were reported make no edge
known-drop : (told : Option Levels) (l : Levels) (xs ys : List Edge) → is_new told l ≡ false → AllHave l xs
    → changes_after told (last_at_each (xs ++ ys)) ≡ changes_after told (last_at_each ys)
known-drop told l [] ys n h = refl
known-drop told l (x ∷ xs) ys n h = by (begin_at x.time (xs ++ ys)) refl (known-drop told l xs ys n h.1)
  where
    by : (b : Bool) → begin_at x.time (xs ++ ys) ≡ b → changes_after told (last_at_each (xs ++ ys)) ≡ changes_after told (last_at_each ys)
        → changes_after told (last_at_each ((x ∷ xs) ++ ys)) ≡ changes_after told (last_at_each ys)
    by true e next = rw e next
    by false e next = let same : is_new told x.levels ≡ false = ap (is_new told) h.0 ∙ n in rw (e, same) next

-- counting keeps levels
counted-have : (start : ℕ) (l : Levels) (ss : List Edge) → AllHave l ss → AllHave l (map (counted_from start) ss)
counted-have start l [] h = tt
counted-have start l (s ∷ ss) h = (h.0, counted-have start l ss h.1)

-- what is still to come after samples with the levels of the last one
still-repeats : (start : ℕ) (held : Option Edge) (told : Option Levels) (last : Edge) (between more : List Edge) → settled_by held told ≡ Some last.levels → AllHave last.levels between
    → changes_after told (last_at_each (listed held ++ map (counted_from start) (between ++ last ∷ more)))
    ≡ changes_after told (last_at_each (counted_from start last ∷ map (counted_from start) more))
still-repeats start None told last between more s h = absurd (cc)
still-repeats start (Some k) told last between more s h = by (is_new told k.levels) refl s
  where
    by : (b : Bool) → is_new told k.levels ≡ b → settled_by (Some k) told ≡ Some last.levels
        → changes_after told (last_at_each (k ∷ map (counted_from start) (between ++ last ∷ more)))
        ≡ changes_after told (last_at_each (counted_from start last ∷ map (counted_from start) more))
    by true e j = absurd (let o : None ≡ Some last.levels = rw e at j in cc)
    by false e j =
        let o : Some k.levels ≡ Some last.levels = rw e at j in
        let same : k.levels ≡ last.levels = cc in
        let known : is_new told last.levels ≡ false = ap (is_new told) (sym same) ∙ e in
        ap (λ v. changes_after told (last_at_each (k ∷ v))) (map-append (counted_from start) between (last ∷ more))
        ∙ known-drop told last.levels (k ∷ map (counted_from start) between) (counted_from start last ∷ map (counted_from start) more) known
        (same, counted-have start last.levels between h)

-- such samples are taken
pub gathered-repeats : (old new : EdgeDetector) (last counted : Edge) → settled old ≡ Some last.levels → counted ≡ counted_from old.start last → new.start ≡ old.start → new.told ≡ old.told → new.held ≡ Some counted
    → GathersRepeats last old new
gathered-repeats old new last counted s k a b c = λ between have start samples edges h more.
    let all : (samples ++ (between ++ last ∷ [])) ++ more ≡ samples ++ (between ++ last ∷ more) =
    append_assoc samples (between ++ last ∷ []) more ∙ ap (λ v. samples ++ v) (append_assoc between (last ∷ []) more) in
    let still : still_to_come old (between ++ last ∷ more) ≡ still_to_come new more =
    still-repeats old.start old.held old.told last between more s have ∙ rw (a, b, c, k) refl in
    ap (edges_of start) all ∙ (h (between ++ last ∷ more) ∙ (ap (λ v. edges ++ v) still ∙ ap (λ v. v ++ still_to_come new more) (sym (append-nil edges))))

-- the last sample
at-end : (h : Edge) (b : Bool) → (if b then h ∷ [] else []) ≡ listed (if b then Some h else None)
at-end h true = refl
at-end h false = refl

-- what is still to come where nothing follows
last-one : (held : Option Edge) (told : Option Levels) → changes_after told (last_at_each (listed held ++ [])) ≡ listed (edge_at_end held told)
last-one None told = refl
last-one (Some h) told = at-end h (is_new told h.levels)

-- the samples end
pub gathered-all : (g : EdgeDetector) (result : Option Edge) → result ≡ edge_at_end g.held g.told
    → (start : ℕ) (samples edges : List Edge) → HasGathered start samples edges g → edges_of start samples ≡ edges ++ listed result
gathered-all g result r start samples edges h =
    ap (edges_of start) (sym (append-nil samples)) ∙ (h [] ∙ ap (λ v. edges ++ v) (rw r (last-one g.held g.told)))
