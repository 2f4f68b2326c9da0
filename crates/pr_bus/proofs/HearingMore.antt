-- A printer that hears more of the trace beside another one.
use Rattle.std.specs.Prelude.{vec_len, vec_capacity}
use Rattle.std.proofs.Common.{Option, ◌≡◌, ℕ, ◌<◌, ◌≤◌, ◌+◌, true, List, [], ◌∷◌, ◌++◌, length, take, drop, get_or, sym, subst, ap, ◌∙◌, append_assoc, arith}
use Rattle.std.proofs.lemmas.List.{take-append-drop}
use Rattle.std.proofs.Math.Seq.{take-length}
use Rattle.std.specs.Option.{option_to_list}
use Rattle.pr_page.specs.declared.input.Input.{Input}
use Rattle.pr_wire.specs.declared.Edge.{Edge}
use Rattle.pr_wire.specs.Table.{IsAllowed}
use Rattle.pr_receiver.specs.AtOnce.{TakesAtOnce}
use Rattle.pr_receiver.specs.Laws.{FrontsAreAllowed, InputsOfTwoParts}
use Rattle.pr_receiver.specs.Taken.{device_of, number_taken}
use Rattle.pr_receiver.specs.declared.state.Progress.{Progress}
use Rattle.pr_bus.specs.declared.port.WiredPort.{WiredPort}
use Rattle.pr_bus.specs.PortState.{IsHearing, IsReady, MayHear}
use Rattle.pr_bus.specs.Together.{HearsMore, Listens}
use Rattle.pr_bus.proofs.PortLemmas.{first-is, front-is, hears-more, hears-passed, less-ready, rest-ready, room-for-passed}

-- one that has heard edges, and then more
pub heard-on : FrontsAreAllowed → (edges : List Edge) (i n : ℕ) (old mid new : WiredPort) → HearsMore edges i old mid → HearsMore (drop i edges) n mid new → HearsMore edges (i + n) old new
heard-on law edges i n old mid new f g = record {
  hears = λ forgotten trace a h.
      let whole = front-is trace edges i n in
      let all : IsAllowed ((trace ++ take i edges) ++ take n (drop i edges)) = subst IsAllowed (sym whole) a in
      subst (λ l. IsHearing forgotten l new) whole
      (g.hears forgotten (trace ++ take i edges) all (f.hears forgotten trace (law (trace ++ take i edges) (take n (drop i edges)) all) h));
  device = g.device ∙ f.device;
  present = g.present ∙ f.present;
  count = omega (arith, f.count, g.count);
  capacity = g.capacity ∙ f.capacity;
}

-- it may hear the rest
pub rest-may : FrontsAreAllowed → (edges : List Edge) (i : ℕ) (old mid : WiredPort) → MayHear edges old → HearsMore edges i old mid → MayHear (drop i edges) mid
rest-may law edges i old mid m f =
    let forgotten = m.0 in
    let trace = m.1 in
    let r = m.2 in
    let whole : (trace ++ take i edges) ++ drop i edges ≡ trace ++ edges = append_assoc trace (take i edges) (drop i edges) ∙ ap (λ l. trace ++ l) (take-append-drop i edges) in
    let front : IsAllowed (trace ++ take i edges) = law (trace ++ take i edges) (drop i edges) (subst IsAllowed (sym whole) r.allowed) in
    (forgotten, trace ++ take i edges, rest-ready forgotten trace edges i old mid r (f.hears forgotten trace front r.hears) f.device f.capacity)

-- one that has heard all edges listens
pub listens-all : (edges : List Edge) (old new : WiredPort) → old.present ≡ true → HearsMore edges (length edges) old new → Listens edges old new
listens-all edges old new t f = λ device there forgotten trace a h.
    hears-more trace edges old new t
    (λ forgotten trace a h. subst (λ l. IsHearing forgotten (trace ++ l) new) (take-length edges) (f.hears forgotten trace (subst (λ l. IsAllowed (trace ++ l)) (sym (take-length edges)) a) h))
    f.device f.present f.count device there forgotten a h

-- a printer that may hear edges may hear those in front alone
front-ready : FrontsAreAllowed → InputsOfTwoParts → (edges : List Edge) (n : ℕ) (port : WiredPort) (m : MayHear edges port) → IsReady m.0 m.1 (take n edges) port
front-ready fronts law edges n port m =
    less-ready fronts law m.0 m.1 (take n edges) (drop n edges) port (subst (λ l. IsReady m.0 m.1 l port) (sym (take-append-drop n edges)) m.2)

-- the input of edges taken at once has room
pub room-at-once : FrontsAreAllowed → InputsOfTwoParts → (edges : List Edge) (n : ℕ) (port : WiredPort) (i : Option Input) (r : Progress) → MayHear edges port → TakesAtOnce port.receiver edges n i r
    → vec_len port.inputs + length (option_to_list i) ≤ vec_capacity port.inputs
room-at-once fronts law edges n port i r m t =
    let first = front-ready fronts law edges n port m in
    room-for-passed m.0 m.1 (take n edges) port i first (t.inputs m.1 first.hears.taken)

-- one that has taken edges at once, and keeps the input that came with the last of them
pub heard-at-once : (edges : List Edge) (n : ℕ) (old new : WiredPort) (i : Option Input) → TakesAtOnce old.receiver edges n i new.receiver → new.present ≡ old.present
    → new.inputs.items ≡ old.inputs.items ++ option_to_list i → vec_capacity new.inputs ≡ vec_capacity old.inputs → HearsMore edges n old new
heard-at-once edges n old new i t s k v = record {
  hears = λ forgotten trace a h. hears-passed forgotten trace (take n edges) old new i h (t.taken trace h.taken) t.refusal t.device (t.inputs trace h.taken) k;
  device = t.device;
  present = s;
  count = omega (arith, t.count);
  capacity = v;
}

-- it may hear the first edge alone
pub first-may : FrontsAreAllowed → InputsOfTwoParts → (edges : List Edge) (d : Edge) (port : WiredPort) → 0 < length edges → MayHear edges port → MayHear (get_or edges 0 d ∷ []) port
first-may fronts law edges d port some m =
    subst (λ l. MayHear l port) (first-is edges d some) (m.0, m.1, front-ready fronts law edges 1 port m)

-- one that has heard one edge
pub heard-first : (edges : List Edge) (d : Edge) (old new : WiredPort) → 0 < length edges
    → ((forgotten trace : List Edge) → IsAllowed (trace ++ get_or edges 0 d ∷ []) → IsHearing forgotten trace old → IsHearing forgotten (trace ++ get_or edges 0 d ∷ []) new)
    → device_of new.receiver ≡ device_of old.receiver → new.present ≡ old.present → number_taken new.receiver ≤ number_taken old.receiver + 1 → vec_capacity new.inputs ≡ vec_capacity old.inputs
    → HearsMore edges 1 old new
heard-first edges d old new some f v t n k =
    let e = first-is edges d some in
    record {
      hears = λ forgotten trace a h. subst (λ l. IsHearing forgotten (trace ++ l) new) (sym e) (f forgotten trace (subst (λ l. IsAllowed (trace ++ l)) e a) h);
      device = v;
      present = t;
      count = n;
      capacity = k;
    }
