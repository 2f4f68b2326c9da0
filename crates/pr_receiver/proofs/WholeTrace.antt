-- A whole trace through a receiver.
use Rattle.std.proofs.Common.{◌≡◌, ℕ, ◌+◌, ◌<◌, ◌≤◌, List, [], ◌∷◌, ◌++◌, length, get_or, take, drop, Option, Some, None, Result, Ok, Err, refl, sym, subst, ap, ◌∙◌, add-one}
use Rattle.std.proofs.Math.Seq.{take-suc}
use Rattle.std.proofs.lemmas.List.{take-append-drop, take_all}
use Rattle.std.specs.Prelude.{IfErr, IsErrAnd}
use Rattle.std.specs.Option.{option_to_list}
use Rattle.pr_wire.specs.declared.Edge.{Edge}
use Rattle.pr_wire.specs.declared.Frame.{Frame}
use Rattle.pr_wire.specs.declared.WaveFault.{WaveFault}
use Rattle.pr_wire.specs.Pieces.{frames_of, IsLawful, Spells}
use Rattle.pr_wire.specs.Table.{fault_of, IsAllowed}
use Rattle.pr_wire.specs.Laws.{AllowedIsReached, SpellsTheFramesReached, FaultIsReached}
use Rattle.pr_page.specs.declared.input.Input.{Input}
use Rattle.pr_receiver.specs.Heard.{heard_of}
use Rattle.pr_receiver.specs.Given.{input_at, inputs_with}
use Rattle.pr_receiver.specs.Taken.{HasReceived, device_of, number_taken, refusal_of}
use Rattle.pr_receiver.specs.declared.state.Progress.{Progress}
use Rattle.pr_receiver.proofs.Hearing.{each-push}
use Rattle.pr_receiver.proofs.Ended.{fault-stays, traces-give}

-- the answer is the one that is wanted
abbrev IsAnswer : Result (Option Input) WaveFault → Result (Option Input) WaveFault → Type 0
IsAnswer answer wanted = answer ≡ wanted

-- a receiver has taken the first edges, and these inputs came with them
pub record HasGiven (device : ℕ) (edges : List Edge) (n : ℕ) (receiver : Progress) (inputs : List Input) : Type 0 where
  pub taken : HasReceived (take n edges) receiver
  pub refusal : refusal_of receiver ≡ None
  pub device_is : device_of receiver ≡ device
  pub count : number_taken receiver ≡ n
  pub given : inputs ≡ inputs_with device (take n edges)

-- the first edges, with the next one
take-next : (edges : List Edge) (n : ℕ) (d : Edge) → n < length edges → take (n + 1) edges ≡ take n edges ++ get_or edges n d ∷ []
take-next edges n d h = rw (add-one, take-suc edges n d h) refl

-- one edge more was accepted, and its input kept
pub gives-next : AllowedIsReached → (device : ℕ) (edges : List Edge) (n : ℕ) (r new : Progress) (inputs kept : List Input) (d : Edge) (input : Option Input)
    → HasGiven device edges n r inputs → n < length edges
    → ((es : List Edge) → HasReceived es r → refusal_of r ≡ None → IsAllowed (es ++ get_or edges n d ∷ []) → IsAnswer (Ok input) (Ok (input_at (device_of r) es (get_or edges n d))))
    → ((es : List Edge) → HasReceived es r → HasReceived (es ++ get_or edges n d ∷ []) new)
    → refusal_of new ≡ None → device_of new ≡ device_of r → number_taken new ≡ number_taken r + 1 → kept ≡ inputs ++ option_to_list input
    → HasGiven device edges (n + 1) new kept
gives-next allowed device edges n r new inputs kept d input g h a t f v c k =
    let m : take (n + 1) edges ≡ take n edges ++ get_or edges n d ∷ [] = take-next edges n d h in
    let x : HasReceived (take n edges ++ get_or edges n d ∷ []) new = t (take n edges) g.taken in
    let o : IsAnswer (Ok input) (Ok (input_at (device_of r) (take n edges) (get_or edges n d))) = a (take n edges) g.taken g.refusal ((allowed (take n edges ++ get_or edges n d ∷ [])).1 (_, x.accepted)) in
    let i : input ≡ input_at (device_of r) (take n edges) (get_or edges n d) = cc in
    record {
      taken = rw m x;
      refusal = f;
      device_is = v ∙ g.device_is;
      count = c ∙ ap (λ l. l + 1) g.count;
      given =
          k ∙ (ap (λ l. l ++ option_to_list input) g.given
          ∙ (ap (λ o. inputs_with device (take n edges) ++ option_to_list o) (i ∙ ap (λ e. input_at e (take n edges) (get_or edges n d)) g.device_is)
          ∙ (sym (each-push (λ p. option_to_list (input_at device p.0 p.1)) (take n edges) (get_or edges n d))
          ∙ ap (inputs_with device) (sym m))));
    }

-- the fault of the edge that was refused is that of the whole list
pub refused-whole : AllowedIsReached → FaultIsReached → (device : ℕ) (edges : List Edge) (n : ℕ) (r : Progress) (inputs : List Input) (d : Edge) (w : WaveFault)
    → HasGiven device edges n r inputs → n < length edges
    → ((es : List Edge) → HasReceived es r → refusal_of r ≡ None → IsAllowed (es ++ get_or edges n d ∷ []) → IsAnswer (Err w) (Ok (input_at (device_of r) es (get_or edges n d))))
    → ((es : List Edge) → HasReceived es r → refusal_of r ≡ None → fault_of (es ++ get_or edges n d ∷ []) ≡ Some w)
    → fault_of edges ≡ Some w
refused-whole allowed fault device edges n r inputs d w g h a f =
    let m : take (n + 1) edges ≡ take n edges ++ get_or edges n d ∷ [] = take-next edges n d h in
    let s : fault_of ((take n edges ++ get_or edges n d ∷ []) ++ drop (n + 1) edges) ≡ Some w =
    fault-stays allowed fault (take n edges ++ get_or edges n d ∷ []) (drop (n + 1) edges) w
    (λ i. let x : IsAnswer (Err w) (Ok (input_at (device_of r) (take n edges) (get_or edges n d))) = a (take n edges) g.taken g.refusal i in cc)
    (f (take n edges) g.taken g.refusal) in
    ap fault_of (sym (ap (λ l. l ++ drop (n + 1) edges) (sym m) ∙ take-append-drop (n + 1) edges)) ∙ s

-- what holds of the fault that is handed on holds of the answer
pub handed_on : {A : Type 0} (v : Result A WaveFault) (w : WaveFault) (P : WaveFault → Type 0) → IsErrAnd v (λ x. x ≡ w) → P w → IfErr v P
handed_on (Ok x) w P h p = tt
handed_on (Err x) w P h p = rw h p

-- at the end all edges have been taken
pub given-all : (device : ℕ) (edges : List Edge) (n : ℕ) (r : Progress) (inputs : List Input) → HasGiven device edges n r inputs → length edges ≤ n → HasReceived edges r × (inputs ≡ inputs_with device edges)
given-all device edges n r inputs g h =
    let a : take n edges ≡ edges = take_all n edges h in
    (subst (λ l. HasReceived l r) a g.taken, g.given ∙ ap (inputs_with device) a)

-- the inputs of a lawful trace are what is heard of the frames that it spells
pub heard-whole : SpellsTheFramesReached → (device : ℕ) (edges : List Edge) (inputs : List Input) → IsLawful edges → inputs ≡ inputs_with device edges
    → (frames : List Frame) × Spells edges frames × (inputs ≡ heard_of device frames)
heard-whole spelled device edges inputs l g =
    (frames_of l.0, (l.0, l.1, refl), g ∙ traces-give spelled device edges (frames_of l.0) (l.0, l.1, refl))
