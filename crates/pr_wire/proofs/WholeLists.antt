-- A whole list of edges, given to a follower.
use Rattle.std.proofs.Common.{◌≡◌, ℕ, ◌+◌, ◌<◌, ◌≤◌, List, [], ◌∷◌, ◌++◌, length, get_or, take, drop, Option, Some, None, Result, Ok, Err, refl, sym, subst, ap, ◌∙◌, add-one, append_assoc}
use Rattle.std.proofs.Math.Seq.{take-suc}
use Rattle.std.proofs.lemmas.List.{take-append-drop, take_all}
use Rattle.std.specs.Prelude.{IfErr, IsErrAnd}
use Rattle.pr_wire.specs.declared.Edge.{Edge}
use Rattle.pr_wire.specs.declared.Frame.{Frame}
use Rattle.pr_wire.specs.declared.WaveFault.{WaveFault}
use Rattle.pr_wire.specs.declared.follower.TraceFollower.{TraceFollower}
use Rattle.pr_wire.specs.Checked.{GoesOn}
use Rattle.pr_wire.specs.Checking.{with_frame}
use Rattle.pr_wire.specs.Following.{HasAccepted, HasFollowed}
use Rattle.pr_wire.specs.Table.{fault_of}
use Rattle.pr_wire.proofs.Following.{accepted-followed}

-- the first edges were given and accepted, and end these frames
pub record IsAnalysed (edges : List Edge) (n : ℕ) (frames : List Frame) (f : TraceFollower) : Type 0 where
  pub followed : HasFollowed (take n edges) frames f
  pub count : f.taken ≡ n

pub analysed-none : (edges : List Edge) (frames : List Frame) (f : TraceFollower) → frames ≡ [] → f.refused ≡ None → HasAccepted [] [] f → f.taken ≡ 0 → IsAnalysed edges 0 frames f
analysed-none edges frames f e n h c = record { followed = rw e (accepted-followed [] [] f n h); count = c }

-- the first edges, with the next one
next : (edges : List Edge) (n : ℕ) (d : Edge) → n < length edges → take (n + 1) edges ≡ take n edges ++ get_or edges n d ∷ []
next edges n d h = rw (add-one, take-suc edges n d h) refl

-- one edge more was accepted, and its frame kept
pub analysed-next : (edges : List Edge) (n : ℕ) (frames kept : List Frame) (f g : TraceFollower) (d : Edge) (frame : Option Frame) → n < length edges → IsAnalysed edges n frames f
    → GoesOn f (get_or edges n d) frame g → g.taken ≡ f.taken + 1 → kept ≡ with_frame frames frame → IsAnalysed edges (n + 1) kept g
analysed-next edges n frames kept f g d frame h a t c k = record {
  followed = rw (next edges n d h, k) (t (take n edges) frames a.followed);
  count = c ∙ ap (λ m. m + 1) a.count;
}

-- or refused, with the fault of the whole list
pub analysed-fault : (edges : List Edge) (n : ℕ) (frames : List Frame) (f : TraceFollower) (d : Edge) (w : WaveFault) → n < length edges → IsAnalysed edges n frames f
    → ((es more : List Edge) (fs : List Frame) → HasFollowed es fs f → fault_of (es ++ get_or edges n d ∷ more) ≡ Some w) → fault_of edges ≡ Some w
analysed-fault edges n frames f d w h a t =
    let e : take n edges ++ get_or edges n d ∷ drop (n + 1) edges ≡ edges
    = sym (append_assoc (take n edges) (get_or edges n d ∷ []) (drop (n + 1) edges))
    ∙ (ap (λ l. l ++ drop (n + 1) edges) (sym (next edges n d h)) ∙ take-append-drop (n + 1) edges) in
    ap fault_of (sym e) ∙ t (take n edges) (drop (n + 1) edges) frames a.followed

-- at the end all were given
pub analysed-all : (edges : List Edge) (n : ℕ) (frames : List Frame) (f : TraceFollower) → length edges ≤ n → IsAnalysed edges n frames f → HasFollowed edges frames f
analysed-all edges n frames f h a = subst (λ l. HasFollowed l frames f) (take_all n edges h) a.followed

-- what holds of the fault that is handed on holds of the answer
pub handed_on : {A : Type 0} (v : Result A WaveFault) (w : WaveFault) (P : WaveFault → Type 0) → IsErrAnd v (λ x. x ≡ w) → P w → IfErr v P
handed_on (Ok x) w P h p = tt
handed_on (Err x) w P h p = rw h p
