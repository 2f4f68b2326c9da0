-- An input that is read whole.
use Rattle.std.proofs.Common.{◌≡◌, ℕ, ◌+◌, ◌<◌, List, [], ◌∷◌, ◌++◌, get_or, length, take, refl, ap, sym, subst, ◌∙◌, append-nil}
use Rattle.std.proofs.lemmas.List.{take_more}
use Rattle.std.specs.Prelude.{IfSome}
use Rattle.pr_wire.specs.declared.Edge.{Edge}
use Rattle.pr_capture.specs.declared.format.InputFormat.{InputFormat}
use Rattle.pr_capture.specs.declared.format.TraceInput.{TraceInput}
use Rattle.pr_jobs.specs.Begun.{CountsOn, HasBegun}
use Rattle.pr_jobs.specs.Inputs.{HasEdges, edges_in}
use Rattle.pr_jobs.specs.InputReads.{GivesEdges, SaysAll}
use Rattle.pr_jobs.specs.Report.{Says, IsOwnFault, edges_checked}
use Rattle.pr_jobs.specs.declared.beginning.Beginning.{Beginning}
use Rattle.pr_jobs.specs.declared.edge_reader.EdgeReader.{EdgeReader}
use Rattle.pr_jobs.specs.declared.edge_reader.LastEdges.{LastEdges}

-- what an input says that is one block
pub said_whole : (input : TraceInput) (bytes : List ℕ) (old new : EdgeReader) (last : LastEdges) → HasEdges input [] [] old → edges_in old ≡ []
    → GivesEdges bytes old new → SaysAll new last → Says input bytes last.edges.items last.fault × IfSome last.fault IsOwnFault
said_whole input bytes old new last known none gives says =
    let taken : HasEdges input bytes [] new = subst (λ given. HasEdges input bytes given new) none (gives input [] [] known) in
    subst (λ text. Says input text last.edges.items last.fault × IfSome last.fault IsOwnFault) (append-nil bytes) (says input bytes [] [] taken (λ h. refl))

-- one edge more is counted
pub counted_more : (source : InputFormat) (edges : List Edge) (i : ℕ) (d counted : Edge) (old new : Beginning) (there : List Edge) → i < length edges → HasBegun source (take i edges) old
    → there ≡ edges_checked source (take i edges) → CountsOn (get_or edges i d) counted old new
    → HasBegun source (take (i + 1) edges) new × (there ++ counted ∷ [] ≡ edges_checked source (take (i + 1) edges))
counted_more source edges i d counted old new there within begun is counts =
    let k = counts source (take i edges) begun in
    let more : take (i + 1) edges ≡ take i edges ++ get_or edges i d ∷ [] = take_more edges i d within in
    (subst (λ es. HasBegun source es new) (sym more) k.begun, ap (λ es. es ++ counted ∷ []) is ∙ (sym k.counts ∙ ap (edges_checked source) (sym more)))
