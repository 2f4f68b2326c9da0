-- What follows of what a call gives, and of an input that has ended.
use Rattle.std.proofs.Common.{◌≡◌, ℕ, List, ◌++◌, append_assoc, ap, ◌∙◌, Option, Result, Ok, Err}
use Rattle.std.specs.Prelude.{IfOk}
use Rattle.pr_wire.specs.declared.Edge.{Edge}
use Rattle.pr_jobs.specs.InputReads.{EndsInputs}
use Rattle.pr_jobs.specs.EdgesTaken.{EndsReading}
use Rattle.pr_jobs.specs.declared.edge_reader.LastEdges.{LastEdges}
use Rattle.pr_jobs.specs.declared.input_reader.InputReader.{InputReader}
use Rattle.pr_jobs.specs.declared.fault.CliFault.{CliFault}

-- what holds where a call went well holds of what follows from it
pub if_ok : {X E : Type 0} (r : Result X E) (P Q : X → Type 0) → IfOk r P → ((x : X) → P x → Q x) → IfOk r Q
if_ok (Ok x) P Q p f = f x p
if_ok (Err e) P Q p f = tt

-- what follows for whoever takes the last edges of an input too
pub reading_ends : (r : InputReader) (last : LastEdges) (taken : List Edge → Type 0) (follows : List Edge → Option CliFault → Type 0) → EndsInputs r last
    → ((given : List Edge) → taken given → follows (given ++ last.edges.items) last.fault) → EndsReading r taken follows
reading_ends r last taken follows ends after = λ limit start now input given h t.
    let e = ends limit start now input given h in
    record {
      edges = e.edges;
      fault = e.fault;
      own = e.own;
      kept = e.kept;
      says = e.says;
      follows = rw (e.follows.0, e.follows.1) (after given t);
    }

-- three parts of a text
pub three_parts : (t0 t1 t2 t3 a b c : List ℕ) → t1 ≡ t0 ++ a → t2 ≡ t1 ++ b → t3 ≡ t2 ++ c → t3 ≡ t0 ++ (a ++ (b ++ c))
three_parts t0 t1 t2 t3 a b c first second third =
    third
    ∙ (ap (λ t. t ++ c) second
    ∙ (ap (λ t. (t ++ b) ++ c) first ∙ (append_assoc (t0 ++ a) b c ∙ append_assoc t0 a (b ++ c))))
