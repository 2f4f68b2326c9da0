use Rattle.std.proofs.Common.{◌≡◌, ℕ, Bool, List, sym, ap, Result, Ok, Err}
use Rattle.pr_interpreter.specs.declared.expressions.Placed.{Placed}
use Rattle.pr_interpreter.specs.declared.memory.Arrays.{Arrays}
use Rattle.pr_interpreter.specs.declared.values.Halt.{Halt}
use Rattle.pr_interpreter.specs.declared.values.Stop.{Stop}
use Rattle.pr_interpreter.specs.declared.values.Value.{Value}
use Rattle.pr_interpreter.specs.Evaluation.{evaluation}
use Rattle.pr_run.specs.declared.place.Place.{Place}
use Rattle.pr_run.specs.declared.programs.Program.{Program}
use Rattle.pr_run.specs.declared.uses.Use.{Use}
use Rattle.pr_run.specs.States.{State}
use Rattle.pr_run.specs.Uses.{Valued, Worked, line_at, truth_of, use_of, used}
use Rattle.pr_run.specs.Worked.{scope, then_on, truth, valued, worked, worked_out}

abbrev pub a_truth : Bool → State → Worked (Valued Bool)
a_truth b s = Ok (record { value = b; after = s })

abbrev place_of : Worked (Valued Bool) → Place → Place
place_of (Ok r) place = r.after.place
place_of (Err ending) place = place

valued_place : (s t : State) (u : Use) (answer : Result Bool Stop) (b : Bool) → valued s (used u answer) ≡ a_truth b t
    → t.place ≡ s.place
valued_place s t u (Ok a) b e =
    ap (λ (w : Worked (Valued Bool)). place_of w s.place) (sym e)
valued_place s t u (Err stop) b e = absurd (cc)

worked_place : (p : Program) (s t : State) (nodes : List Placed) (line : ℕ) (arrays : Arrays)
    (found : Result Value Halt) (b : Bool)
    → then_on (worked_out line s arrays found) (λ v r. valued r (used (use_of p r nodes) (truth_of v))) ≡ a_truth b t
    → t.place ≡ s.place
worked_place p s t nodes line arrays (Ok v) b e =
    valued_place (record s { arrays = arrays }) t (use_of p (record s { arrays = arrays }) nodes) (truth_of v) b e
worked_place p s t nodes line arrays (Err halt) b e = absurd (cc)

-- a condition leaves the place
pub truth_place : (p : Program) (s t : State) (nodes : List Placed) (b : Bool) → truth p s nodes ≡ a_truth b t
    → t.place ≡ s.place
unfolding truth worked
truth_place p s t nodes b e =
    let v = evaluation (scope p s) s.arrays nodes in
    worked_place p s t nodes (line_at p s) v.arrays v.value b e
