use Rattle.std.proofs.Common.{◌≡◌, inl, inr, ℕ, ◌+◌, ◌-◌, ◌<◌, ◌≤◌, Bool, true, false, arith, List, [], ◌++◌, refl, sym}
use Rattle.std.proofs.Common.{ap, ◌∙◌}
use Rattle.std.proofs.Common.{add-one, append_assoc, append-nil, Option, Some, None}
use Rattle.std.specs.List.{slice_get}
use Rattle.std.specs.Option.{option_to_list}
use Rattle.pr_run.specs.declared.ending.Ending.{Ending}
use Rattle.pr_run.specs.declared.ending.Ending.TheVariants.{Refused}
use Rattle.pr_run.specs.declared.ending.Refusal.TheVariants.{FullMemory}
use Rattle.pr_run.specs.declared.outcome.Outcome.{Outcome}
use Rattle.pr_run.specs.declared.performed.Performed.{Performed}
use Rattle.pr_run.specs.declared.programs.Program.{Program}
use Rattle.pr_run.specs.declared.state.Run.{Run}
use Rattle.pr_run.specs.declared.steps.Done.{Done}
use Rattle.pr_run.specs.Endings.{is_memory}
use Rattle.pr_run.specs.Memory.{fits}
use Rattle.pr_run.specs.Runs.{after_turn, ending_in, outcome, run, run_from}
use Rattle.pr_run.specs.Seen.{LeadsOn, TurnEndsAs, joined, rest_of, state_of, turned, turned_by}
use Rattle.pr_run.specs.States.{State, first_state}
use Rattle.pr_run.specs.Steps.{Ends, step}

-- what was performed before joins what a turn leads to
turn_joins : (p : Program) (n : ℕ) (before done : List Performed) (ending : Option Ending) (old new : Run)
    → joined before (after_turn (state_of old) (turned_by done ending (state_of new)) (λ t. run_from p n t))
    ≡ rest_of p n old (before ++ done) ending new
turn_joins p n before done None old new =
    let rest = run_from p n (state_of new) in
    sym (ap (λ (ps : List Performed). outcome ps rest.ending rest.skipped_poke)
    (append_assoc before done rest.performed))
turn_joins p n before done (Some e) old new = refl

-- a step leads on
pub step_leads : (p : Program) (before after : List Performed) (old new : Run) (d : Done)
    → step p (state_of old) ≡ turned d new → after ≡ before ++ option_to_list d.performed
    → LeadsOn p before old after new d.ending
unfolding run_from
step_leads p before after old new d e put n = rw (add-one, e, put) (turn_joins p n before _ d.ending old new)

-- a step that ends the run leads on
step_ended : (p : Program) (before : List Performed) (old new : Run) (ending : Ending)
    → step p (state_of old) ≡ Ends [] ending → LeadsOn p before old before new (Some ending)
unfolding run_from
step_ended p before old new ending e n =
    rw (add-one, e) (ap (λ (ps : List Performed). outcome ps ending old.skipped_poke) (append-nil before))

-- memory did not run out
pub step_stops : (p : Program) (before : List Performed) (old new : Run) (ending : Ending)
    → TurnEndsAs ending (step p (state_of old)) → is_memory ending ≡ false
    → LeadsOn p before old before new (Some ending)
step_stops p before old new ending (inl none) given = let clash = rw none at given in absurd (cc)
step_stops p before old new ending (inr e) given = step_ended p before old new ending e

-- ---- runs

-- there is the memory for a program, and its run begins
pub run_begins : (p : Program) (limit : ℕ) (performed : List Performed) (r : Run) (b : Bool) → performed ≡ []
    → state_of r ≡ first_state → b ≡ fits p (state_of r) → b ≡ true
    → joined performed (run_from p limit (state_of r)) ≡ run limit p
unfolding run
run_begins p limit performed r b none first test hit =
    let enough : fits p first_state ≡ true = ap (λ (s : State). fits p s) (sym first) ∙ (sym test ∙ hit) in
    let whole : run_from p limit first_state ≡ run limit p = rw enough refl in
    ap (λ (s : State). joined performed (run_from p limit s)) first
    ∙ (ap (λ (ps : List Performed). joined ps (run_from p limit first_state)) none ∙ whole)

-- there may be none
pub run_refused : (p : Program) (limit : ℕ) (performed : List Performed) (r : Run) (b : Bool) → performed ≡ []
    → state_of r ≡ first_state → b ≡ fits p (state_of r) → b ≡ false
    → outcome performed (Refused FullMemory 0) None ≡ run limit p
unfolding run
run_refused p limit performed r b none first test miss =
    let few : fits p first_state ≡ false = ap (λ (s : State). fits p s) (sym first) ∙ (sym test ∙ miss) in
    let whole : outcome [] (Refused FullMemory 0) None ≡ run limit p = rw few refl in
    ap (λ (ps : List Performed). outcome ps (Refused FullMemory 0) None) none ∙ whole

-- one of the steps that are left is done
pub runs_on : (p : Program) (left : ℕ) (before after : List Performed) (old new : Run) (whole : Outcome) → 0 < left
    → LeadsOn p before old after new None → joined before (run_from p left (state_of old)) ≡ whole
    → joined after (run_from p (left - 1) (state_of new)) ≡ whole
runs_on p left before after old new whole h leads all =
    let same : left - 1 + 1 ≡ left = omega arith in
    sym (leads (left - 1)) ∙ (ap (λ (n : ℕ). joined before (run_from p n (state_of old))) same ∙ all)

-- it ends the run
pub runs_ended : (p : Program) (left : ℕ) (before after : List Performed) (old new : Run) (ending : Ending)
    (whole : Outcome) → 0 < left → LeadsOn p before old after new (Some ending)
    → joined before (run_from p left (state_of old)) ≡ whole → outcome after ending old.skipped_poke ≡ whole
runs_ended p left before after old new ending whole h leads all =
    let same : left - 1 + 1 ≡ left = omega arith in
    sym (leads (left - 1)) ∙ (ap (λ (n : ℕ). joined before (run_from p n (state_of old))) same ∙ all)

-- no step is left
pub runs_out : (p : Program) (left : ℕ) (before : List Performed) (r : Run) (whole : Outcome) → left ≤ 0
    → joined before (run_from p left (state_of r)) ≡ whole
    → outcome before (ending_in (slice_get p.lines r.place.line)) r.skipped_poke ≡ whole
unfolding run_from
runs_out p left before r whole h all =
    let none : left ≡ 0 = omega arith in
    let last : joined before (run_from p 0 (state_of r)) ≡ whole =
    ap (λ (n : ℕ). joined before (run_from p n (state_of r))) (sym none) ∙ all in
    let ends = ending_in (slice_get p.lines r.place.line) in
    sym (ap (λ (ps : List Performed). outcome ps ends r.skipped_poke) (append-nil before)) ∙ last
