use Rattle.std.proofs.Common.{◌≡◌, ℕ, zero, suc, ◌+◌, false, List, [], ◌++◌, refl, sym, ap}
use Rattle.std.proofs.Common.{◌∙◌, append_assoc, append-nil, suc-add, Option, Some, None, slice_get}
use Rattle.std.proofs.Common.{inl, inr}
use Rattle.std.proofs.lemmas.Bool.{cases_Bool}
use Rattle.pr_interpreter.specs.declared.program.ProgramLine.{ProgramLine}
use Rattle.pr_run.specs.declared.outcome.Outcome.{Outcome}
use Rattle.pr_run.specs.declared.performed.Performed.{Performed}
use Rattle.pr_run.specs.declared.programs.Program.{Program}
use Rattle.pr_run.specs.Places.{found_at}
use Rattle.pr_run.specs.Memory.{fits}
use Rattle.pr_run.specs.RunLaws.{LimitsAgree, LimitsGoOn, is_limit}
use Rattle.pr_run.specs.Runs.{after_turn, ending_in, outcome, run, run_from}
use Rattle.pr_run.specs.States.{State, first_state}
use Rattle.pr_run.specs.Steps.{Ends, Goes, Turn, step}

-- ---- greater limits

-- a run that has come past the last line has ended, whatever is left
pub ended_stays : (p : Program) (limit : ℕ) (s : State) (found : Option ProgramLine)
    → slice_get p.lines s.place.line ≡ found → is_limit (ending_in found) ≡ false
    → run_from p limit s ≡ outcome [] (ending_in found) s.skipped_poke
unfolding run_from step found_at
ended_stays p limit s (Some l) e h = absurd (cc)
ended_stays p zero s None e h = rw e refl
ended_stays p (suc n) s None e h = rw e refl

-- where a turn leads is the same within a greater limit
turn_agrees : (p : Program) (n more : ℕ) (s : State) (t : Turn)
    → ((u : State) → is_limit (run_from p n u).ending ≡ false → run_from p (n + more) u ≡ run_from p n u)
    → is_limit (after_turn s t (λ u. run_from p n u)).ending ≡ false
    → after_turn s t (λ u. run_from p (n + more) u) ≡ after_turn s t (λ u. run_from p n u)
turn_agrees p n more s (Goes u done) same h =
    ap (λ (o : Outcome). outcome (done ++ o.performed) o.ending o.skipped_poke) (same u h)
turn_agrees p n more s (Ends done ending) same h = refl

-- a run that does not use up its limit is the same within a greater one
limits_agree : (p : Program) (limit more : ℕ) (s : State) → is_limit (run_from p limit s).ending ≡ false
    → run_from p (limit + more) s ≡ run_from p limit s
unfolding run_from
limits_agree p zero more s h = ended_stays p (zero + more) s (slice_get p.lines s.place.line) refl h
limits_agree p (suc n) more s h =
    rw (suc-add n more) (turn_agrees p n more s (step p s) (λ u g. limits_agree p n more u g) h)

-- what is performed first, and then more
abbrev Begins : List Performed → List Performed → Type 0
Begins first all = (rest : List Performed) × (all ≡ first ++ rest)

turn_goes_on : (p : Program) (n more : ℕ) (s : State) (t : Turn)
    → ((u : State) → Begins (run_from p n u).performed (run_from p (n + more) u).performed)
    → Begins (after_turn s t (λ u. run_from p n u)).performed (after_turn s t (λ u. run_from p (n + more) u)).performed
turn_goes_on p n more s (Goes u done) same =
    let r = same u in
    (r.0, ap (λ (ps : List Performed). done ++ ps) r.1 ∙ sym (append_assoc done (run_from p n u).performed r.0))
turn_goes_on p n more s (Ends done ending) same = ([], sym (append-nil done))

-- within a greater limit a run performs the same, and then perhaps more
limits_go_on : (p : Program) (limit more : ℕ) (s : State)
    → Begins (run_from p limit s).performed (run_from p (limit + more) s).performed
unfolding run_from
limits_go_on p zero more s = ((run_from p (zero + more) s).performed, refl)
limits_go_on p (suc n) more s =
    rw (suc-add n more) (turn_goes_on p n more s (step p s) (λ u. limits_go_on p n more u))

-- ---- runs of programs

pub runs_agree : LimitsAgree
unfolding run
runs_agree p limit more h =
    elim (cases_Bool (fits p first_state)) [
      | inl hit ↦ let g = rw hit at h in rw hit (limits_agree p limit more first_state g)
      | inr miss ↦ rw miss refl
    ]

pub runs_go_on : LimitsGoOn
unfolding run
runs_go_on p limit more =
    elim (cases_Bool (fits p first_state)) [
      | inl hit ↦ rw hit (limits_go_on p limit more first_state)
      | inr miss ↦ rw miss ([], refl)
    ]
