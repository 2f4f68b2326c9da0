-- What one printer owes to the other.
use Rattle.std.proofs.Common.{◌≡◌, ℕ, ◌+◌, Bool, true, false, cond, ◌==◌, Option, Some, None, List, [], ◌∷◌, ◌++◌, refl, sym, ap, subst, arith, ◌∙◌}
use Rattle.pr_serial.specs.declared.Present.{Present}
use Rattle.pr_serial.specs.Elements.{Element}
use Rattle.pr_serial.specs.Items.{items_of}
use Rattle.pr_serial.specs.Answers.{is_lacking}
use Rattle.pr_channels.specs.declared.faults.Stop.{Stop}
use Rattle.pr_channels.specs.declared.file.File.{File}
use Rattle.pr_channels.specs.Files.{Files}
use Rattle.pr_channels.specs.Commands.{listen_to}
use Rattle.pr_channels.specs.Table.{IsTable}
use Rattle.pr_basic.specs.declared.statement.Statement.{Statement}
use Rattle.pr_basic.specs.Statements.{Effect, is_missing, effect_of}
use Rattle.pr_basic.specs.Runs.{Run, run_after, run_from, found_of, status_of}
use Rattle.pr_basic.specs.declared.session.StatusMode.{StatusMode}
use Rattle.pr_basic.specs.declared.session.StatusMode.TheVariants.{Each, Kept}
use Rattle.pr_page.specs.Evaluator.{page_of}
use Rattle.pr_system.specs.Without.{files_after, is_left_out, without_from, AreAddressed}
use Rattle.pr_system.specs.Laws.{Isolation, IsolatedPages}
use Rattle.pr_system.proofs.AbsentLemmas.{OnlyPage}
use Rattle.pr_system.proofs.FileLemmas.{rest_of}
use Rattle.pr_system.proofs.ApartLemmas.{Apart, apart_begins, lacking_same}
use Rattle.pr_system.proofs.StepLemmas.{Laws, standing, table_after, step_both, step_alone}

-- the second run has no stop either, and is apart from the first
record AreApart (present : Present) (left_out : ℕ) (one two : Run) : Type 0 where
  goes_on : two.stop ≡ None
  apart : Apart present left_out one.elements two.elements

-- the run goes on with what is left
record IsPassed (place : ℕ) (before : List Element) (status : ℕ) (e : Effect) (rest : Run) : Type 0 where
  none : e.stop ≡ None
  later : rest.stop ≡ None
  elements : (run_after place before status e e.stop rest).elements ≡ rest.elements

-- by its stop: a run whose statement and rest have none has passed that statement
goes_at : (place : ℕ) (before : List Element) (status : ℕ) (e : Effect) (rest : Run) (stop : Option Stop) → e.stop ≡ stop → (run_after place before status e stop rest).stop ≡ None → IsPassed place before status e rest
goes_at place before status e rest None is none = record { none = is; later = none; elements = ap (λ s. (run_after place before status e s rest).elements) is }
goes_at place before status e rest (Some stop) is none = let clash : Some (place, stop) ≡ None = none in absurd (cc clash)

-- a run without a stop has passed its first statement
goes : (place : ℕ) (before : List Element) (status : ℕ) (e : Effect) (rest : Run) → (run_after place before status e e.stop rest).stop ≡ None → IsPassed place before status e rest
goes place before status e rest none = goes_at place before status e rest e.stop refl none

-- a status that is not 128
status_splits : (lacking : Bool) (n : ℕ) → (cond lacking 128 n == 128) ≡ false → (lacking ≡ false) × ((n == 128) ≡ false)
status_splits true n h = let clash : true ≡ false = h in absurd (cc clash)
status_splits false n h = (refl, h)

-- a status of 0 stays one where nothing more lacks an answer
kinder_at : (one two : Bool) → (one ≡ false → two ≡ false) → (cond one 128 0 == 128) ≡ false → (cond two 128 0 == 128) ≡ false
kinder_at true two kinder clear = let clash : true ≡ false = clear in absurd (cc clash)
kinder_at false two kinder clear = ap (λ b. cond b 128 0 == 128) (kinder refl)

-- where the first run finds no status, the second finds none either
found_kinder : (mode : StatusMode) (present : Present) (left_out : ℕ) (one two : List Element) → Apart present left_out one two → (found_of mode present one == 128) ≡ false → (found_of mode present two == 128) ≡ false
found_kinder Each present left_out one two apart clear = clear
found_kinder Kept present left_out one two apart clear = kinder_at (is_lacking present 0 (items_of one)) (is_lacking present 0 (items_of two)) apart.kinder clear

-- a device that is not missing in the first run is not missing in the second either
missing_kinder : Laws → (mode : StatusMode) (present : Present) (left_out : ℕ) (one two : List Element) → Apart present left_out one two → (file : File) → is_missing mode present one file ≡ false → is_missing mode present two file ≡ false
missing_kinder laws mode present left_out one two apart file there =
    let parts = status_splits _ (found_of mode present one) (laws.missing mode present one file ∙ there) in
    sym (laws.missing mode present two file)
    ∙ ap (λ b. cond b 128 (found_of mode present two) == 128) (sym (lacking_same laws.bus present left_out one two (listen_to file ∷ []) apart) ∙ parts.0)
    ∙ found_kinder mode present left_out one two apart parts.1

-- the law from any place on
abbrev Holds : StatusMode → Present → ℕ → List Statement → Type 0
Holds mode present left_out statements =
    (p q : ℕ) (files : Files) (one two : List Element) → IsTable files → Apart present left_out one two → AreAddressed statements
    → (run_from mode present p one (standing files) statements).stop ≡ None
    → AreApart present left_out (run_from mode present p one (standing files) statements) (run_from mode present q two (standing (rest_of left_out files)) (without_from left_out files statements))

-- one statement more in front, left out or not
holds_cons : Laws → (mode : StatusMode) (present : Present) (left_out : ℕ) (statement : Statement) (statements : List Statement) → Holds mode present left_out statements
    → (p q : ℕ) (files : Files) (one two : List Element) (out : Bool) → is_left_out left_out files statement ≡ out → IsTable files → Apart present left_out one two → AreAddressed (statement ∷ statements)
    → (run_from mode present p one (standing files) (statement ∷ statements)).stop ≡ None
    → AreApart present left_out (run_from mode present p one (standing files) (statement ∷ statements)) (run_from mode present q two (standing (rest_of left_out files)) (cond out (without_from left_out (files_after files statement) statements) (statement ∷ without_from left_out (files_after files statement) statements)))
holds_cons laws mode present left_out statement statements later p q files one two true out table apart addressed none =
    let e = effect_of (is_missing mode present one) (standing files) statement in
    let first = goes p one (status_of present (found_of mode present one) one (one ++ e.elements)) e (run_from mode present (p + 1) (one ++ e.elements) e.after statements) none in
    let step = step_alone laws present left_out (is_missing mode present one) files one two statement table apart addressed.0 first.none out in
    let goes_later = ap (λ at. (run_from mode present (p + 1) (one ++ e.elements) at statements).stop) (sym step.after_one) ∙ first.later in
    let rest = later (p + 1) q (files_after files statement) (one ++ e.elements) two (table_after laws files statement table) step.apart addressed.1 goes_later in
    record {
      goes_on = ap (λ fs. (run_from mode present q two (standing fs) (without_from left_out (files_after files statement) statements)).stop) (sym step.rest) ∙ rest.goes_on;
      apart =
          let P : List Element → Type 0 = λ xs. Apart present left_out xs (run_from mode present q two (standing (rest_of left_out files)) (without_from left_out (files_after files statement) statements)).elements in
          let Q : Files → Type 0 = λ fs. Apart present left_out (run_from mode present (p + 1) (one ++ e.elements) (standing (files_after files statement)) statements).elements (run_from mode present q two (standing fs) (without_from left_out (files_after files statement) statements)).elements in
          subst P (ap (λ at. (run_from mode present (p + 1) (one ++ e.elements) at statements).elements) (sym step.after_one) ∙ sym first.elements) (subst Q step.rest rest.apart);
    }
holds_cons laws mode present left_out statement statements later p q files one two false out table apart addressed none =
    let e = effect_of (is_missing mode present one) (standing files) statement in
    let f = effect_of (is_missing mode present two) (standing (rest_of left_out files)) statement in
    let left = without_from left_out (files_after files statement) statements in
    let first = goes p one (status_of present (found_of mode present one) one (one ++ e.elements)) e (run_from mode present (p + 1) (one ++ e.elements) e.after statements) none in
    let step = step_both laws present left_out (is_missing mode present one) (is_missing mode present two) files one two statement table apart (missing_kinder laws mode present left_out one two apart) addressed.0 first.none out in
    let goes_later = ap (λ at. (run_from mode present (p + 1) (one ++ e.elements) at statements).stop) (sym step.after_one) ∙ first.later in
    let rest = later (p + 1) (q + 1) (files_after files statement) (one ++ e.elements) (two ++ f.elements) (table_after laws files statement table) step.apart addressed.1 goes_later in
    let whole : run_after q two (status_of present (found_of mode present two) two (two ++ f.elements)) f f.stop (run_from mode present (q + 1) (two ++ f.elements) f.after left) ≡ run_after q two (status_of present (found_of mode present two) two (two ++ f.elements)) f None (run_from mode present (q + 1) (two ++ f.elements) (standing (rest_of left_out (files_after files statement))) left) =
    ap (λ s. run_after q two (status_of present (found_of mode present two) two (two ++ f.elements)) f s (run_from mode present (q + 1) (two ++ f.elements) f.after left)) step.goes_on
    ∙ ap (λ at. run_after q two (status_of present (found_of mode present two) two (two ++ f.elements)) f None (run_from mode present (q + 1) (two ++ f.elements) at left)) step.after_two in
    record {
      goes_on = ap (λ (r : Run). r.stop) whole ∙ rest.goes_on;
      apart =
          let P : List Element → Type 0 = λ xs. Apart present left_out xs (run_after q two (status_of present (found_of mode present two) two (two ++ f.elements)) f f.stop (run_from mode present (q + 1) (two ++ f.elements) f.after left)).elements in
          let Q : List Element → Type 0 = λ xs. Apart present left_out (run_from mode present (p + 1) (one ++ e.elements) (standing (files_after files statement)) statements).elements xs in
          subst P (ap (λ at. (run_from mode present (p + 1) (one ++ e.elements) at statements).elements) (sym step.after_one) ∙ sym first.elements) (subst Q (sym (ap (λ (r : Run). r.elements) whole)) rest.apart);
    }

-- the law of every list of statements
holds : Laws → (mode : StatusMode) (present : Present) (left_out : ℕ) (statements : List Statement) → Holds mode present left_out statements
holds laws mode present left_out [] = λ p q files one two table apart addressed none. record { goes_on = refl; apart = apart }
holds laws mode present left_out (statement ∷ statements) = λ p q files one two table apart addressed none.
    holds_cons laws mode present left_out statement statements (holds laws mode present left_out statements) p q files one two (is_left_out left_out files statement) refl table apart addressed none

-- without one device the others hear the same
pub isolation : Laws → Isolation
isolation laws = λ left_out mode present statements addressed none.
    let apart = holds laws mode present left_out statements 1 1 [] [] [] ((record { once = tt; few = omega arith })) (apart_begins present left_out) addressed none in
    record { goes_on = apart.goes_on; same = λ device other. sym (apart.apart.same device other) }

-- so their pages are the same
pub isolated_pages : Isolation → OnlyPage → IsolatedPages
isolated_pages isolation only = λ left_out mode present statements all rest addressed none is_all is_rest.
    let spared = isolation left_out mode present statements addressed none in (
      λ other. only _ rest.paper4 is_rest.paper4 ∙ ap page_of (spared.same 4 other) ∙ sym (only _ all.paper4 is_all.paper4),
      λ other. only _ rest.paper5 is_rest.paper5 ∙ ap page_of (spared.same 5 other) ∙ sym (only _ all.paper5 is_all.paper5),
    )
