-- Edges that are counted from the first.
use Rattle.std.proofs.Common.{◌≡◌, ℕ, ◌-◌, List, [], ◌∷◌, ◌++◌, map, refl, ap, arith, sym, ◌∙◌, Some}
use Rattle.std.specs.Prelude.{unwrap_or}
use Rattle.std.proofs.lemmas.List.{map-append}
use Rattle.pr_wire.specs.declared.Edge.{Edge}
use Rattle.pr_wire.specs.declared.Levels.{Levels}
use Rattle.pr_capture.specs.Samples.{counted_from}
use Rattle.pr_capture.specs.declared.format.InputFormat.{InputFormat}
use Rattle.pr_capture.specs.declared.format.InputFormat.TheVariants as source
use Rattle.pr_jobs.specs.Begun.{CountsOn, HasBegun, HasCountedOn, HasKept, KeepsTimes, first_time}
use Rattle.pr_jobs.specs.Report.{counted_from_first}
use Rattle.pr_jobs.specs.declared.beginning.Beginning.{Beginning}

-- one edge more of a recording
first_more : (edges : List Edge) (e : Edge) → Some (unwrap_or (first_time edges) e.time) ≡ first_time (edges ++ e ∷ [])
first_more [] e = refl
first_more (f ∷ edges) e = refl

counted_more : (edges : List Edge) (e : Edge) → counted_from_first (edges ++ e ∷ []) ≡ counted_from_first edges ++ counted_from (unwrap_or (first_time edges) e.time) e ∷ []
counted_more [] e = refl
counted_more (f ∷ edges) e = ap (λ l. counted_from f.time f ∷ l) (map-append (counted_from f.time) edges (e ∷ []))

abbrev pub edge_at : ℕ → Levels → Edge
edge_at t l = record { time = t; levels = l }

-- an edge that counts from 0
as_it_is : (e : Edge) → counted_from 0 e ≡ e
as_it_is e = let same : e.time - 0 ≡ e.time = omega (arith) in ap (λ t. edge_at t e.levels) same

pub counts_on : (e : Edge) (t : ℕ) (old new : Beginning) → t ≡ e.time - unwrap_or old.moment e.time → new.moment ≡ Some (unwrap_or old.moment e.time)
    → CountsOn e (edge_at t e.levels) old new
counts_on e t old new is was s edges h = by s h
  where
    counted : (m : ℕ) → unwrap_or old.moment e.time ≡ m → edge_at t e.levels ≡ counted_from m e
    counted m k = ap (λ u. edge_at u e.levels) (is ∙ ap (λ n. e.time - n) k)

    by : (s : InputFormat) → HasBegun s edges old → HasCountedOn s edges e (edge_at t e.levels) new
    by source.Text h = record {
      begun = was ∙ ap (λ m. Some (unwrap_or m e.time)) h;
      counts = ap (λ c. edges ++ c ∷ []) (sym (counted 0 (ap (λ m. unwrap_or m e.time) h) ∙ as_it_is e));
    }
    by source.Csv h = record {
      begun = was ∙ (ap (λ m. Some (unwrap_or m e.time)) h ∙ first_more edges e);
      counts = counted_more edges e ∙ ap (λ c. counted_from_first edges ++ c ∷ []) (sym (counted _ (ap (λ m. unwrap_or m e.time) h)));
    }
    by source.Vcd h = record {
      begun = was ∙ (ap (λ m. Some (unwrap_or m e.time)) h ∙ first_more edges e);
      counts = counted_more edges e ∙ ap (λ c. counted_from_first edges ++ c ∷ []) (sym (counted _ (ap (λ m. unwrap_or m e.time) h)));
    }

-- edges of a recording whose first has time 0
all_as_they_are : (es : List Edge) → map (counted_from 0) es ≡ es
all_as_they_are [] = refl
all_as_they_are (e ∷ es) = ap (λ f. f ∷ map (counted_from 0) es) (as_it_is e) ∙ ap (λ l. e ∷ l) (all_as_they_are es)

first_at_zero : (edges more : List Edge) → first_time edges ≡ Some 0 → first_time (edges ++ more) ≡ Some 0
first_at_zero [] more h = absurd (cc)
first_at_zero (e ∷ edges) more h = h

counted_at_zero : (edges more : List Edge) → first_time edges ≡ Some 0 → counted_from_first (edges ++ more) ≡ counted_from_first edges ++ more
counted_at_zero [] more h = absurd (cc)
counted_at_zero (e ∷ edges) more h =
    let zero : e.time ≡ 0 = cc in
    ap (λ l. counted_from e.time e ∷ l) (map-append (counted_from e.time) edges more)
    ∙ ap (λ l. (counted_from e.time e ∷ map (counted_from e.time) edges) ++ l) (ap (λ t. map (counted_from t) more) zero ∙ all_as_they_are more)

pub keeps_times : (b : Beginning) → b.moment ≡ Some 0 → KeepsTimes b
keeps_times b is = λ s edges more h. by s edges more h
  where
    by : (s : InputFormat) (edges more : List Edge) → HasBegun s edges b → HasKept s edges more b
    by source.Text edges more h = record { begun = is; counts = refl }
    by source.Csv edges more h = record {
      begun = is ∙ sym (first_at_zero edges more (sym h ∙ is));
      counts = counted_at_zero edges more (sym h ∙ is);
    }
    by source.Vcd edges more h = record {
      begun = is ∙ sym (first_at_zero edges more (sym h ∙ is));
      counts = counted_at_zero edges more (sym h ∙ is);
    }
