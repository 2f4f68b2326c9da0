-- Edges that are made of samples.
use Rattle.std.proofs.Common.{◌≡◌, ℕ, ◌==◌, Bool, true, false, List, [], ◌∷◌, ◌++◌, refl, ap, sym, subst, ◌∙◌, append-nil, append_assoc, if◌then◌else◌, Option, Some, None}
use Rattle.std.specs.Option.{option_to_list}
use Rattle.pr_wire.specs.declared.Edge.{Edge}
use Rattle.pr_capture.specs.declared.edge_detector.EdgeDetector.{EdgeDetector}
use Rattle.pr_capture.specs.declared.pulse_filter.PulseFilter.{PulseFilter}
use Rattle.pr_capture.specs.Gathering as gathering
use Rattle.pr_capture.specs.Gathers.{GathersMore, GathersRepeats}
use Rattle.pr_capture.specs.Pulses.{without_pulses}
use Rattle.pr_capture.specs.Samples.{edges_of, listed}
use Rattle.pr_capture.specs.Sifting as sifting
use Rattle.pr_capture.specs.declared.format.InputFormat.{InputFormat}
use Rattle.pr_capture.specs.declared.format.InputFormat.TheVariants as source
use Rattle.pr_capture.specs.declared.format.TraceInput.{TraceInput}
use Rattle.pr_jobs.specs.Report.{edges_found, edges_made, steadied}
use Rattle.pr_jobs.specs.InputReads.{MakesAll, MakesMore, MakesNone}
use Rattle.pr_jobs.specs.Sources.{FindsAll, FindsMore, HasGathered, HasMade, HasSteadied, MadeEdgesComeFirst, SteadiesAll, SteadiesMore}
use Rattle.pr_jobs.specs.declared.edge_maker.EdgeMaker.{EdgeMaker}

-- an edge as a list of one, in two words
listed_same : (e : Option Edge) → listed e ≡ option_to_list e
listed_same None = refl
listed_same (Some e) = refl

pub found_none : (input : TraceInput) (g : EdgeDetector) → (input.source ≡ source.Text → ⊥) → gathering.HasGathered input.start [] [] g → HasGathered input [] [] (Some g)
found_none input g n h = (by input.source refl, h)
  where
    by : (s : InputFormat) → input.source ≡ s → (ss : List Edge) → edges_found input.source input.start ss ≡ edges_of input.start ss
    by source.Text e ss = absurd (n e)
    by source.Csv e ss = rw e refl
    by source.Vcd e ss = rw e refl

-- one sample more, and the edge that is found by it, if any
pub finds_gathered : (s : Edge) (e : Option Edge) (g h : EdgeDetector) → GathersMore (s ∷ []) (listed e) g h → FindsMore s (Some g) e (Some h)
finds_gathered s e g h more = λ input samples found k.
    let P : List Edge → Type 0 = λ l. gathering.HasGathered input.start (samples ++ s ∷ []) (found ++ l) h in
    (k.0, subst P (listed_same e) (more input.start samples found k.1))

pub finds_kept : (s : Edge) → FindsMore s None (Some s) None
finds_kept s = λ input samples found k. (k.0, ap (λ l. l ++ s ∷ []) k.1)

-- and the last
pub finds_all : (g : EdgeDetector) (last : Option Edge)
    → ((start : ℕ) (ss es : List Edge) → gathering.HasGathered start ss es g → edges_of start ss ≡ es ++ listed last) → FindsAll (Some g) last
finds_all g last ends = λ input samples found h. h.0 samples ∙ (ends input.start samples found h.1 ∙ ap (λ l. found ++ l) (listed_same last))

pub finds_same : FindsAll None None
finds_same = λ input samples found h.
    let same : edges_found input.source input.start samples ≡ found = rw h.0 (sym h.1) in
    same ∙ sym (append-nil found)

-- no edge was taken
pub steadied_none : (pulse : ℕ) → pulse ≡ 0 → HasSteadied pulse [] [] None
steadied_none pulse z = (z, refl)

pub steadied_new : (pulse : ℕ) (f : PulseFilter) → (pulse == 0) ≡ false → sifting.HasSifted pulse [] [] f → HasSteadied pulse [] [] (Some f)
steadied_new pulse f n h = ((λ es. rw n refl), h)

-- no edge more
pub steadies_none : (f : Option PulseFilter) → SteadiesMore None f None f
steadies_none f = λ pulse found edges h.
    let P : List Edge → List Edge → Type 0 = λ es gs. HasSteadied pulse es gs f in
    subst (λ gs. P (found ++ []) gs) (sym (append-nil edges)) (subst (λ es. P es edges) (sym (append-nil found)) h)

-- one edge more
pub steadies_sifted : (e : Edge) (known : Option Edge) (f g : PulseFilter) → sifting.SiftsMore e (listed known) f g → SteadiesMore (Some e) (Some f) known (Some g)
steadies_sifted e known f g more = λ pulse found edges h.
    let P : List Edge → Type 0 = λ l. sifting.HasSifted pulse (found ++ e ∷ []) (edges ++ l) g in
    (h.0, subst P (listed_same known) (more pulse found edges h.1))

pub steadies_kept : (e : Edge) → SteadiesMore (Some e) None (Some e) None
steadies_kept e = λ pulse found edges h. (h.0, ap (λ l. l ++ e ∷ []) h.1)

-- and the last
pub steadies_all : (f : PulseFilter) (there all : List Edge)
    → ((pulse : ℕ) (found before : List Edge) → sifting.HasSifted pulse found (before ++ there) f → without_pulses pulse found ≡ before ++ all) → SteadiesAll (Some f) there all
steadies_all f there all ends = λ pulse found before h. h.0 found ∙ ends pulse found before h.1

pub steadies_same : (there : List Edge) → SteadiesAll None there there
steadies_same there = λ pulse found before h. rw h.0 (sym h.1)

-- a sample more makes an edge known, if one
pub makes_more : (s : Edge) (found known : Option Edge) (old new : EdgeMaker) → FindsMore s old.detector found new.detector → SteadiesMore found old.filter known new.filter → MakesMore s old known new
makes_more s found known old new finds steadies = λ input samples edges h. record {
  found = h.found ++ option_to_list found;
  gathered = finds input samples h.found h.gathered;
  is_steadied = steadies input.pulse h.found edges h.is_steadied;
}

-- samples that make no edge
pub makes_none : (last : Edge) (old new : EdgeMaker) (g h : EdgeDetector) → old.detector ≡ Some g → new.detector ≡ Some h → new.filter ≡ old.filter → GathersRepeats last g h → MakesNone last old new
makes_none last old new g h is was same more = λ between have input samples edges m.
    let k : HasGathered input samples m.found (Some g) = rw is at m.gathered in
    let l : gathering.HasGathered input.start (samples ++ (between ++ last ∷ [])) (m.found ++ []) h = more between have input.start samples m.found k.1 in
    let P : List Edge → List Edge → Type 0 = λ ss es. gathering.HasGathered input.start ss es h in
    let all : (samples ++ between) ++ last ∷ [] ≡ samples ++ (between ++ last ∷ []) = append_assoc samples between (last ∷ []) in
    let gathered : HasGathered input ((samples ++ between) ++ last ∷ []) m.found (Some h) =
    (k.0, subst (λ es. P ((samples ++ between) ++ last ∷ []) es) (append-nil m.found) (subst (λ ss. P ss (m.found ++ [])) (sym all) l)) in
    record { found = m.found; gathered = rw was gathered; is_steadied = rw same m.is_steadied }

-- all edges that were made
pub makes_all : (m : EdgeMaker) (last known : Option Edge) (f : Option PulseFilter) (there some all : List Edge) → FindsAll m.detector last → SteadiesMore last m.filter known f → some ≡ there ++ option_to_list known
    → SteadiesAll f some all → MakesAll m there all
makes_all m last known f there some all finds steadies adds ends = λ input samples before h.
    let P : List Edge → Type 0 = λ l. HasSteadied input.pulse (h.found ++ option_to_list last) l f in
    let given : before ++ some ≡ (before ++ there) ++ option_to_list known = ap (λ l. before ++ l) adds ∙ sym (append_assoc before there (option_to_list known)) in
    let k = ends input.pulse (h.found ++ option_to_list last) before (subst P (sym given) (steadies input.pulse h.found (before ++ there) h.is_steadied)) in
    sym (ap (steadied input.pulse) (finds input samples h.found h.gathered) ∙ k)

-- the edges given come first
pub made_first : gathering.GivenEdgesComeFirst → sifting.SteadyEdgesComeFirst → MadeEdgesComeFirst
made_first first sifted = λ input samples more edges m h.
    let f = found_first input samples more h.found m.detector h.gathered in
    let s = steadied_first input.pulse h.found f.0 edges m.filter h.is_steadied in
    (s.0, ap (steadied input.pulse) f.1 ∙ s.1)
  where
    found_first : (input : TraceInput) (samples more found : List Edge) (g : Option EdgeDetector) → HasGathered input samples found g
        → (later : List Edge) × (edges_found input.source input.start (samples ++ more) ≡ found ++ later)
    found_first input samples more found None h = (more, rw h.0 (ap (λ l. l ++ more) (sym h.1)))
    found_first input samples more found (Some g) h =
        let f = first input.start samples more found g h.1 in
        (f.0, h.0 (samples ++ more) ∙ f.1)

    steadied_first : (pulse : ℕ) (found more edges : List Edge) (f : Option PulseFilter) → HasSteadied pulse found edges f
        → (later : List Edge) × (steadied pulse (found ++ more) ≡ edges ++ later)
    steadied_first pulse found more edges None h = (more, rw h.0 (ap (λ l. l ++ more) (sym h.1)))
    steadied_first pulse found more edges (Some f) h =
        let k = sifted pulse found more edges f h.1 in
        (k.0, h.0 (found ++ more) ∙ k.1)
