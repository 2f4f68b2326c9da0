-- A table that is read line by line.
use Rattle.std.proofs.Common.{◌≡◌, ℕ, suc, ◌+◌, ◌<◌, ◌==◌, Bool, true, false, List, [], ◌∷◌, ◌++◌, length, take, drop, refl, ap, sym, subst, ◌∙◌, arith, append_assoc, append-nil, Option, None}
use Rattle.std.specs.Prelude.{IfErr, IsErrAnd, Result, Ok, Err}
use Rattle.std.proofs.lemmas.List.{take-append-drop}
use Rattle.std.specs.List.{list_all, prefix_len}
use Rattle.std.proofs.lemmas.Grind.{common_steps}
use Rattle.pr_wire.specs.declared.Edge.{Edge}
use Rattle.pr_base.specs.Lines.{lines_of, onto_first}
use Rattle.pr_capture.specs.declared.csv.RowPlace.TheVariants.{First, Names, Rows}
use Rattle.pr_capture.specs.declared.csv.Layout.{Layout}
use Rattle.pr_capture.specs.declared.csv.Moment.{Moment}
use Rattle.pr_capture.specs.declared.remarks.Remarks.{Remarks}
use Rattle.pr_capture.specs.declared.csv.CsvReader.{CsvReader}
use Rattle.pr_capture.specs.declared.fault.CaptureFault.{CaptureFault}
use Rattle.pr_capture.specs.declared.fault.CaptureFault.TheVariants.{NoSignal}
use Rattle.pr_capture.specs.declared.fault.Wire.TheVariants.{Atn}
use Rattle.pr_capture.specs.declared.signals.Signals.{Signals}
use Rattle.pr_capture.specs.Csv.{csv_contents, is_inner}
use Rattle.pr_capture.specs.CsvReads.{EndsText, FaultsIn, ReadsMore}
use Rattle.pr_capture.specs.CsvSteps.{contents_from, AnswersEnd, HasReadTable, HoldsMore, KnowsLast}
use Rattle.pr_capture.specs.Recording.{ended, refused, with_samples, CaptureContents}
use Rattle.pr_capture.specs.Samples.{listed}

-- the first byte of inner bytes, and those after it
first-inner : (b : ℕ) (bs : List ℕ) → list_all is_inner (b ∷ bs) ≡ true → (b == 10) ≡ false
first-inner b bs h = grind (arith, common_steps)

rest-inner : (b : ℕ) (bs : List ℕ) → list_all is_inner (b ∷ bs) ≡ true → list_all is_inner bs ≡ true
rest-inner b bs h = grind (arith, common_steps)

-- inner bytes after inner bytes
inner-append : (line bs : List ℕ) → list_all is_inner line ≡ true → list_all is_inner bs ≡ true → list_all is_inner (line ++ bs) ≡ true
inner-append [] bs h k = k
inner-append (b ∷ line) bs h k = rw (first-inner b line h) (inner-append line bs (rest-inner b line h) k)

-- inner bytes are on one line, up to its end or the text's
pub inner-line : (line more : List ℕ) → list_all is_inner line ≡ true → lines_of (line ++ 10 ∷ more) ≡ line ∷ lines_of more
unfolding lines_of
inner-line [] more h = refl
inner-line (b ∷ bs) more h = rw (first-inner b bs h) (ap (onto_first b) (inner-line bs more (rest-inner b bs h)))

last-line : (line : List ℕ) → 0 < length line → list_all is_inner line ≡ true → lines_of line ≡ line ∷ []
unfolding lines_of
last-line [] some h = absurd (omega arith)
last-line (b ∷ []) some h = rw (first-inner b [] h) refl
last-line (b ∷ c ∷ bs) some h = rw (first-inner b (c ∷ bs) h) (ap (onto_first b) (last-line (c ∷ bs) (omega arith) (rest-inner b (c ∷ bs) h)))

-- samples after samples
pub behind-behind : (a b : List Edge) (t : CaptureContents) → with_samples a (with_samples b t) ≡ with_samples (a ++ b) t
behind-behind a b t = let P : List Edge → CaptureContents = λ v. record { samples = v; fault = t.fault } in ap P (sym (append_assoc a b t.samples))

-- a fault that is handed on
pub handed-on : {A : Type 0} (v : Result A CaptureFault) (f : CaptureFault) (P : CaptureFault → Type 0) → IsErrAnd v (λ x. x ≡ f) → P f → IfErr v P
handed-on (Ok x) f P h p = tt
handed-on (Err x) f P h p = rw h p

pub end-refused : (r : CsvReader) (v : Result (Option Edge) CaptureFault) (f : CaptureFault) → IsErrAnd v (λ x. x ≡ f) → EndsText r (Err f) → EndsText r v
end-refused r (Ok x) f h p = absurd h
end-refused r (Err x) f h p = rw h p

-- nothing was taken
pub read-none : (s : Signals) (rate : Option ℕ) (r : CsvReader) → r.signals ≡ s → r.number ≡ 1 → r.place ≡ First rate → r.line.items ≡ [] → HasReadTable s rate [] [] r
unfolding csv_contents
read-none s rate r a b c d = record { signals = a; inner = rw d refl; last = rw c tt; told = λ more. rw (a, b, c, d) refl }

-- a line goes on
pub held-more : (old new : CsvReader) (bytes : List ℕ) → new.signals ≡ old.signals → new.number ≡ old.number → new.place ≡ old.place
    → new.line.items ≡ old.line.items ++ bytes → new.last ≡ old.last → list_all is_inner bytes ≡ true → HoldsMore bytes old new
held-more old new bytes a b c d e i = λ s rate text samples h. record {
  signals = a ∙ h.signals;
  inner = rw d (inner-append old.line.items bytes h.inner i);
  last = rw (a, c, e) h.last;
  told = λ more.
      ap (csv_contents s rate) (append_assoc text bytes more)
      ∙ (h.told (bytes ++ more)
      ∙ ap (with_samples samples) (rw (a, b, c, d) (ap (λ l. contents_from old.signals old.place old.number (lines_of l)) (sym (append_assoc old.line.items bytes more)))));
}

-- what is read of a line that ends, and of what follows
line-told : (s : Signals) (rate : Option ℕ) (r : CsvReader) (line text : List ℕ) (samples : List Edge) → line ≡ r.line.items → HasReadTable s rate text samples r → (more : List ℕ)
    → csv_contents s rate ((text ++ 10 ∷ []) ++ more) ≡ with_samples samples (contents_from r.signals r.place r.number (line ∷ lines_of more))
line-told s rate r line text samples e h more =
    ap (csv_contents s rate) (append_assoc text (10 ∷ []) more)
    ∙ (h.told (10 ∷ more)
    ∙ ap (λ ls. with_samples samples (contents_from r.signals r.place r.number ls)) (inner-line r.line.items more h.inner ∙ ap (λ l. l ∷ lines_of more) (sym e)))

-- a line ends
pub read-line : (old new : CsvReader) (sample : Option Edge) (line : List ℕ) → line ≡ old.line.items
    → ((more : List (List ℕ)) → contents_from old.signals old.place old.number (line ∷ more)
    ≡ with_samples (listed sample) (contents_from old.signals new.place (old.number + 1) more))
    → new.signals ≡ old.signals → new.number ≡ old.number + 1 → new.line.items ≡ [] → (list_all is_inner old.line.items ≡ true → KnowsLast old.signals.probes new.place new.last)
    → ReadsMore (10 ∷ []) sample old new
read-line old new sample line e r a b d k = λ s rate text samples h. record {
  signals = a ∙ h.signals;
  inner = rw d refl;
  last = rw a (k h.inner);
  told = λ more.
      line-told s rate old line text samples e h more
      ∙ (ap (with_samples samples) (r (lines_of more))
      ∙ (behind-behind samples (listed sample) (contents_from old.signals new.place (old.number + 1) (lines_of more))
      ∙ ap (with_samples (samples ++ listed sample)) (rw (a, b, d) refl)));
}

-- a line has a fault
pub faulty-line : (old : CsvReader) (f : CaptureFault) (line : List ℕ) → line ≡ old.line.items
    → ((more : List (List ℕ)) → contents_from old.signals old.place old.number (line ∷ more) ≡ refused f) → FaultsIn (10 ∷ []) old f
faulty-line old f line e r = λ s rate text samples h more. line-told s rate old line text samples e h more ∙ ap (with_samples samples) (r (lines_of more))

-- what comes before the first line's end
pub front-inner : (block : List ℕ) → list_all is_inner (take (prefix_len is_inner block) block) ≡ true
front-inner [] = refl
front-inner (b ∷ bs) = step (b == 10) refl (front-inner bs)
  where
    step : (t : Bool) → (b == 10) ≡ t → list_all is_inner (take (prefix_len is_inner bs) bs) ≡ true
        → list_all is_inner (take (prefix_len is_inner (b ∷ bs)) (b ∷ bs)) ≡ true
    step true e next = rw e refl
    step false e next =
        let n : suc (prefix_len is_inner bs) ≡ prefix_len is_inner (b ∷ bs) = rw e (omega arith) in
        let P : ℕ → Type 0 = λ j. list_all is_inner (take j (b ∷ bs)) ≡ true in
        let now : list_all is_inner (take (suc (prefix_len is_inner bs)) (b ∷ bs)) ≡ true = rw e next in
        subst P n now

-- and the end
pub front-ended : (block : List ℕ) → prefix_len is_inner block < length block
    → take (prefix_len is_inner block + 1) block ≡ take (prefix_len is_inner block) block ++ 10 ∷ []
front-ended [] h = absurd (omega arith)
front-ended (b ∷ bs) h = step (b == 10) refl h (λ k. front-ended bs k)
  where
    step : (t : Bool) → (b == 10) ≡ t → prefix_len is_inner (b ∷ bs) < length (b ∷ bs)
        → (prefix_len is_inner bs < length bs → take (prefix_len is_inner bs + 1) bs ≡ take (prefix_len is_inner bs) bs ++ 10 ∷ [])
        → take (prefix_len is_inner (b ∷ bs) + 1) (b ∷ bs) ≡ take (prefix_len is_inner (b ∷ bs)) (b ∷ bs) ++ 10 ∷ []
    step true e k next = let is : b ≡ 10 = grind (arith, common_steps) in rw is refl
    step false e k next =
        let m : ℕ = prefix_len is_inner bs in
        let n : suc m ≡ prefix_len is_inner (b ∷ bs) = rw e (omega arith) in
        let o : suc (m + 1) ≡ suc m + 1 = omega arith in
        let P : ℕ → Type 0 = λ j. take j (b ∷ bs) ≡ take (suc m) (b ∷ bs) ++ 10 ∷ [] in
        let Q : ℕ → Type 0 = λ j. take (j + 1) (b ∷ bs) ≡ take j (b ∷ bs) ++ 10 ∷ [] in
        subst Q n (subst P o (ap (λ v. b ∷ v) (next (omega (arith, k, n)))))

-- a block in which no line ends
pub read-held : (old new : CsvReader) (bytes : List ℕ) → HoldsMore bytes old new → ReadsMore bytes None old new
read-held old new bytes holds = λ s rate text samples h.
    let P : List Edge → Type 0 = λ v. HasReadTable s rate (text ++ bytes) v new in subst P (sym (append-nil samples)) (holds s rate text samples h)

-- a block in which a line ends
pub read-front : (old mid new : CsvReader) (block : List ℕ) (len : ℕ) (sample : Option Edge) → len ≡ prefix_len is_inner block → len < length block
    → HoldsMore (take len block) old mid → ReadsMore (10 ∷ []) sample mid new → ReadsMore (take (len + 1) block) sample old new
read-front old mid new block len sample e some holds reads = λ s rate text samples h.
    let ended : take (len + 1) block ≡ take len block ++ 10 ∷ [] = rw e (front-ended block (omega (arith, e))) in
    let P : List ℕ → Type 0 = λ v. HasReadTable s rate v (samples ++ listed sample) new in
    subst P (append_assoc text (take len block) (10 ∷ []) ∙ ap (λ v. text ++ v) (sym ended)) (reads s rate (text ++ take len block) samples (holds s rate text samples h))

-- the same, where the line has a fault
pub faulty-front : (old mid : CsvReader) (block : List ℕ) (len : ℕ) (f : CaptureFault) → len ≡ prefix_len is_inner block → len < length block
    → HoldsMore (take len block) old mid → FaultsIn (10 ∷ []) mid f → FaultsIn block old f
faulty-front old mid block len f e some holds faults = λ s rate text samples h more.
    let front : List ℕ = take len block in
    let rest : List ℕ = drop (len + 1) block in
    let ended : take (len + 1) block ≡ front ++ 10 ∷ [] = rw e (front-ended block (omega (arith, e))) in
    let whole : block ≡ (front ++ 10 ∷ []) ++ rest = sym (take-append-drop (len + 1) block) ∙ ap (λ v. v ++ rest) ended in
    ap (csv_contents s rate)
    (ap (λ v. (text ++ v) ++ more) whole
    ∙ (append_assoc text ((front ++ 10 ∷ []) ++ rest) more
    ∙ (ap (λ v. text ++ v) (append_assoc (front ++ 10 ∷ []) rest more)
    ∙ (sym (append_assoc text (front ++ 10 ∷ []) (rest ++ more))
    ∙ ap (λ v. v ++ (rest ++ more)) (sym (append_assoc text front (10 ∷ [])))))))
    ∙ faults s rate (text ++ front) samples (holds s rate text samples h) (rest ++ more)

-- the text ends with a whole line
pub ended-first : (r : CsvReader) (given : Option ℕ) → r.line.items ≡ [] → r.place ≡ First given
    → (s : Signals) (rate : Option ℕ) (text : List ℕ) (samples : List Edge) → HasReadTable s rate text samples r → csv_contents s rate text ≡ with_samples samples (refused (NoSignal r.number Atn))
unfolding lines_of
ended-first r given e p = λ s rate text samples h. ap (csv_contents s rate) (sym (append-nil text)) ∙ (h.told [] ∙ rw (e, p) refl)

pub ended-names : (r : CsvReader) (m : Remarks) → r.line.items ≡ [] → r.place ≡ Names m
    → (s : Signals) (rate : Option ℕ) (text : List ℕ) (samples : List Edge) → HasReadTable s rate text samples r → csv_contents s rate text ≡ with_samples samples (refused (NoSignal r.number Atn))
unfolding lines_of
ended-names r m e p = λ s rate text samples h. ap (csv_contents s rate) (sym (append-nil text)) ∙ (h.told [] ∙ rw (e, p) refl)

pub ended-rows : (r : CsvReader) (y : Layout) (m : Moment) → r.line.items ≡ [] → r.place ≡ Rows y m
    → (s : Signals) (rate : Option ℕ) (text : List ℕ) (samples : List Edge) → HasReadTable s rate text samples r → csv_contents s rate text ≡ with_samples samples ended
unfolding lines_of
ended-rows r y m e p = λ s rate text samples h. ap (csv_contents s rate) (sym (append-nil text)) ∙ (h.told [] ∙ rw (e, p) refl)

-- an end of the last line says nothing
same-end : (s : Signals) (rate : Option ℕ) (r : CsvReader) (text : List ℕ) (samples : List Edge) → HasReadTable s rate text samples r → 0 < length r.line.items
    → csv_contents s rate text ≡ csv_contents s rate (text ++ 10 ∷ [])
unfolding lines_of
same-end s rate r text samples h some =
    ap (csv_contents s rate) (sym (append-nil text))
    ∙ (h.told []
    ∙ (ap (λ ls. with_samples samples (contents_from r.signals r.place r.number ls)) (ap lines_of (append-nil r.line.items) ∙ last-line r.line.items some h.inner)
    ∙ (sym (line-told s rate r r.line.items text samples refl h []) ∙ ap (csv_contents s rate) (append-nil (text ++ 10 ∷ [])))))

pub whole-ends : (r : CsvReader) (result : Result (Option Edge) CaptureFault) → AnswersEnd r None result → EndsText r result
whole-ends r (Ok sample) h = λ s rate text samples k. h.1 s rate text samples k ∙ rw h.0 (ap (λ v. with_samples v ended) (sym (append-nil samples)))
whole-ends r (Err f) h = h.1

pub line-ends : (r new : CsvReader) (sample : Option Edge) (result : Result (Option Edge) CaptureFault) → 0 < length r.line.items
    → ReadsMore (10 ∷ []) sample r new → AnswersEnd new sample result → EndsText r result
line-ends r new sample (Ok last) some reads h = λ s rate text samples k.
    same-end s rate r text samples k some ∙ (h.1 s rate (text ++ 10 ∷ []) (samples ++ listed sample) (reads s rate text samples k) ∙ rw h.0 refl)
line-ends r new sample (Err f) some reads h = λ s rate text samples k.
    same-end s rate r text samples k some
    ∙ (h.1 s rate (text ++ 10 ∷ []) (samples ++ listed sample) (reads s rate text samples k) ∙ rw h.0 (ap (λ v. with_samples v (refused f)) (append-nil samples)))

-- the last line has a fault
pub faulty-end : (r : CsvReader) (f : CaptureFault) → 0 < length r.line.items → FaultsIn (10 ∷ []) r f
    → (s : Signals) (rate : Option ℕ) (text : List ℕ) (samples : List Edge) → HasReadTable s rate text samples r → csv_contents s rate text ≡ with_samples samples (refused f)
faulty-end r f some faults = λ s rate text samples k.
    same-end s rate r text samples k some ∙ (ap (csv_contents s rate) (sym (append-nil (text ++ 10 ∷ []))) ∙ faults s rate text samples k [])
