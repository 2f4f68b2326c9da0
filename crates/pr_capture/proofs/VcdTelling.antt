-- A dump that is read word by word.
use Rattle.std.proofs.Common.{◌≡◌, ℕ, suc, ◌+◌, ◌<◌, ◌==◌, Bool, true, false, List, [], ◌∷◌, ◌++◌, length, take, drop, get_or, refl, ap, sym, subst, ◌∙◌, inl, inr, arith, append_assoc, append-nil, Option, None}
use Rattle.std.specs.Prelude.{◌⊎◌, IsErrAnd, Result, Ok, Err, Some}
use Rattle.std.specs.List.{list_all, prefix_len}
use Rattle.std.proofs.lemmas.List.{take-append-drop, take_more}
use Rattle.std.proofs.lemmas.List.Sums.{prefix_len_stops}
use Rattle.std.proofs.lemmas.Grind.{common_steps}
use Rattle.pr_wire.specs.declared.Edge.{Edge}
use Rattle.pr_capture.specs.declared.fault.CaptureFault.{CaptureFault}
use Rattle.pr_capture.specs.declared.vcd_parser.VcdParser.{VcdParser}
use Rattle.pr_capture.specs.declared.vcd_reader.VcdReader.{VcdReader}
use Rattle.pr_capture.specs.declared.signals.Signals.{Signals}
use Rattle.pr_capture.specs.Recording.{ended, with_samples}
use Rattle.pr_capture.specs.Samples.{listed}
use Rattle.pr_capture.specs.Words.{end_line, is_space, line_behind, word_of, words_behind, Word}
use Rattle.pr_capture.specs.VcdPieces.Begun.{Nothing}
use Rattle.pr_capture.specs.VcdReading.{no_codes, vcd_contents}
use Rattle.pr_capture.specs.VcdReading.Place.{Header}
use Rattle.pr_capture.specs.VcdReads.{EndsText, ReadsMore, RefusesDump}
use Rattle.pr_capture.specs.VcdSteps.{begun_of, is_letter, place_of, contents_left, word_contents, AnswersEnd, HasReadDump, HoldsMore, MayEnd, ReadsWords}
use Rattle.pr_capture.proofs.CsvReading.{behind-behind}

-- Letters.

first-letter : (b : ℕ) (bs : List ℕ) → list_all is_letter (b ∷ bs) ≡ true → is_space b ≡ false
first-letter b bs h = step (is_space b) refl
  where
    step : (t : Bool) → is_space b ≡ t → is_space b ≡ false
    step true e = absurd (grind (arith, common_steps))
    step false e = e

rest-letters : (b : ℕ) (bs : List ℕ) → list_all is_letter (b ∷ bs) ≡ true → list_all is_letter bs ≡ true
rest-letters b bs h = grind (arith, common_steps)

not-line : (b : ℕ) → is_space b ≡ false → (b == 10) ≡ false
not-line b h = grind (arith, common_steps)

-- letters go on with a word, on its line
pub letters-words : (n : ℕ) (letters bytes more : List ℕ) → list_all is_letter bytes ≡ true
    → words_behind n letters (bytes ++ more) ≡ words_behind n (letters ++ bytes) more
letters-words n letters [] more h = ap (λ l. words_behind n l more) (sym (append-nil letters))
letters-words n letters (b ∷ bs) more h =
    let no : is_space b ≡ false = first-letter b bs h in
    rw no (letters-words n (letters ++ b ∷ []) bs more (rest-letters b bs h) ∙ ap (λ l. words_behind n l more) (append_assoc letters (b ∷ []) bs))

pub letters-end : (n : ℕ) (bytes more : List ℕ) → list_all is_letter bytes ≡ true → end_line n (bytes ++ more) ≡ end_line n more
letters-end n [] more h = refl
letters-end n (b ∷ bs) more h =
    let no : (b == 10) ≡ false = not-line b (first-letter b bs h) in
    let same : line_behind n b ≡ n = rw no refl in
    letters-end (line_behind n b) bs more (rest-letters b bs h) ∙ ap (λ m. end_line m more) same

-- The reader.

-- nothing was taken
pub read-none : (s : Signals) (r : VcdReader) → r.signals ≡ s → r.number ≡ 1 → r.letters.items ≡ [] → begun_of r.progress ≡ Nothing
    → place_of r.progress.known ≡ Header None [] no_codes → HasReadDump s [] [] r
unfolding vcd_contents
read-none s r a b c d e = record { signals = a; told = λ more. rw (a, b, c, d, e) refl }

-- a word goes on
pub held-more : (old new : VcdReader) (bytes : List ℕ) → new.signals ≡ old.signals → new.number ≡ old.number → new.progress ≡ old.progress
    → new.letters.items ≡ old.letters.items ++ bytes → list_all is_letter bytes ≡ true → HoldsMore bytes old new
held-more old new bytes a b c d i = λ s text samples h. record {
  signals = a ∙ h.signals;
  told = λ more.
      ap (vcd_contents s) (append_assoc text bytes more)
      ∙ (h.told (bytes ++ more)
      ∙ ap (with_samples samples)
      (ap (λ e. word_contents old.signals e old.progress (words_behind old.number old.letters.items (bytes ++ more))) (letters-end old.number bytes more i)
      ∙ (ap (λ ws. word_contents old.signals (end_line old.number more) old.progress ws) (letters-words old.number old.letters.items bytes more i)
      ∙ rw (a, b, c, d) refl)));
}

-- what is read of white space, and of what follows
space-told : (r : VcdReader) (b : ℕ) (more : List ℕ) → is_space b ≡ true
    → contents_left r (b ∷ more)
    ≡ word_contents r.signals (end_line (line_behind r.number b) more) r.progress (word_of r.number r.letters.items ++ words_behind (line_behind r.number b) [] more)
space-told r b more h =
    ap (λ ws. word_contents r.signals (end_line (line_behind r.number b) more) r.progress ws) (words-told r.number r.letters.items)
  where
    words-told : (n : ℕ) (letters : List ℕ) → words_behind n letters (b ∷ more) ≡ word_of n letters ++ words_behind (line_behind n b) [] more
    words-told n letters = rw h refl

-- white space
pub read-space : (old new : VcdReader) (b : ℕ) (sample : Option Edge) → is_space b ≡ true
    → ReadsWords old.signals (word_of old.number old.letters.items) old.progress (Ok sample) new.progress
    → new.signals ≡ old.signals → new.number ≡ line_behind old.number b → new.letters.items ≡ [] → ReadsMore (b ∷ []) sample old new
read-space old new b sample sp r a n l = λ s text samples h. record {
  signals = a ∙ h.signals;
  told = λ more.
      ap (vcd_contents s) (append_assoc text (b ∷ []) more)
      ∙ (h.told (b ∷ more)
      ∙ (ap (with_samples samples)
      (space-told old b more sp ∙ r (end_line (line_behind old.number b) more) (words_behind (line_behind old.number b) [] more))
      ∙ (behind-behind samples (listed sample)
      (word_contents old.signals (end_line (line_behind old.number b) more) new.progress (words_behind (line_behind old.number b) [] more))
      ∙ ap (with_samples (samples ++ listed sample)) (rw (a, n, l) refl))));
}

pub faulty-space : (old : VcdReader) (new : VcdParser) (b : ℕ) (f : CaptureFault) → is_space b ≡ true
    → ReadsWords old.signals (word_of old.number old.letters.items) old.progress (Err f) new → RefusesDump (b ∷ []) old f
faulty-space old new b f sp (inl m) = inl m
faulty-space old new b f sp (inr r) = inr (λ s text samples h more.
    ap (vcd_contents s) (append_assoc text (b ∷ []) more)
    ∙ (h.told (b ∷ more)
    ∙ ap (with_samples samples) (space-told old b more sp ∙ r (end_line (line_behind old.number b) more) (words_behind (line_behind old.number b) [] more))))

-- Blocks.

-- what comes before the first white space
pub front-letters : (block : List ℕ) → list_all is_letter (take (prefix_len is_letter block) block) ≡ true
front-letters [] = refl
front-letters (b ∷ bs) = step (is_space b) refl (front-letters bs)
  where
    step : (t : Bool) → is_space b ≡ t → list_all is_letter (take (prefix_len is_letter bs) bs) ≡ true
        → list_all is_letter (take (prefix_len is_letter (b ∷ bs)) (b ∷ bs)) ≡ true
    step true e next = rw e refl
    step false e next =
        let n : suc (prefix_len is_letter bs) ≡ prefix_len is_letter (b ∷ bs) = rw e (omega arith) in
        let P : ℕ → Type 0 = λ j. list_all is_letter (take j (b ∷ bs)) ≡ true in
        let now : list_all is_letter (take (suc (prefix_len is_letter bs)) (b ∷ bs)) ≡ true = rw e next in
        subst P n now

-- the byte after them is white space
pub space-behind : (block : List ℕ) (len : ℕ) → len ≡ prefix_len is_letter block → len < length block → is_space (get_or block len 0) ≡ true
space-behind block len e h = step (is_space (get_or block len 0)) refl
  where
    step : (t : Bool) → is_space (get_or block len 0) ≡ t → is_space (get_or block len 0) ≡ true
    step true k = k
    step false k =
        let some : prefix_len is_letter block < length block = omega (arith, e) in
        let stops : is_letter (get_or block (prefix_len is_letter block) 0) ≡ false = prefix_len_stops is_letter block 0 some in
        let here : is_letter (get_or block len 0) ≡ false = rw e stops in
        let other : is_letter (get_or block len 0) ≡ true = rw k refl in
        absurd (cc)

-- a block in which no word ends
pub read-held : (old new : VcdReader) (bytes : List ℕ) → HoldsMore bytes old new → ReadsMore bytes None old new
read-held old new bytes holds = λ s text samples h.
    let P : List Edge → Type 0 = λ v. HasReadDump s (text ++ bytes) v new in subst P (sym (append-nil samples)) (holds s text samples h)

-- a block's front with white space at its end
pub read-front : (old mid new : VcdReader) (block : List ℕ) (len : ℕ) (sample : Option Edge) → len < length block → HoldsMore (take len block) old mid
    → ReadsMore (get_or block len 0 ∷ []) sample mid new → ReadsMore (take (len + 1) block) sample old new
read-front old mid new block len sample some holds reads = λ s text samples h.
    let P : List ℕ → Type 0 = λ v. HasReadDump s v (samples ++ listed sample) new in
    let e : (text ++ take len block) ++ get_or block len 0 ∷ [] ≡ text ++ take (len + 1) block =
    append_assoc text (take len block) (get_or block len 0 ∷ []) ∙ ap (λ v. text ++ v) (sym (take_more block len 0 some)) in
    subst P e (reads s (text ++ take len block) samples (holds s text samples h))

-- a fault after a block's front
pub faulty-front : (old mid : VcdReader) (block : List ℕ) (len : ℕ) (f : CaptureFault) → len < length block → HoldsMore (take len block) old mid
    → RefusesDump (get_or block len 0 ∷ []) mid f → RefusesDump block old f
faulty-front old mid block len f some holds (inl m) = inl m
faulty-front old mid block len f some holds (inr faults) = inr (λ s text samples h more.
    let front : List ℕ = take len block in
    let rest : List ℕ = drop (len + 1) block in
    let b : List ℕ = get_or block len 0 ∷ [] in
    let whole : block ≡ (front ++ b) ++ rest = sym (take-append-drop (len + 1) block) ∙ ap (λ v. v ++ rest) (take_more block len 0 some) in
    ap (vcd_contents s)
    (ap (λ v. (text ++ v) ++ more) whole
    ∙ (append_assoc text ((front ++ b) ++ rest) more
    ∙ (ap (λ v. text ++ v) (append_assoc (front ++ b) rest more)
    ∙ (sym (append_assoc text (front ++ b) (rest ++ more))
    ∙ ap (λ v. v ++ (rest ++ more)) (sym (append_assoc text front b))))))
    ∙ faults s (text ++ front) samples (holds s text samples h) (rest ++ more))

-- The end.

-- what is read of a text that ends here
end-told : (r : VcdReader) (s : Signals) (text : List ℕ) (samples : List Edge) → HasReadDump s text samples r
    → vcd_contents s text ≡ with_samples samples (word_contents r.signals r.number r.progress (word_of r.number r.letters.items))
end-told r s text samples h = ap (vcd_contents s) (sym (append-nil text)) ∙ h.told []

-- what is read of the last words
last-told : (s : Signals) (ws : List Word) (old new : VcdParser) (sample : Option Edge) → ReadsWords s ws old (Ok sample) new
    → (end : ℕ) → word_contents s end old ws ≡ with_samples (listed sample) (word_contents s end new [])
last-told s ws old new sample r end = ap (λ v. word_contents s end old v) (sym (append-nil ws)) ∙ r end []

-- the last word makes a sample
pub ends-with : (r : VcdReader) (new : VcdParser) (sample : Edge) → ReadsWords r.signals (word_of r.number r.letters.items) r.progress (Ok (Some sample)) new
    → (Some sample ≡ None) ⊎ MayEnd new → EndsText r (Ok (Some sample))
ends-with r new sample reads (inl e) = absurd (cc)
ends-with r new sample reads (inr end) = λ s text samples h.
    end-told r s text samples h
    ∙ (ap (with_samples samples) (last-told r.signals (word_of r.number r.letters.items) r.progress new (Some sample) reads r.number)
    ∙ (behind-behind samples (listed (Some sample)) (word_contents r.signals r.number new [])
    ∙ ap (with_samples (samples ++ listed (Some sample))) (end r.signals r.number)))

-- it makes none
ends-here : (r : VcdReader) (new : VcdParser) (result : Result (Option Edge) CaptureFault)
    → ReadsWords r.signals (word_of r.number r.letters.items) r.progress (Ok None) new → AnswersEnd r.number new result → EndsText r result
ends-here r new (Ok sample) reads h = λ s text samples k.
    end-told r s text samples k
    ∙ (ap (with_samples samples) (last-told r.signals (word_of r.number r.letters.items) r.progress new None reads r.number ∙ h.1 r.signals)
    ∙ rw h.0 (ap (λ v. with_samples v ended) (sym (append-nil samples))))
ends-here r new (Err f) reads h = inr (λ s text samples k.
    end-told r s text samples k
    ∙ ap (with_samples samples) (last-told r.signals (word_of r.number r.letters.items) r.progress new None reads r.number ∙ h r.signals))

pub ends-without : (r new : VcdReader) (result : Result (Option Edge) CaptureFault)
    → ReadsWords r.signals (word_of r.number r.letters.items) r.progress (Ok None) new.progress → new.number ≡ r.number
    → AnswersEnd new.number new.progress result → EndsText r result
ends-without r new result reads e h = ends-here r new.progress result reads (subst (λ (n : ℕ). AnswersEnd n new.progress result) e h)

-- it has a fault
pub faulty-end : (r : VcdReader) (new : VcdParser) (f : CaptureFault) → ReadsWords r.signals (word_of r.number r.letters.items) r.progress (Err f) new
    → EndsText r (Err f)
faulty-end r new f (inl m) = inl m
faulty-end r new f (inr e) = inr (λ s text samples k.
    end-told r s text samples k
    ∙ ap (with_samples samples) (ap (λ v. word_contents r.signals r.number r.progress v) (sym (append-nil (word_of r.number r.letters.items))) ∙ e r.number []))

-- a fault that is handed on
pub end-refused : (r : VcdReader) (v : Result (Option Edge) CaptureFault) (f : CaptureFault) → IsErrAnd v (λ x. x ≡ f) → EndsText r (Err f) → EndsText r v
end-refused r (Ok x) f h p = absurd h
end-refused r (Err x) f h p = rw h p
