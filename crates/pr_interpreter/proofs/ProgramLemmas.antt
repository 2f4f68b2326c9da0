use Rattle.std.proofs.Common.{◌≡◌, inl, inr, ℕ, ◌+◌, ◌<◌, ◌≤◌, List, [], ◌∷◌, ◌++◌, length, drop, get_or}
use Rattle.std.proofs.Common.{sym, refl, ap, ◌∙◌, drop-cons, add-one, Result, Ok}
use Rattle.std.proofs.lemmas.List.{drop_all}
use Rattle.pr_interpreter.specs.Faults.{FaultsAs}
use Rattle.pr_interpreter.specs.Programs.{each_line, program_line}
use Rattle.pr_interpreter.specs.declared.fault.ProgramFault.{ProgramFault}
use Rattle.pr_interpreter.specs.declared.lines.Line.{Line}
use Rattle.pr_interpreter.specs.declared.program.ProgramLine.{ProgramLine}

abbrev pub lines_read : List ProgramLine → Result (List ProgramLine) ProgramFault
lines_read found = Ok found

-- a line is taken
pub line_taken : (text : List ℕ) (l : Line) (old new : List ProgramLine) (p : ProgramLine) (ls : List Line)
    → program_line text l ≡ Ok p → new ≡ old ++ p ∷ [] → each_line text new ls ≡ each_line text old (l ∷ ls)
line_taken text l old new p ls e put =
    ap (λ (found : List ProgramLine). each_line text found ls) put ∙ rw e refl

-- a loop over lines goes on
pub lines_on : (text : List ℕ) (lines : List Line) (i : ℕ) (d : Line) (old new : List ProgramLine)
    (whole : Result (List ProgramLine) ProgramFault) → i < length lines
    → each_line text new (drop (i + 1) lines) ≡ each_line text old (get_or lines i d ∷ drop (i + 1) lines)
    → each_line text old (drop i lines) ≡ whole → each_line text new (drop (i + 1) lines) ≡ whole
lines_on text lines i d old new whole h leads all =
    let cut : drop i lines ≡ get_or lines i d ∷ drop (i + 1) lines = rw add-one (drop-cons lines i d h) in
    leads ∙ (ap (λ (ls : List Line). each_line text old ls) (sym cut) ∙ all)

-- a line is refused
pub lines_refused : (text : List ℕ) (lines : List Line) (i : ℕ) (d : Line) (old : List ProgramLine)
    (whole : Result (List ProgramLine) ProgramFault) (fault : ProgramFault) → i < length lines
    → FaultsAs fault (program_line text (get_or lines i d)) → each_line text old (drop i lines) ≡ whole
    → FaultsAs fault whole
lines_refused text lines i d old whole fault h (inl none) all = inl none
lines_refused text lines i d old whole fault h (inr e) all =
    let cut : drop i lines ≡ get_or lines i d ∷ drop (i + 1) lines = rw add-one (drop-cons lines i d h) in
    inr (sym all ∙ (ap (λ (ls : List Line). each_line text old ls) cut ∙ rw e refl))

-- no line is left
pub lines_done : (text : List ℕ) (lines : List Line) (i : ℕ) (found : List ProgramLine)
    (whole : Result (List ProgramLine) ProgramFault) → length lines ≤ i → each_line text found (drop i lines) ≡ whole
    → whole ≡ lines_read found
lines_done text lines i found whole h all =
    sym all ∙ ap (λ (ls : List Line). each_line text found ls) (drop_all i lines h)
