-- Rows that have ended stay, and the next one is where the sheet is.
use Rattle.std.proofs.Common.{◌≡◌, ℕ, List, [], ◌∷◌, ◌++◌, ◌⊎◌, inl, inr, refl, sym, ap, ◌∙◌, append_assoc, arith, ◌+◌, length, length-append}
use Rattle.std.proofs.lemmas.List.{append_cancel_left}
use Rattle.std.proofs.lemmas.Bool.Decides.{leb_tells}
use Rattle.pr_page.specs.Acts.{Act, End, Move, Print, acts_in}
use Rattle.pr_page.specs.Making.{HasMade}
use Rattle.pr_page.specs.Page.{IsPage}
use Rattle.pr_page.specs.Steps.{sheet_after, sheet_after_all, start, state_after, state_after_token, state_after_tokens, step, tokens_by}
use Rattle.pr_page.specs.Token.{Token}
use Rattle.pr_page.specs.declared.carriage.MarkOnPaper.{MarkOnPaper}
use Rattle.pr_page.specs.declared.head.Head.{Head}
use Rattle.pr_page.specs.declared.input.Input.{Input}
use Rattle.pr_page.specs.declared.input.Input.TheVariants.{Select, Byte}
use Rattle.pr_page.specs.declared.paper.Paper.{Paper}
use Rattle.pr_page.specs.declared.paper.Row.{Row}
use Rattle.pr_page.specs.declared.sheet.Sheet.{Sheet}
use Rattle.pr_page.specs.declared.state.PrinterState.{PrinterState}
use Rattle.pr_page.proofs.Refines.{state_after-page}
use Rattle.pr_page.proofs.Unique.{IsPage-unique}

-- rows and a place further on
record Further (rows : List Row) (y : ℕ) (new : List Row) : Type 0 where
  row : Row
  more : List Row
  rows_are : new ≡ rows ++ row ∷ more
  here : row.y ≡ y

-- no row has ended, or the first that has was at y
abbrev Grows : Sheet → Sheet → Type 0
Grows old new = ((new.paper.rows ≡ old.paper.rows) × (new.y ≡ old.y)) ⊎ Further old.paper.rows old.y new.paper.rows

grows-trans : (a b c : Sheet) → Grows a b → Grows b c → Grows a c
grows-trans a b c (inl (same, at)) (inl (same', at')) = inl (same' ∙ same, at' ∙ at)
grows-trans a b c (inl (same, at)) (inr f) =
    inr (record { row = f.row; more = f.more; rows_are = f.rows_are ∙ ap (λ rows. rows ++ f.row ∷ f.more) same; here = f.here ∙ at })
grows-trans a b c (inr f) (inl (same, at)) = inr (record { row = f.row; more = f.more; rows_are = same ∙ f.rows_are; here = f.here })
grows-trans a b c (inr f) (inr g) = inr (record {
  row = f.row;
  more = f.more ++ g.row ∷ g.more;
  rows_are = g.rows_are ∙ ap (λ rows. rows ++ g.row ∷ g.more) f.rows_are ∙ append_assoc a.paper.rows (f.row ∷ f.more) (g.row ∷ g.more);
  here = f.here;
})

grows-act : (s : Sheet) (a : Act) → Grows s (sheet_after s a)
grows-act s (End g) = inr (record { row = record { y = s.y; marks = s.paper.held }; more = []; rows_are = refl; here = refl })
grows-act s (Move x) = inl (refl, refl)
grows-act s (Print g m w) = elim (leb_tells (s.position + w) 480) [
  | inl e ↦ rw e.0 (inl (refl, refl))
  | inr e ↦ rw e.0 (inr (record { row = record { y = s.y; marks = s.paper.held }; more = []; rows_are = refl; here = refl }))
]

grows-acts : (s : Sheet) (acts : List Act) → Grows s (sheet_after_all s acts)
grows-acts s [] = inl (refl, refl)
grows-acts s (a ∷ acts) = grows-trans s (sheet_after s a) (sheet_after_all (sheet_after s a) acts) (grows-act s a) (grows-acts (sheet_after s a) acts)

grows-tokens : (s : PrinterState) (tokens : List Token) → Grows s.sheet (state_after_tokens s tokens).sheet
grows-tokens s [] = inl (refl, refl)
grows-tokens s (t ∷ tokens) =
    grows-trans s.sheet (state_after_token s t).sheet (state_after_tokens (state_after_token s t) tokens).sheet
    (grows-acts s.sheet (acts_in s.settings t)) (grows-tokens (state_after_token s t) tokens)

grows-step : (s : PrinterState) (x : Input) → Grows s.sheet (step s x).sheet
grows-step s (Select lower) = inl (refl, refl)
grows-step s (Byte b) = grows-tokens s (tokens_by s.pending s.lower b)

grows-all : (s : PrinterState) (inputs : List Input) → Grows s.sheet (state_after s inputs).sheet
grows-all s [] = inl (refl, refl)
grows-all s (x ∷ inputs) = grows-trans s.sheet (step s x).sheet (state_after (step s x) inputs).sheet (grows-step s x) (grows-all (step s x) inputs)

-- inputs after inputs
state_after-append : (s : PrinterState) (inputs more : List Input) → state_after s (inputs ++ more) ≡ state_after (state_after s inputs) more
state_after-append s [] more = refl
state_after-append s (x ∷ inputs) more = state_after-append (step s x) inputs more

same_next : (rows : List Row) (a b : Row) (more others : List Row) → rows ++ a ∷ more ≡ rows ++ b ∷ others → a ≡ b
same_next rows a b more others e =
    let tails : a ∷ more ≡ b ∷ others = append_cancel_left rows (a ∷ more) (b ∷ others) e in
    cc

longer : (rows : List Row) (row : Row) (more : List Row) → rows ≡ rows ++ row ∷ more → ⊥
longer rows row more e =
    let lengths : length rows ≡ length (rows ++ row ∷ more) = ap length e in
    let many = length-append rows (row ∷ more) in
    absurd (omega (arith, lengths, many))

next_is : (s t : Sheet) (row : Row) (rows : List Row) → Grows s t → t.paper.rows ≡ s.paper.rows ++ row ∷ rows → row.y ≡ s.y
next_is s t row rows (inl (same, at)) e = absurd (longer s.paper.rows row rows (sym same ∙ e))
next_is s t row rows (inr f) e = ap (λ (row : Row). row.y) (same_next s.paper.rows row f.row rows f.more (sym e ∙ f.rows_are)) ∙ f.here

-- the next row to end is where the head is
pub HasMade-next : (inputs more : List Input) (marks : List MarkOnPaper) (head : Head) (before after : Paper) (row : Row) (rows : List Row) →
    HasMade inputs marks head → IsPage inputs before → IsPage (inputs ++ more) after → after.rows ≡ before.rows ++ row ∷ rows → row.y ≡ head.carriage.y
HasMade-next inputs more marks head before after row rows h page next e =
    let s = state_after start inputs in
    let t = state_after s more in
    let one : s.sheet.paper ≡ before = IsPage-unique inputs s.sheet.paper before (state_after-page inputs) page in
    let two : (state_after start (inputs ++ more)).sheet.paper ≡ after =
    IsPage-unique (inputs ++ more) (state_after start (inputs ++ more)).sheet.paper after (state_after-page (inputs ++ more)) next in
    let last : t.sheet.paper ≡ after = ap (λ (s : PrinterState). s.sheet.paper) (sym (state_after-append start inputs more)) ∙ two in
    let rows_are : t.sheet.paper.rows ≡ s.sheet.paper.rows ++ row ∷ rows =
    ap (λ (paper : Paper). paper.rows) last ∙ e ∙ ap (λ (paper : Paper). paper.rows ++ row ∷ rows) (sym one) in
    next_is s.sheet t.sheet row rows (grows-all s more) rows_are ∙ ap (λ (head : Head). head.carriage.y) (sym h.head_is)
