-- The objects of sheets.
use Rattle.std.proofs.Common.{◌≡◌, ℕ, ◌+◌, ◌*◌, ◌<◌, List, [], ◌∷◌, ◌++◌, drop, length, refl, sym, ap, subst, ◌∙◌, arith}
use Rattle.std.specs.Prelude.{map}
use Rattle.std.proofs.lemmas.Grind.{common_steps}
use Rattle.std.proofs.lemmas.List.{length-append, length-map}
use Rattle.pr_page.specs.declared.paper.Row.{Row}
use Rattle.pr_pdf.specs.declared.document.Document.{Document}
use Rattle.pr_pdf.specs.Linked.{Adds, IsSkipped}
use Rattle.pr_pdf.specs.Pdf.{or_empty, sheet_bodies}
use Rattle.pr_dots.specs.Sheets.{sheet_count}
use Rattle.pr_pdf.specs.Sheets.{sheet_pdf, sheet_texts}
use Rattle.pr_pdf.specs.Words.{numbers_from}
use Rattle.pr_pdf.proofs.Numbers.{map_more, map_none, numbers_length}
use Rattle.pr_pdf.proofs.Objects.{none_adds, then_adds}

-- sheets after sheets
bodies_append : (pages number : ℕ) (xs ys : List (List ℕ))
    → sheet_bodies pages number (xs ++ ys) ≡ sheet_bodies pages number xs ++ sheet_bodies pages (number + 2 * length xs) ys
bodies_append pages number [] ys = grind (arith, common_steps)
bodies_append pages number (x ∷ xs) ys = grind (arith, common_steps, bodies_append pages (number + 2) xs ys)

-- as many sheets as are counted
pub sheets_length : (rows : List Row) → length (sheet_texts rows) ≡ sheet_count rows
sheets_length rows = grind (arith, common_steps, numbers_length 0 (sheet_count rows))

-- rows that are on no sheet from one on can be left out
pub sheet_skipped : (sheet count : ℕ) (rows : List Row) → IsSkipped sheet count rows → sheet_pdf (drop count rows) sheet ≡ sheet_pdf rows sheet
unfolding sheet_pdf
sheet_skipped sheet count rows skipped = rw (skipped sheet (omega arith)) refl

-- one sheet more
pub sheet_adds : (pages first number : ℕ) (f : ℕ → List ℕ) (sheet : ℕ) {a b c : Document} → number ≡ first + 2 * sheet
    → Adds (sheet_bodies pages first (map f (numbers_from 0 sheet))) a b → Adds (sheet_bodies pages number (f sheet ∷ [])) b c
    → Adds (sheet_bodies pages first (map f (numbers_from 0 (sheet + 1)))) a c
sheet_adds pages first number f sheet at before now =
    let long : length (map f (numbers_from 0 sheet)) ≡ sheet = length-map (numbers_from 0 sheet) f ∙ numbers_length 0 sheet in
    let here : number ≡ first + 2 * length (map f (numbers_from 0 sheet)) = rw long at in
    let one = bodies_append pages first (map f (numbers_from 0 sheet)) (f sheet ∷ []) in
    rw (map_more f sheet, one, ← here) (then_adds before now)

-- no sheets
pub sheet_adds_none : (pages first : ℕ) (f : ℕ → List ℕ) (document : Document) → Adds (sheet_bodies pages first (map f (numbers_from 0 0))) document document
sheet_adds_none pages first f document = rw (map_none f) (none_adds document)

-- sheets after sheets
pub sheets_add : (pages first second : ℕ) (xs ys : List (List ℕ)) {a b c : Document} → second ≡ first + 2 * length xs
    → Adds (sheet_bodies pages first xs) a b → Adds (sheet_bodies pages second ys) b c → Adds (sheet_bodies pages first (xs ++ ys)) a c
sheets_add pages first second xs ys at before now = rw (bodies_append pages first xs ys, ← at) (then_adds before now)

-- no sheets, and at least one
pub or_empty_none : (sheets : List (List ℕ)) → length sheets ≡ 0 → or_empty sheets ≡ sheet_pdf [] 0 ∷ []
or_empty_none [] none = refl
or_empty_none (sheet ∷ sheets) none = absurd (omega (arith, none))

pub or_empty_some : (sheets : List (List ℕ)) → 0 < length sheets → or_empty sheets ≡ sheets
or_empty_some [] some = absurd (omega (arith, some))
or_empty_some (sheet ∷ sheets) some = refl

-- how many sheets both printers' rows take
pub both_length : (rows4 rows5 : List Row) → length (sheet_texts rows4 ++ sheet_texts rows5) ≡ sheet_count rows4 + sheet_count rows5
both_length rows4 rows5 = length-append (sheet_texts rows4) (sheet_texts rows5) ∙ both (length (sheet_texts rows4)) (length (sheet_texts rows5)) (sheet_count rows4) (sheet_count rows5) (sheets_length rows4) (sheets_length rows5)
  where
    both : (a b c d : ℕ) → a ≡ c → b ≡ d → a + b ≡ c + d
    both a b c d p q = omega (arith, p, q)

-- the sheets of both printers' rows, or an empty one
pub some_add : (pages first second : ℕ) (rows4 rows5 : List Row) {a b c : Document} → second ≡ first + 2 * sheet_count rows4
    → 0 < sheet_count rows4 + sheet_count rows5
    → Adds (sheet_bodies pages first (sheet_texts rows4)) a b → Adds (sheet_bodies pages second (sheet_texts rows5)) b c
    → Adds (sheet_bodies pages first (or_empty (sheet_texts rows4 ++ sheet_texts rows5))) a c
some_add pages first second rows4 rows5 at some before now =
    let long : second ≡ first + 2 * length (sheet_texts rows4) = rw (sheets_length rows4) at in
    let some_sheets : 0 < length (sheet_texts rows4 ++ sheet_texts rows5) = rw (both_length rows4 rows5) some in
    rw (or_empty_some (sheet_texts rows4 ++ sheet_texts rows5) some_sheets)
    (sheets_add pages first second (sheet_texts rows4) (sheet_texts rows5) long before now)

pub empty_adds : (pages first second : ℕ) (rows4 rows5 : List Row) {a b c d : Document} → second ≡ first + 2 * sheet_count rows4
    → sheet_count rows4 + sheet_count rows5 ≡ 0
    → Adds (sheet_bodies pages first (sheet_texts rows4)) a b → Adds (sheet_bodies pages second (sheet_texts rows5)) b c
    → Adds (sheet_bodies pages first (sheet_pdf [] 0 ∷ [])) c d
    → Adds (sheet_bodies pages first (or_empty (sheet_texts rows4 ++ sheet_texts rows5))) a d
empty_adds pages first second rows4 rows5 {a} {b} {c} {d} at none before now empty =
    let no4 : sheet_count rows4 ≡ 0 = omega (arith, none) in
    let no5 : sheet_count rows5 ≡ 0 = omega (arith, none) in
    let none4 : sheet_texts rows4 ≡ [] = rw no4 (map_none (sheet_pdf rows4)) in
    let none5 : sheet_texts rows5 ≡ [] = rw no5 (map_none (sheet_pdf rows5)) in
    let no_sheets : length (sheet_texts rows4 ++ sheet_texts rows5) ≡ 0 = both_length rows4 rows5 ∙ none in
    let from : Adds [] a b = rw none4 at before in
    let to : Adds [] b c = rw none5 at now in
    rw (or_empty_none (sheet_texts rows4 ++ sheet_texts rows5) no_sheets) (then_adds from (then_adds to empty))

-- how many sheets that makes
pub count_none : (rows4 rows5 : List Row) → sheet_count rows4 + sheet_count rows5 ≡ 0 → 1 ≡ length (or_empty (sheet_texts rows4 ++ sheet_texts rows5))
count_none rows4 rows5 none =
    let no_sheets : length (sheet_texts rows4 ++ sheet_texts rows5) ≡ 0 = both_length rows4 rows5 ∙ none in
    rw (or_empty_none (sheet_texts rows4 ++ sheet_texts rows5) no_sheets) refl

pub count_some : (rows4 rows5 : List Row) → 0 < sheet_count rows4 + sheet_count rows5
    → sheet_count rows4 + sheet_count rows5 ≡ length (or_empty (sheet_texts rows4 ++ sheet_texts rows5))
count_some rows4 rows5 some =
    let some_sheets : 0 < length (sheet_texts rows4 ++ sheet_texts rows5) = rw (both_length rows4 rows5) some in
    rw (or_empty_some (sheet_texts rows4 ++ sheet_texts rows5) some_sheets) (sym (both_length rows4 rows5))

-- a sheet of the rows that are left
pub sheet_now : (pages number sheet k : ℕ) (rows rest : List Row) {a b : Document} → rest ≡ drop k rows → IsSkipped sheet k rows
    → Adds (sheet_bodies pages number (sheet_pdf rest sheet ∷ [])) a b → Adds (sheet_bodies pages number (sheet_pdf rows sheet ∷ [])) a b
sheet_now pages number sheet k rows rest {a} {b} is skipped adds =
    let same : sheet_pdf rest sheet ≡ sheet_pdf rows sheet = ap (λ rs. sheet_pdf rs sheet) is ∙ sheet_skipped sheet k rows skipped in
    subst (λ (text : List ℕ). Adds (sheet_bodies pages number (text ∷ [])) a b) same adds
