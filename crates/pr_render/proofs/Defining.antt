-- Which marks are still to be defined.
use Rattle.std.proofs.Common.{◌≡◌, ℕ, ◌<◌, Bool, true, false, cond, List, [], ◌∷◌, ◌++◌, length, refl, sym, ap, ◌∙◌, arith, append_assoc}
use Rattle.std.specs.Prelude.{◌==◌, not, flat_map, if◌then◌else◌, replicate, slice_index_or, slice_set}
use Rattle.std.specs.List.{filter}
use Rattle.std.proofs.lemmas.Grind.{common_steps}
use Rattle.pr_page.specs.declared.paper.Mark.{Mark}
use Rattle.pr_page.specs.declared.paper.Row.{Row}
use Rattle.pr_dots.specs.Sheets.{is_on, lowered_row, lowered_rows, rows_on}
use Rattle.pr_dots.specs.declared.character_sets.Shapes.{Shapes}
use Rattle.pr_render.specs.Defined.{HasDefined, is_new, marks_on, new_definitions}
use Rattle.pr_render.specs.Svg.{definition_svg, differ, each_once, number_of}

-- two tests, one after the other, are one test
filter-both : {X : Type 0} (p q r : X → Bool) → ((x : X) → cond (q x) (p x) false ≡ r x) → (xs : List X) → filter p (filter q xs) ≡ filter r xs
filter-both p q r both [] = refl
filter-both p q r both (x ∷ xs) = grind (arith, common_steps, both x, filter-both p q r both xs)

-- what passes a test that all pass
filter-all : {X : Type 0} (p : X → Bool) → ((x : X) → p x ≡ true) → (xs : List X) → filter p xs ≡ xs
filter-all p all [] = refl
filter-all p all (x ∷ xs) = grind (arith, common_steps, all x, filter-all p all xs)

-- a mark with the number of one that has been defined has been defined
known : (defined : List Bool) (n k : ℕ) → slice_index_or defined n false ≡ true
    → cond (not (n == k)) (not (slice_index_or defined k false)) false ≡ not (slice_index_or defined k false)
known defined n k is = grind (arith, is)

-- after a definition the marks with another number are as they were
others : (defined : List Bool) (n k : ℕ) → n < length defined
    → cond (not (n == k)) (not (slice_index_or defined k false)) false ≡ not (slice_index_or (slice_set defined n true) k false)
others defined n k within = grind (arith, common_steps)

-- a mark that has been defined needs no definition
pub defined_already : (shapes : Shapes) (defined : List Bool) (mark : Mark) (rest : List Mark) → slice_index_or defined (number_of mark) false ≡ true
    → new_definitions shapes defined (mark ∷ rest) ≡ new_definitions shapes defined rest
defined_already shapes defined mark rest is =
    rw is (ap (flat_map (definition_svg shapes)) (filter-both (is_new defined) (differ mark) (is_new defined)
    (λ x. known defined (number_of mark) (number_of x) is) (each_once rest)))

-- a mark that is new needs one
pub defined_now : (shapes : Shapes) (defined : List Bool) (mark : Mark) (rest : List Mark) → number_of mark < length defined
    → slice_index_or defined (number_of mark) false ≡ false
    → new_definitions shapes defined (mark ∷ rest) ≡ definition_svg shapes mark ++ new_definitions shapes (slice_set defined (number_of mark) true) rest
defined_now shapes defined mark rest within is =
    rw is (ap (λ ms. definition_svg shapes mark ++ flat_map (definition_svg shapes) ms)
    (filter-both (is_new defined) (differ mark) (is_new (slice_set defined (number_of mark) true))
    (λ x. others defined (number_of mark) (number_of x) within) (each_once rest)))

-- the same, where the definition has been added
pub defined_next : (shapes : Shapes) (defined view : List Bool) (mark : Mark) (number : ℕ) (rest : List Mark) (text new_text : List ℕ)
    → view ≡ defined → number ≡ number_of mark → number < length defined → slice_index_or defined number false ≡ false
    → new_text ≡ text ++ definition_svg shapes mark
    → new_text ++ new_definitions shapes (slice_set defined number true) rest ≡ text ++ new_definitions shapes view (mark ∷ rest)
defined_next shapes defined view mark number rest text new_text at is within none added =
    let here : number_of mark < length defined = rw (sym is) within in
    let not_yet : slice_index_or defined (number_of mark) false ≡ false = rw (sym is) none in
    let step : new_definitions shapes view (mark ∷ rest) ≡ definition_svg shapes mark ++ new_definitions shapes (slice_set defined number true) rest =
    ap (λ d. new_definitions shapes d (mark ∷ rest)) at
    ∙ (defined_now shapes defined mark rest here not_yet
    ∙ ap (λ k. definition_svg shapes mark ++ new_definitions shapes (slice_set defined k true) rest) (sym is)) in
    ap (λ t. t ++ new_definitions shapes (slice_set defined number true) rest) added
    ∙ (append_assoc text (definition_svg shapes mark) (new_definitions shapes (slice_set defined number true) rest)
    ∙ ap (λ t. text ++ t) (sym step))

-- at first each mark needs one
none-defined : (shapes : Shapes) (marks : List Mark) → new_definitions shapes (replicate 2304 false) marks ≡ flat_map (definition_svg shapes) (each_once marks)
none-defined shapes marks = ap (flat_map (definition_svg shapes)) (filter-all (is_new (replicate 2304 false)) (λ x. at-first 2304 (number_of x)) (each_once marks))
  where
    at-first : (n k : ℕ) → not (slice_index_or (replicate n false) k false) ≡ true
    at-first n k = grind (arith, common_steps)

-- the definitions of the marks of two papers
pub two-papers : (shapes : Shapes) (t1 t2 t3 : List ℕ) (d1 d2 d3 : List Bool) (four five : List Mark) → d1 ≡ replicate 2304 false
    → HasDefined shapes four t1 d1 t2 d2 → HasDefined shapes five t2 d2 t3 d3 → t3 ≡ t1 ++ flat_map (definition_svg shapes) (each_once (four ++ five))
two-papers shapes t1 t2 t3 d1 d2 d3 four five at_first first second =
    grind (arith, common_steps, second [], first five, at_first, none-defined shapes (four ++ five))

-- the definitions of the marks of a sheet
pub one-sheet : (shapes : Shapes) (t1 t2 : List ℕ) (d1 d2 : List Bool) (marks : List Mark) → d1 ≡ replicate 2304 false
    → HasDefined shapes marks t1 d1 t2 d2 → t2 ≡ t1 ++ flat_map (definition_svg shapes) (each_once marks)
one-sheet shapes t1 t2 d1 d2 marks at_first defined = grind (arith, common_steps, defined [], at_first, none-defined shapes marks)

-- the marks of the rows that are on a sheet, with one row more
pub marks_of_more : (above sheet : ℕ) (row : Row) (rows : List Row)
    → marks_on (flat_map (λ r. r.marks) (rows_on sheet (lowered_rows above (row ∷ rows))))
    ≡ (if is_on sheet (lowered_row above row) then marks_on row.marks else []) ++ marks_on (flat_map (λ r. r.marks) (rows_on sheet (lowered_rows above rows)))
marks_of_more above sheet row rows = grind (arith, common_steps)
