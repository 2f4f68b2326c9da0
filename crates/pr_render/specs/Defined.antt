-- Linking words, for proofs: which marks have been defined.
use Rattle.std.specs.Prelude.{◌≡◌, Bool, false, not, List, ◌++◌, ℕ, flat_map, map, slice_index_or}
use Rattle.std.specs.List.{filter}
use Rattle.pr_page.specs.declared.paper.Placed.{Placed}
use Rattle.pr_page.specs.declared.paper.Mark.{Mark}
use Rattle.pr_dots.specs.declared.character_sets.Shapes.{Shapes}
use Rattle.pr_render.specs.Svg.{definition_svg, each_once, number_of}

-- a mark that has not been defined
abbrev pub is_new : List Bool → Mark → Bool
is_new defined mark = not (slice_index_or defined (number_of mark) false)

-- the definitions that marks still need
abbrev pub new_definitions : Shapes → List Bool → List Mark → List ℕ
new_definitions shapes defined marks = flat_map (definition_svg shapes) (filter (is_new defined) (each_once marks))

-- the marks of a line
abbrev pub marks_on : List Placed → List Mark
marks_on placed = map (λ p. p.mark) placed

-- whatever marks follow, these have been defined: the text so far and the definitions that are still wanted are the same
abbrev pub HasDefined : Shapes → List Mark → List ℕ → List Bool → List ℕ → List Bool → Type 0
HasDefined shapes marks text defined new_text new_defined =
    (rest : List Mark) → new_text ++ new_definitions shapes new_defined rest ≡ text ++ new_definitions shapes defined (marks ++ rest)
