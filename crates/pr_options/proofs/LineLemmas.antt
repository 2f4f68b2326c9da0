-- The names of lines whose probes invert.
use Rattle.std.proofs.Common.{◌≡◌, ◌<◌, ℕ, List, [], ◌∷◌, length, drop, refl, ap, sym, ◌∙◌, arith, Option, Some, None}
use Rattle.std.specs.Prelude.{◌==◌, false, option_and_then}
use Rattle.std.specs.List.{slice_split}
use Rattle.std.proofs.lemmas.List.{drop_all}
use Rattle.pr_capture.specs.Recording.{alike}
use Rattle.pr_capture.specs.declared.signals.Probes.{Probes}
use Rattle.pr_options.specs.Options.{inverted_of, with_line, with_lines}

-- a name leaves it to the others
named : (p : Probes) (ws rest : List (List ℕ)) (w : List ℕ) (o : Option Probes) → ws ≡ w ∷ rest → with_line p w ≡ o
    → with_lines p ws ≡ option_and_then (λ more. with_lines more rest) o
named p ws rest w o cut is = ap (with_lines p) cut ∙ ap (option_and_then (λ more. with_lines more rest)) is

pub lines_kept : (p q : Probes) (ws rest : List (List ℕ)) (w : List ℕ) (all : Option Probes) → ws ≡ w ∷ rest → with_line p w ≡ Some q
    → with_lines p ws ≡ all → with_lines q rest ≡ all
lines_kept p q ws rest w all cut is e = sym (named p ws rest w (Some q) cut is) ∙ e

-- a word that is no name decides
pub lines_bad : (p : Probes) (ws rest : List (List ℕ)) (w : List ℕ) (all : Option Probes) → ws ≡ w ∷ rest → with_line p w ≡ None
    → with_lines p ws ≡ all → None ≡ all
lines_bad p ws rest w all cut is e = sym (named p ws rest w None cut is) ∙ e

-- all names were read
pub lines_read : (p : Probes) (n : ℕ) (ws : List (List ℕ)) (all : Option Probes) → n ≡ length ws → with_lines p (drop n ws) ≡ all → Some p ≡ all
lines_read p n ws all end e = let none : drop n ws ≡ [] = drop_all n ws (omega (arith, end)) in sym (ap (with_lines p) none) ∙ e

-- the names of a text that is not empty
pub lines_of_text : (text : List ℕ) → 0 < length text → with_lines (alike false) (slice_split (λ x. x == 44) text) ≡ inverted_of text
lines_of_text [] some = absurd (omega (arith, some))
lines_of_text (b ∷ bs) some = refl
