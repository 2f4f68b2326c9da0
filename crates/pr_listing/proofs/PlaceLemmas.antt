-- Lines of a saved program that are passed one by one.
use Rattle.std.proofs.Common.{◌≡◌, ◌≤◌, ℕ, ◌+◌, List, [], ◌∷◌, ◌++◌, length, drop, refl, ap, sym, ◌∙◌, arith, subst, length-append}
use Rattle.pr_listing.specs.Places.{IsLineAt, IsPassedTo}
use Rattle.pr_listing.specs.Program.{BeginsWith, BeginsWithLines, Holds, Line}
use Rattle.pr_listing.proofs.Lines.{begins-one_more}
use Rattle.pr_listing.proofs.Unique.{IsStop, none_past, one_line, same_rest}

-- before the first line
pub none_passed : (file program rest : List ℕ) → program ≡ file → 2 ≤ length program → rest ≡ drop 2 program → IsPassedTo file rest 1
none_passed file [] rest e l r = absurd (omega (arith, l))
none_passed file (a ∷ []) rest e l r = absurd (omega (arith, l))
none_passed file (a ∷ b ∷ more) rest e l r = record {
  lines = [];
  held = (a, b, rest, sym e ∙ ap (λ v. a ∷ b ∷ v) (sym r), refl);
  numbered = refl;
}

-- one line more is passed
pub passed-one_more : (file rest after : List ℕ) (number : ℕ) (l : Line) → IsPassedTo file rest number → BeginsWith l rest after → IsPassedTo file after (number + 1)
passed-one_more file rest after number l h b = record {
  lines = h.lines ++ l ∷ [];
  held = (h.held.0, h.held.1, h.held.2, h.held.3, begins-one_more h.lines l h.held.2 rest after h.held.4 b);
  numbered = omega (arith, h.numbered, length-append h.lines (l ∷ []));
}

-- a file's bytes after its load address are one list
same_bytes : (file : List ℕ) (ls ms : List Line) (rest left : List ℕ) (h : Holds ls file rest) (k : Holds ms file left) → h.2 ≡ k.2
same_bytes file ls ms rest left h k =
    let same : h.0 ∷ h.1 ∷ h.2 ≡ k.0 ∷ k.1 ∷ k.2 = sym h.3 ∙ k.3 in
    cc

-- the line with the number that comes next is the next one
pub next_is : (file rest after : List ℕ) (number : ℕ) (l m : Line) → IsPassedTo file rest number → BeginsWith l rest after → IsLineAt file number m → l ≡ m
next_is file rest after number l m h b (ms, left, behind, k, c, e) =
    let bytes : h.held.2 ≡ k.2 = same_bytes file h.lines ms rest left h.held k in
    let same : rest ≡ left = same_rest h.lines ms h.held.2 rest left h.held.4 (subst (λ (v : List ℕ). BeginsWithLines ms v left) (sym bytes) k.4) (omega (arith, h.numbered, e)) in
    (one_line l m left after behind (subst (λ (v : List ℕ). BeginsWith l v after) same b) c).0

-- the next line has the number that comes next
pub next_at : (file rest after : List ℕ) (number : ℕ) (l : Line) → IsPassedTo file rest number → BeginsWith l rest after → IsLineAt file number l
next_at file rest after number l h b = (h.lines, rest, after, h.held, b, h.numbered)

-- at a stop no line has this number or a later one
pub no_such_line : (file rest : List ℕ) (number count : ℕ) (m : Line) → IsPassedTo file rest count → IsStop rest → count ≤ number → IsLineAt file number m → ⊥
no_such_line file rest number count m h s within (ms, left, behind, k, c, e) =
    let bytes : h.held.2 ≡ k.2 = same_bytes file h.lines ms rest left h.held k in
    none_past h.lines ms h.held.2 rest left m behind h.held.4 s (subst (λ (v : List ℕ). BeginsWithLines ms v left) (sym bytes) k.4) c (omega (arith, h.numbered, e, within))
