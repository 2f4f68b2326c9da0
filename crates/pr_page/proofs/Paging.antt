-- How the lines grow with one more act.
use Rattle.std.proofs.Common.{◌≡◌, ℕ, List, [], ◌∷◌, ◌++◌, inl, inr, refl, sym, ap, ◌∙◌, subst, append_assoc, arith, ◌+◌, ◌≤◌, ◌<◌, zero-add}
use Rattle.std.specs.Prelude.{reverse}
use Rattle.std.proofs.lemmas.List.{append-nil}
use Rattle.std.proofs.lemmas.Grind.{reverse_onto}
use Rattle.std.proofs.lemmas.Bool.Decides.{leb_tells}
use Rattle.pr_page.specs.Acts.{Act, End, Move, Print}
use Rattle.pr_page.specs.Lines.{place_after, IsLine, marks_of, pitch_before, left_after, BeginsWithRow, AreLines}
use Rattle.pr_page.specs.Steps.{sheet_after, sheet_after_all}
use Rattle.pr_page.specs.declared.paper.Row.{Row}
use Rattle.pr_page.specs.declared.sheet.Sheet.{Sheet}

-- the acts fall into these rows and a line, which is at the last number
abbrev pub AreLinesTo : ℕ → List Act → List Row → List Act → ℕ → Type 0
AreLinesTo y acts [] line end = (acts ≡ reverse line) × IsLine line × (y ≡ end)
AreLinesTo y acts (row ∷ rows) line end =
    (first : BeginsWithRow y acts row) × AreLinesTo (y + pitch_before first.next) (left_after first.next first.more) rows line end

-- wherever the last line is
pub AreLinesTo-lines : (y : ℕ) (acts : List Act) (rows : List Row) (line : List Act) (end : ℕ) → AreLinesTo y acts rows line end → AreLines y acts rows line
AreLinesTo-lines y acts [] line end h = (h.0, h.1)
AreLinesTo-lines y acts (row ∷ rows) line end (first, h) =
    (first, AreLinesTo-lines (y + pitch_before first.next) (left_after first.next first.more) rows line end h)

left_after-push : (next : Act) (more : List Act) (a : Act) → left_after next more ++ a ∷ [] ≡ left_after next (more ++ a ∷ [])
left_after-push (End g) more a = refl
left_after-push (Print g m w) more a = refl
left_after-push (Move x) more a = refl

-- an act that goes on the last line
pub AreLinesTo-push : (y : ℕ) (acts : List Act) (rows : List Row) (last : List Act) (end : ℕ) (a : Act) → IsLine (a ∷ last) →
    AreLinesTo y acts rows last end → AreLinesTo y (acts ++ a ∷ []) rows (a ∷ last) end
AreLinesTo-push y acts [] last end a line h =
    (ap (λ acts. acts ++ a ∷ []) h.0 ∙ sym (reverse_onto last a []), line, h.2)
AreLinesTo-push y acts (row ∷ rows) last end a line (first, h) = (
  record {
    line = first.line;
    next = first.next;
    more = first.more ++ a ∷ [];
    parts = rw first.parts (append_assoc (reverse first.line) (first.next ∷ first.more) (a ∷ []));
    is_line = first.is_line;
    is_longest = first.is_longest;
    is_row = first.is_row;
  },
  rw (← left_after-push first.next first.more a) (AreLinesTo-push (y + pitch_before first.next) (left_after first.next first.more) rows last end a line h),
)

-- an act that closes the last line, and what it leaves is a line
pub AreLinesTo-close : (y : ℕ) (acts : List Act) (rows : List Row) (last : List Act) (end : ℕ) (a : Act) (line : List Act) →
    (IsLine (a ∷ last) → ⊥) → left_after a [] ≡ reverse line → IsLine line →
    AreLinesTo y acts rows last end →
    AreLinesTo y (acts ++ a ∷ []) (rows ++ record { y = end; marks = marks_of last } ∷ []) line (end + pitch_before a)
AreLinesTo-close y acts [] last end a line longest left is_line h = (
  record {
    line = last;
    next = a;
    more = [];
    parts = ap (λ acts. acts ++ a ∷ []) h.0;
    is_line = h.1;
    is_longest = longest;
    is_row = ap (λ y. record { y = y; marks = marks_of last }) (sym h.2);
  },
  (left, is_line, ap (λ y. y + pitch_before a) h.2),
)
AreLinesTo-close y acts (row ∷ rows) last end a line longest left is_line (first, h) = (
  record {
    line = first.line;
    next = first.next;
    more = first.more ++ a ∷ [];
    parts = rw first.parts (append_assoc (reverse first.line) (first.next ∷ first.more) (a ∷ []));
    is_line = first.is_line;
    is_longest = first.is_longest;
    is_row = first.is_row;
  },
  rw (← left_after-push first.next first.more a) (AreLinesTo-close (y + pitch_before first.next) (left_after first.next first.more) rows last end a line longest left is_line h),
)

-- the sheet has the lines of the acts
pub record IsSheet (acts : List Act) (sheet : Sheet) : Type 0 where
  pub last : List Act
  pub is_line : IsLine last
  pub are_lines : AreLinesTo 0 acts sheet.paper.rows last sheet.y
  pub held : sheet.paper.held ≡ marks_of last
  pub position : sheet.position ≡ place_after last

-- the mark fits a line by itself
abbrev pub IsNarrow : Act → Type 0
IsNarrow (Print graphic mark width) = width ≤ 480
IsNarrow (Move x) = Unit {0}
IsNarrow (End graphic) = Unit {0}

-- the row that ends, as the sheet has it
row_held : (sheet : Sheet) (last : List Act) → sheet.paper.held ≡ marks_of last → (rows : List Row) →
    rows ++ record { y = sheet.y; marks = marks_of last } ∷ [] ≡ rows ++ record { y = sheet.y; marks = sheet.paper.held } ∷ []
row_held sheet last h rows = ap (λ marks. rows ++ record { y = sheet.y; marks = marks } ∷ []) (sym h)

closes : (acts : List Act) (sheet : Sheet) (a : Act) (line : List Act) (s : IsSheet acts sheet) →
    (IsLine (a ∷ s.last) → ⊥) → left_after a [] ≡ reverse line → IsLine line →
    AreLinesTo 0 (acts ++ a ∷ []) (sheet.paper.rows ++ record { y = sheet.y; marks = sheet.paper.held } ∷ []) line (sheet.y + pitch_before a)
closes acts sheet a line s longest left is_line =
    subst (λ rows. AreLinesTo 0 (acts ++ a ∷ []) rows line (sheet.y + pitch_before a)) (row_held sheet s.last s.held sheet.paper.rows)
    (AreLinesTo-close 0 acts sheet.paper.rows s.last sheet.y a line longest left is_line s.are_lines)

pub IsSheet-push : (acts : List Act) (sheet : Sheet) (a : Act) → IsNarrow a → IsSheet acts sheet → IsSheet (acts ++ a ∷ []) (sheet_after sheet a)
IsSheet-push acts sheet (End g) narrow s = record {
  last = [];
  is_line = tt;
  are_lines = closes acts sheet (End g) [] s (λ h. h) refl tt;
  held = refl;
  position = refl;
}
IsSheet-push acts sheet (Move x) narrow s = record {
  last = Move x ∷ s.last;
  is_line = s.is_line;
  are_lines = AreLinesTo-push 0 acts sheet.paper.rows s.last sheet.y (Move x) s.is_line s.are_lines;
  held = s.held;
  position = refl;
}
IsSheet-push acts sheet (Print g m w) narrow s = elim (leb_tells (sheet.position + w) 480) [
  | inl e ↦ rw e.0 (
      let fits : place_after s.last + w ≤ 480 = rw (← s.position) e.1 in
      record {
        last = Print g m w ∷ s.last;
        is_line = (fits, s.is_line);
        are_lines = AreLinesTo-push 0 acts sheet.paper.rows s.last sheet.y (Print g m w) (fits, s.is_line) s.are_lines;
        held = rw (s.held, s.position);
        position = rw s.position;
      })
  | inr e ↦ rw e.0 (
      let over : 480 < place_after s.last + w = rw (← s.position) e.1 in
      let alone : 0 + w ≤ 480 = omega arith in
      record {
        last = Print g m w ∷ [];
        is_line = (alone, tt);
        are_lines = closes acts sheet (Print g m w) (Print g m w ∷ []) s (λ h. absurd (omega (arith, over, h.0))) refl (alone, tt);
        held = refl;
        position = sym (zero-add w);
      })
]

-- each mark fits a line by itself
abbrev pub AreNarrow : List Act → Type 0
AreNarrow [] = Unit {0}
AreNarrow (a ∷ acts) = IsNarrow a × AreNarrow acts

pub IsSheet-append : (acts : List Act) (sheet : Sheet) (more : List Act) → AreNarrow more → IsSheet acts sheet → IsSheet (acts ++ more) (sheet_after_all sheet more)
IsSheet-append acts sheet [] narrow s = rw (append-nil acts) s
IsSheet-append acts sheet (a ∷ more) narrow s =
    rw (← append_assoc acts (a ∷ []) more) (IsSheet-append (acts ++ a ∷ []) (sheet_after sheet a) more narrow.1 (IsSheet-push acts sheet a narrow.0 s))
