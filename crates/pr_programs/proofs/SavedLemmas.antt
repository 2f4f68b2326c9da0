-- Lines of a saved program that are read one by one.
use Rattle.std.proofs.Common.{◌≡◌, ℕ, ◌+◌, List, [], ◌∷◌, ◌++◌, ◌⊎◌, inl, inr, refl, ap, sym, ◌∙◌, arith, subst, append_assoc, append-nil, length-append}
use Rattle.pr_listing.specs.Found.{found_form}
use Rattle.pr_listing.specs.Containers.{program_in}
use Rattle.pr_listing.specs.Program.{BeginsWith, BeginsWithLines, IsProgramFault, Line}
use Rattle.pr_listing.specs.declared.fault.ListingFault.{ListingFault}
use Rattle.pr_listing.specs.declared.fault.ListingFault.TheVariants as listing
use Rattle.pr_listing.specs.declared.form.ListingForm.TheVariants.{Program as Saved}
use Rattle.pr_programs.specs.declared.fault.BasicFault.TheVariants.{NoMemory}
use Rattle.pr_programs.specs.Saved.{IsUnsaved, line_text, lines_text}
use Rattle.pr_programs.specs.Seen.{IsReadTo, least_after, unsaved}

-- one line more at the end
begins-one_more : (ls : List Line) (l : Line) (bytes rest after : List ℕ) → BeginsWithLines ls bytes rest
    → BeginsWith l rest after → BeginsWithLines (ls ++ l ∷ []) bytes after
begins-one_more [] l bytes rest after e b = (after, subst (λ (x : List ℕ). BeginsWith l x after) (sym e) b, refl)
begins-one_more (m ∷ ms) l bytes rest after h b = (h.0, h.1, begins-one_more ms l h.0 rest after h.2 b)

-- its text is at the end
text-one_more : (least : ℕ) (ls : List Line) (l : Line)
    → lines_text least (ls ++ l ∷ []) ≡ lines_text least ls ++ line_text (least_after least ls) l
text-one_more least [] l = append-nil (line_text least l)
text-one_more least (m ∷ ms) l = ap (λ t. line_text least m ++ t) (text-one_more (m.number + 1) ms l)
    ∙ sym (append_assoc (line_text least m) (lines_text (m.number + 1) ms) (line_text (least_after (m.number + 1) ms) l))

-- the next one has a greater number
least-one_more : (least : ℕ) (ls : List Line) (l : Line) → least_after least (ls ++ l ∷ []) ≡ l.number + 1
least-one_more least [] l = refl
least-one_more least (m ∷ ms) l = least-one_more (m.number + 1) ms l

-- one line more is read
pub read-one_more : (file text rest after : List ℕ) (number least next : ℕ) (l : Line) (more : List ℕ)
    → IsReadTo file text rest number least → BeginsWith l rest after → more ≡ text ++ line_text least l
    → next ≡ l.number + 1 → IsReadTo file more after (number + 1) next
read-one_more file text rest after number least next l more h b e goes = record {
  lines = h.lines ++ l ∷ [];
  held = (h.held.0, h.held.1, h.held.2, h.held.3, begins-one_more h.lines l h.held.2 rest after h.held.4 b);
  is_text = e ∙ ap (λ t. t ++ line_text least l) h.is_text
      ∙ ap (λ n. lines_text 0 h.lines ++ line_text n l) h.ascends ∙ sym (text-one_more 0 h.lines l);
  ascends = goes ∙ sym (least-one_more 0 h.lines l);
  numbered = omega (arith, h.numbered, length-append h.lines (l ∷ []));
}

-- why a saved program has no text
pub unsaved_is : (bytes : List ℕ) (f : ListingFault) → found_form bytes ≡ Saved
    → (f ≡ listing.NoMemory) ⊎ IsProgramFault (program_in bytes) f
    → (unsaved f ≡ NoMemory) ⊎ IsUnsaved bytes (unsaved f)
unsaved_is bytes f is (inl e) = inl (ap unsaved e)
unsaved_is bytes listing.NoMemory is (inr h) = inl refl
unsaved_is bytes listing.NoAddress is (inr h) = inr (listing.NoAddress, is, h, refl)
unsaved_is bytes listing.NoLine is (inr h) = inr (listing.NoLine, is, h, refl)
unsaved_is bytes (listing.CutOff n) is (inr h) = inr (listing.CutOff n, is, h, refl)
unsaved_is bytes (listing.UnknownName l c) is (inr h) = inr (listing.UnknownName l c, is, h, refl)
unsaved_is bytes (listing.BadByte l c) is (inr h) = inr (listing.BadByte l c, is, h, refl)
