-- The modes at a token, looked up in the tokens before it.
use Rattle.std.proofs.Common.{◌≡◌, ℕ, false, [], ◌∷◌, inl, inr, refl, sym, ap, ◌∙◌, subst}
use Rattle.std.specs.Prelude.{◌==◌, ◌||◌, ◌&&◌, not, if◌then◌else◌}
use Rattle.std.proofs.lemmas.Bool.Decides.{eqb_tells}
use Rattle.pr_page.specs.Codes.{code_of}
use Rattle.pr_page.specs.ModeLaws.{last_mode, last_width, last_reverse, last_set, modes_of, ModesLookBack}
use Rattle.pr_page.specs.Token.{Plain}

-- a byte is this one or not
one_of : (k : ℕ) (P : ℕ → Type 0) (b : ℕ) → P k → ((b == k) ≡ false → P b) → P b
one_of k P b h f = elim (eqb_tells b k) [ inl e ↦ subst P (sym e.1) h | inr n ↦ f n.0 ]

-- the last codes after one more byte
abbrev Looks : (g w r o b : ℕ) → Type 0
Looks g w r o b =
    (code_of b).sets (modes_of g w r o)
    ≡ modes_of (if (b == 8 || (b == 14 || b == 15)) then b else g) (if (b == 14 || b == 15) then b else w)
    (if (b == 13 || (b == 18 || (b == 146 && not (g == 8)))) then b else r)
    (if (b == 13 || (b == 17 || (b == 145 && not (g == 8)))) then b else o)

looks_at : (g w r o b : ℕ) → Looks g w r o b
unfolding code_of
looks_at g w r o b =
    let by = λ (k : ℕ). one_of k (Looks g w r o) b in
    by 8 refl (λ n8. by 10 refl (λ n10. by 13 refl (λ n13. by 14 refl (λ n14. by 15 refl (λ n15. by 16 refl (λ n16.
    by 17 refl (λ n17. by 18 refl (λ n18. by 26 refl (λ n26. by 27 refl (λ n27.
    by 145 (elim (eqb_tells g 8) [ inl e ↦ rw e.0 refl | inr n ↦ rw n.0 refl ]) (λ n145.
    by 146 (elim (eqb_tells g 8) [ inl e ↦ rw e.0 refl | inr n ↦ rw n.0 refl ]) (λ n146.
    rw (n8, n10, n13, n14, n15, n16, n17, n18, n26, n27, n145, n146) refl))))))))))))

pub looks_back : ModesLookBack
looks_back [] = refl
looks_back (Plain lower b ∷ before) =
    ap (code_of b).sets (looks_back before)
    ∙ looks_at (last_mode before) (last_width before) (last_reverse before) (last_set before) b
looks_back (t ∷ before) = looks_back before
