-- A text that is added to part by part.
use Rattle.std.proofs.Common.{◌≡◌, ℕ, List, [], ◌++◌, sym, ap, ◌∙◌, append-nil}
use Rattle.std.proofs.lemmas.List.{append_assoc}

-- one part more in front of what follows
pub put : (a b text x y : List ℕ) → b ≡ a ++ x → text ≡ b ++ y → text ≡ a ++ (x ++ y)
put a b text x y e f = f ∙ (ap (λ z. z ++ y) e ∙ append_assoc a x y)

-- ten parts of a text
pub ten-parts : (t0 t1 t2 t3 t4 t5 t6 t7 t8 t9 t10 : List ℕ) (a b c d e f g h i j : List ℕ)
    → t1 ≡ t0 ++ a → t2 ≡ t1 ++ b → t3 ≡ t2 ++ c → t4 ≡ t3 ++ d → t5 ≡ t4 ++ e
    → t6 ≡ t5 ++ f → t7 ≡ t6 ++ g → t8 ≡ t7 ++ h → t9 ≡ t8 ++ i → t10 ≡ t9 ++ j
    → t10 ≡ t0 ++ (a ++ (b ++ (c ++ (d ++ (e ++ (f ++ (g ++ (h ++ (i ++ (j ++ []))))))))))
ten-parts t0 t1 t2 t3 t4 t5 t6 t7 t8 t9 t10 a b c d e f g h i j e1 e2 e3 e4 e5 e6 e7 e8 e9 e10 =
    let p10 : t10 ≡ t9 ++ (j ++ []) = e10 ∙ ap (λ z. t9 ++ z) (sym (append-nil j)) in
    let p9 : t10 ≡ t8 ++ (i ++ (j ++ [])) = put t8 t9 t10 i (j ++ []) e9 p10 in
    let p8 : t10 ≡ t7 ++ (h ++ (i ++ (j ++ []))) = put t7 t8 t10 h (i ++ (j ++ [])) e8 p9 in
    let p7 : t10 ≡ t6 ++ (g ++ (h ++ (i ++ (j ++ [])))) = put t6 t7 t10 g (h ++ (i ++ (j ++ []))) e7 p8 in
    let p6 : t10 ≡ t5 ++ (f ++ (g ++ (h ++ (i ++ (j ++ []))))) = put t5 t6 t10 f (g ++ (h ++ (i ++ (j ++ [])))) e6 p7 in
    let p5 : t10 ≡ t4 ++ (e ++ (f ++ (g ++ (h ++ (i ++ (j ++ [])))))) = put t4 t5 t10 e (f ++ (g ++ (h ++ (i ++ (j ++ []))))) e5 p6 in
    let p4 : t10 ≡ t3 ++ (d ++ (e ++ (f ++ (g ++ (h ++ (i ++ (j ++ []))))))) =
    put t3 t4 t10 d (e ++ (f ++ (g ++ (h ++ (i ++ (j ++ [])))))) e4 p5 in
    let p3 : t10 ≡ t2 ++ (c ++ (d ++ (e ++ (f ++ (g ++ (h ++ (i ++ (j ++ [])))))))) =
    put t2 t3 t10 c (d ++ (e ++ (f ++ (g ++ (h ++ (i ++ (j ++ []))))))) e3 p4 in
    let p2 : t10 ≡ t1 ++ (b ++ (c ++ (d ++ (e ++ (f ++ (g ++ (h ++ (i ++ (j ++ []))))))))) =
    put t1 t2 t10 b (c ++ (d ++ (e ++ (f ++ (g ++ (h ++ (i ++ (j ++ [])))))))) e2 p3 in
    put t0 t1 t10 a (b ++ (c ++ (d ++ (e ++ (f ++ (g ++ (h ++ (i ++ (j ++ []))))))))) e1 p2
