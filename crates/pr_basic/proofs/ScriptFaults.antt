-- The first fault that is read is the script's first fault, and is at its place.
use Rattle.std.proofs.Common.{◌≡◌, ℕ, zero, suc, ◌+◌, ◌-◌, ◌<◌, ◌≤◌, List, [], ◌∷◌, ◌++◌, length, take, refl, ap, subst, sym, ◌∙◌, arith, Bool, true, false, append_assoc, Option, Some, None, Result, Ok, Err, length-append, ◌⊎◌, inl, inr}
use Rattle.std.specs.Prelude.{nat_le}
use Rattle.std.proofs.lemmas.Grind.{common_steps}
use Rattle.std.proofs.lemmas.List.{append_cancel_right}
use Rattle.pr_basic.specs.Limits.{statement_limit}
use Rattle.pr_basic.specs.Lexemes.{Colon, Digits, Lexeme, Quoted}
use Rattle.pr_basic.specs.Lexing.{after_part, lexemes_of, part_of, past, unspaced}
use Rattle.pr_basic.specs.Grammar.{AreLines, AreParts, parts, without_return}
use Rattle.pr_base.specs.Digits.{number_of}
use Rattle.pr_base.specs.Lines.{lines_of}
use Rattle.pr_basic.specs.FaultRules.{BeginsStatement, IsPartFault, Placed, Spot, start_of, within}
use Rattle.pr_basic.specs.FaultPlaces.{AreLinesFault, ArePartsFault, IsFaultOfLexemes, IsFirstFaultAt, IsLineFault, at_number, size_of, with_colons}
use Rattle.pr_basic.specs.Reading.{◌>>=◌}
use Rattle.pr_basic.specs.ReadingScripts.{Passed, ScriptError, and_more, at_line, behind, column_of, counted, in_line, in_part, is_begun, line_statements, lines_statements, split_number, room_after, script_of, statements_in, statements_of}
use Rattle.pr_basic.specs.declared.fault.LineFault.{LineFault}
use Rattle.pr_basic.specs.declared.fault.LineFault.TheVariants.{BadNumber, TooMany}
use Rattle.pr_basic.specs.declared.statement.Statement.{Statement}
use Rattle.pr_basic.proofs.LexemesAgree.{lexemes_found, lexemes_spelled}
use Rattle.pr_basic.proofs.ListFaults.{bind_err, err_is}
use Rattle.pr_basic.proofs.PlacesFound.{begins_past, past_begins, past_lexemes, past_within, string_left, unspaced_within}
use Rattle.pr_basic.proofs.ScriptLaws.{front_taken, no_part_counted, parts_first}
use Rattle.pr_basic.proofs.ScriptsAgree.{counted_more, counted_none, counted_some, line_complete, line_sound, numbered_complete, numbered_sound}
use Rattle.pr_basic.proofs.Spots.{Fits, part_spot}
use Rattle.pr_basic.proofs.StatementFaults.{statement_fails}
use Rattle.pr_basic.proofs.StatementFaultsRead.{statement_fault_read}
use Rattle.pr_basic.proofs.StatementsAgree.{statement_complete, statement_sound}

-- a part that is begun begins with a keyword
begun_with : (part : List Lexeme) → is_begun part ≡ true → BeginsStatement part
begun_with [] h = absurd (cc)
begun_with (l ∷ ls) h = (l, ls, refl, h)

-- a part that begins with a keyword is begun
with_begun : (part : List Lexeme) → BeginsStatement part → is_begun part ≡ true
with_begun part h = rw h.2 h.3

-- a part that fails has a fault of the table
part_fails : (room : ℕ) (f : Placed) (part : List Lexeme) → counted room part ≡ Err f → IsPartFault room f part
part_fails zero f part h = cases (is_begun part) refl
  where
    cases : (t : Bool) → is_begun part ≡ t → IsPartFault zero f part
    cases true e =
        let said : counted zero part ≡ Err (TooMany, start_of part) = rw e refl in
        inl (sym (err_is (TooMany, start_of part) f _ said h), refl, begun_with part e)
    cases false e = inr (statement_fails part f (sym (rw e refl) ∙ h), λ z b. let k : true ≡ false = sym (with_begun part b) ∙ e in cc)
part_fails (suc room) f part h = inr (statement_fails part f (sym (counted_more (suc room) part (omega arith)) ∙ h), λ z b. absurd (omega (arith, z)))

-- a part with a fault of the table fails
part_fault_read : (room : ℕ) (f : Placed) (part : List Lexeme) → IsPartFault room f part → counted room part ≡ Err f
part_fault_read room f part (inl h) = rw (h.0, h.1, with_begun part h.2) refl
part_fault_read zero f part (inr h) = cases (is_begun part) refl
  where
    cases : (t : Bool) → is_begun part ≡ t → counted zero part ≡ Err f
    cases true e = absurd (h.1 refl (begun_with part e))
    cases false e = rw (e, statement_fault_read f part h.0) refl
part_fault_read (suc room) f part (inr h) = counted_more (suc room) part (omega arith) ∙ statement_fault_read f part h.0

-- a fault of a part that is placed by the lexemes before it
in_part_err : {A : Type 0} (part : List Lexeme) (r : Result A Placed) (f : LineFault) (at : Passed) → in_part part r ≡ Err (f, at)
    → (spot : Spot) × (r ≡ Err (f, spot)) × (at.done ≡ take (length part - length spot.next) part) × (at.inside ≡ spot.inside)
in_part_err part (Ok x) f at h = absurd (cc)
in_part_err part (Err (g, spot)) f at h =
    let same : (g, record { done = take (length part - length spot.next) part; inside = spot.inside }) ≡ (f, at) = err_is _ _ (in_part part (Err (g, spot))) refl h in
    let fault : g ≡ f = ap (λ (p : LineFault × Passed). p.0) same in
    let place = ap (λ (p : LineFault × Passed). p.1) same in
    (spot, ap (λ v. Err (v, spot)) fault, ap (λ (p : Passed). p.done) (sym place), ap (λ (p : Passed). p.inside) (sym place))

-- a fault that is reported after lexemes
behind_err : {A : Type 0} (front : List Lexeme) (r : Result A (LineFault × Passed)) (f : LineFault) (at : Passed) → behind front r ≡ Err (f, at)
    → (there : Passed) × (r ≡ Err (f, there)) × (at.done ≡ front ++ there.done) × (at.inside ≡ there.inside)
behind_err front (Ok x) f at h = absurd (cc)
behind_err front (Err (g, there)) f at h =
    let same : (g, record { done = front ++ there.done; inside = there.inside }) ≡ (f, at) = err_is _ _ (behind front (Err (g, there))) refl h in
    let fault : g ≡ f = ap (λ (p : LineFault × Passed). p.0) same in
    let place = ap (λ (p : LineFault × Passed). p.1) same in
    (there, ap (λ v. Err (v, there)) fault, ap (λ (p : Passed). p.done) (sym place), ap (λ (p : Passed). p.inside) (sym place))

-- a fault in the first part
at_first_part : (room : ℕ) (f : LineFault) (p : List Lexeme) (ps : List (List Lexeme)) (spot : Spot) (done : List Lexeme) (inside : ℕ) → done ≡ take (length p - length spot.next) p → inside ≡ spot.inside
    → IsPartFault room (f, spot) p → ArePartsFault room f done inside (p ∷ ps)
at_first_part room f p ps spot done inside d i h =
    let ends = (part_spot room f spot p h).ends in
    let left : room ≡ room - 0 = omega arith in
    let P : ℕ → Type 0 = λ n. IsPartFault n (f, within spot.next inside) p in
    let Q : ℕ → Type 0 = λ n. IsPartFault room (f, within spot.next n) p in
    record {
      before = [];
      part = p;
      after = ps;
      statements = [];
      front = ends.front;
      next = spot.next;
      cut = refl;
      good = refl;
      few = omega arith;
      fault = subst P left (subst Q (sym i) h);
      halves = ends.cut;
      at = d ∙ front_taken p ends.front spot.next ends.cut;
    }

-- a good part, and then a fault
after_part_fault : (room : ℕ) (f : LineFault) (done : List Lexeme) (inside : ℕ) (p : List Lexeme) (ps : List (List Lexeme)) (s : Option Statement) → counted room p ≡ Ok s → ArePartsFault (room_after room s) f done inside ps → ArePartsFault room f (p ++ Colon ∷ done) inside (p ∷ ps)
after_part_fault room f done inside p ps None h g = record {
  before = p ∷ g.before;
  part = g.part;
  after = g.after;
  statements = g.statements;
  front = g.front;
  next = g.next;
  cut = ap (λ v. p ∷ v) g.cut;
  good = inl (counted_none room p h, g.good);
  few = g.few;
  fault = g.fault;
  halves = g.halves;
  at = ap (λ v. p ++ Colon ∷ v) g.at ∙ sym (append_assoc p (Colon ∷ with_colons g.before) g.front);
}
after_part_fault room f done inside p ps (Some s) h g =
    let c = counted_some room p s h in
    let left : room - 1 - length g.statements ≡ room - length (s ∷ g.statements) = omega arith in
    let P : ℕ → Type 0 = λ n. IsPartFault n (f, within g.next inside) g.part in
    record {
      before = p ∷ g.before;
      part = g.part;
      after = g.after;
      statements = s ∷ g.statements;
      front = g.front;
      next = g.next;
      cut = ap (λ v. p ∷ v) g.cut;
      good = inr (s, g.statements, statement_sound p s c.0, refl, g.good);
      few = omega (arith, c.1, g.few);
      fault = subst P left g.fault;
      halves = g.halves;
      at = ap (λ v. p ++ Colon ∷ v) g.at ∙ sym (append_assoc p (Colon ∷ with_colons g.before) g.front);
    }

-- parts that fail have a fault of the table
parts_fail : (room : ℕ) (f : LineFault) (at : Passed) (ps : List (List Lexeme)) → statements_in room ps ≡ Err (f, at) → ArePartsFault room f at.done at.inside ps
unfolding statements_in
parts_fail room f at [] h = absurd (cc)
parts_fail room f at (p ∷ ps) h = elim (bind_err (in_part p (counted room p)) (λ s. behind (p ++ Colon ∷ []) (statements_in (room_after room s) ps) >>= λ ss. Ok (and_more s ss)) (f, at) h) [
  | inl k ↦ let e = in_part_err p (counted room p) f at k in at_first_part room f p ps e.0 at.done at.inside e.2 e.3 (part_fails room (f, e.0) p e.1)
  | inr x ↦ elim (bind_err (behind (p ++ Colon ∷ []) (statements_in (room_after room x.0) ps)) (λ ss. Ok (and_more x.0 ss)) (f, at) x.2) [
    | inl k ↦
        let e = behind_err (p ++ Colon ∷ []) (statements_in (room_after room x.0) ps) f at k in
        let first : counted room p ≡ Ok x.0 = in_part_read p (counted room p) x.0 x.1 in
        let g = after_part_fault room f e.0.done e.0.inside p ps x.0 first (parts_fail (room_after room x.0) f e.0 ps e.1) in
        let P : List Lexeme → ℕ → Type 0 = λ v n. ArePartsFault room f v n (p ∷ ps) in
        let Q : ℕ → Type 0 = λ n. P at.done n in
        let R : List Lexeme → Type 0 = λ v. P v e.0.inside in
        subst Q (sym e.3) (subst R (sym (append_assoc p (Colon ∷ []) e.0.done) ∙ sym e.2) g)
    | inr y ↦ absurd (let e = y.2 in cc)
  ]
]
  where
    in_part_read : (part : List Lexeme) (r : Result (Option Statement) Placed) (x : Option Statement) → in_part part r ≡ Ok x → r ≡ Ok x
    in_part_read part (Ok y) x e = let k : y ≡ x = cc in ap Ok k
    in_part_read part (Err y) x e = absurd (cc)

-- parts with a fault of the table fail
parts_fault_read : (room : ℕ) (f : LineFault) (inside : ℕ) (before : List (List Lexeme)) (part front next : List Lexeme) (after : List (List Lexeme)) (ss : List Statement) → AreParts before ss → length ss ≤ room → part ≡ front ++ next → IsPartFault (room - length ss) (f, within next inside) part
    → statements_in room (before ++ part ∷ after) ≡ Err (f, record { done = with_colons before ++ front; inside = inside })
unfolding statements_in
parts_fault_read room f inside [] part front next after ss good few halves h =
    let left : room - length ss ≡ room = rw good (omega arith) in
    let P : ℕ → Type 0 = λ n. IsPartFault n (f, within next inside) part in
    let taken : take (length part - length next) part ≡ front = front_taken part front next halves in
    rw (part_fault_read room (f, within next inside) part (subst P left h), taken) refl
parts_fault_read room f inside (p ∷ before) part front next after ss (inl k) few halves h = rw (k.0, no_part_counted room, parts_fault_read room f inside before part front next after ss k.1 few halves h) refl
parts_fault_read room f inside (p ∷ before) part front next after ss (inr k) few halves h =
    let size : length ss ≡ suc (length k.1) = ap length k.3 in
    let some : 0 < room = omega (arith, size, few) in
    let one : counted room p ≡ Ok (Some k.0) = counted_more room p some ∙ statement_complete k.0 p k.2 in
    let left : room - length ss ≡ room - 1 - length k.1 = omega (arith, size) in
    let P : ℕ → Type 0 = λ n. IsPartFault n (f, within next inside) part in
    let rest = parts_fault_read (room - 1) f inside before part front next after k.1 k.4 (omega (arith, size, few)) halves (subst P left h) in
    let joined : (p ++ Colon ∷ []) ++ (with_colons before ++ front) ≡ (p ++ Colon ∷ with_colons before) ++ front =
    append_assoc p (Colon ∷ []) (with_colons before ++ front) ∙ sym (append_assoc p (Colon ∷ with_colons before) front) in
    rw (one, rest) (ap (λ v. Err (f, record { done = v; inside = inside })) joined)

-- a line number that fails is above the bound
number_fails : (f : LineFault) (at : Passed) (ls : List Lexeme) → split_number ls ≡ Err (f, at) → (f ≡ BadNumber) × (ds : List ℕ) × (rest : List Lexeme) × (ls ≡ Digits ds ∷ rest) × (63999 < number_of ds) × (at.done ≡ []) × (at.inside ≡ 0)
unfolding split_number
number_fails f at (Digits ds ∷ ls) h = cases (nat_le (number_of ds) 63999) refl
  where
    cases : (t : Bool) → nat_le (number_of ds) 63999 ≡ t
        → (f ≡ BadNumber) × (es : List ℕ) × (rest : List Lexeme) × (Digits ds ∷ ls ≡ Digits es ∷ rest) × (63999 < number_of es) × (at.done ≡ []) × (at.inside ≡ 0)
    cases true e = let said : split_number (Digits ds ∷ ls) ≡ Ok (Digits ds ∷ [], ls) = rw e refl in absurd (cc)
    cases false e =
        let said : split_number (Digits ds ∷ ls) ≡ Err (BadNumber, record { done = []; inside = 0 }) = rw e refl in
        let same : (BadNumber, record { done = []; inside = 0 }) ≡ (f, at) = err_is _ _ (split_number (Digits ds ∷ ls)) said h in
        let large : 63999 < number_of ds = grind (arith, common_steps) in
        let place = ap (λ (p : LineFault × Passed). p.1) same in
        (ap (λ (p : LineFault × Passed). p.0) (sym same), ds, ls, refl, large, ap (λ (p : Passed). p.done) (sym place), ap (λ (p : Passed). p.inside) (sym place))
number_fails f at [] h = absurd (cc)
number_fails f at (l ∷ ls) h = absurd (cc)

-- a line number above the bound fails
large_number : (ds : List ℕ) (rest : List Lexeme) → 63999 < number_of ds → split_number (Digits ds ∷ rest) ≡ Err (BadNumber, record { done = []; inside = 0 })
unfolding split_number
large_number ds rest h =
    let large : nat_le (number_of ds) 63999 ≡ false = grind (arith, common_steps) in
    rw large refl

-- the lexemes of a line that fail have a fault of the table
lexemes_fail : (room : ℕ) (f : LineFault) (at : Passed) (ls : List Lexeme) → statements_of room ls ≡ Err (f, at) → IsFaultOfLexemes room f at.done at.inside ls
lexemes_fail room f at ls h = elim (bind_err (split_number ls) (λ p. behind p.0 (statements_in room (parts p.1))) (f, at) h) [
  | inl k ↦ inl (number_fails f at ls k)
  | inr x ↦
      let e = behind_err x.0.0 (statements_in room (parts x.0.1)) f at x.2 in
      let n = numbered_sound ls x.0.0 x.0.1 x.1 in
      let P : ℕ → Type 0 = λ v. ArePartsFault room f e.0.done v (parts x.0.1) in
      inr (x.0.1, x.0.0, e.0.done, n.0, n.1, subst P (sym e.3) (parts_fail room f e.0 (parts x.0.1) e.1), e.2)
]

-- lexemes with a fault of the table fail
lexemes_fault_read : (room : ℕ) (f : LineFault) (done : List Lexeme) (inside : ℕ) (ls : List Lexeme) → IsFaultOfLexemes room f done inside ls → statements_of room ls ≡ Err (f, record { done = done; inside = inside })
lexemes_fault_read room f done inside ls (inl h) = rw (h.3, large_number h.1 h.2 h.4, h.0, h.5, h.6) refl
lexemes_fault_read room f done inside ls (inr h) =
    let g = h.5 in
    let n = numbered_complete ls h.0 h.3 in
    let said : statements_in room (parts h.0) ≡ Err (f, record { done = h.2; inside = inside }) =
    ap (statements_in room) g.cut ∙ parts_fault_read room f inside g.before g.part g.front g.next g.after g.statements g.good g.few g.halves g.fault
    ∙ ap (λ v. Err (f, record { done = v; inside = inside })) (sym g.at) in
    let number : n.0 ≡ h.1 = same_front n.0 h.1 h.0 (sym n.2 ∙ h.4) in
    rw (n.1, said, number, h.6) refl
  where
    same_front : (a b c : List Lexeme) → a ++ c ≡ b ++ c → a ≡ b
    same_front a b c e = append_cancel_right a b c e

-- the first part, and what follows it
split_part : (ls : List Lexeme) → (more : List Lexeme) × (ls ≡ part_of ls ++ more) × ((after_part ls ≡ []) ⊎ (more ≡ Colon ∷ after_part ls))
unfolding part_of after_part
split_part [] = ([], refl, inl refl)
split_part (Colon ∷ ls) = (Colon ∷ ls, refl, inr refl)
split_part (l ∷ ls) = let s = split_part ls in (s.0, ap (λ v. l ∷ v) s.1, s.2)

-- the parts up to one, with their colons, begin the lexemes
cut_front : (before : List (List Lexeme)) (part : List Lexeme) (after : List (List Lexeme)) (ls : List Lexeme) → parts ls ≡ before ++ part ∷ after → (more : List Lexeme) × (ls ≡ with_colons before ++ (part ++ more))
unfolding parts
cut_front [] part after [] h = absurd (cc)
cut_front (p ∷ before) part after [] h = absurd (cc)
cut_front [] part after (l ∷ ls) h =
    let two : part_of (l ∷ ls) ∷ parts (after_part (l ∷ ls)) ≡ part ∷ after = sym (parts_first l ls) ∙ h in
    let first : part_of (l ∷ ls) ≡ part = cc in
    let s = split_part (l ∷ ls) in
    (s.0, s.1 ∙ ap (λ v. v ++ s.0) first)
cut_front (p ∷ before) part after (l ∷ ls) h =
    let two : part_of (l ∷ ls) ∷ parts (after_part (l ∷ ls)) ≡ p ∷ (before ++ part ∷ after) = sym (parts_first l ls) ∙ h in
    let first : part_of (l ∷ ls) ≡ p = cc in
    let others : parts (after_part (l ∷ ls)) ≡ before ++ part ∷ after = cc in
    let s = split_part (l ∷ ls) in
    let more = cut_front before part after (after_part (l ∷ ls)) others in
    elim s.2 [
      | inl e ↦ absurd (no_parts before part after (sym (ap parts e) ∙ others))
      | inr e ↦ (more.0, s.1 ∙ ap (λ v. part_of (l ∷ ls) ++ v) e ∙ ap (λ v. v ++ Colon ∷ after_part (l ∷ ls)) first ∙ ap (λ v. p ++ Colon ∷ v) more.1 ∙ sym (append_assoc p (Colon ∷ with_colons before) (part ++ more.0)))
    ]
  where
    no_parts : (xs : List (List Lexeme)) (x : List Lexeme) (ys : List (List Lexeme)) → parts [] ≡ xs ++ x ∷ ys → ⊥
    no_parts [] x ys e = cc
    no_parts (y ∷ xs) x ys e = cc

-- the lexemes of a line with a fault: those before its place, and those from there on
pub record IsCutAt (ls done : List Lexeme) (inside : ℕ) : Type 0 where
  pub next : List Lexeme
  pub more : List Lexeme
  pub cut : ls ≡ done ++ (next ++ more)
  pub fits : Fits (within next inside)

-- the lexemes of a line with a fault are cut at its place
cut_at : (room : ℕ) (f : LineFault) (done : List Lexeme) (inside : ℕ) (ls : List Lexeme) → IsFaultOfLexemes room f done inside ls → IsCutAt ls done inside
cut_at room f done inside ls (inl h) = record { next = []; more = ls; cut = ap (λ v. v ++ ls) (sym h.5); fits = record { fits = inl h.6 } }
cut_at room f done inside ls (inr h) =
    let g = h.5 in
    let c = cut_front g.before g.part g.after h.0 g.cut in
    let s = part_spot _ f (within g.next inside) g.part g.fault in
    record {
      next = g.next;
      more = c.0;
      cut =
          h.4 ∙ ap (λ v. h.1 ++ v) (c.1 ∙ ap (λ v. with_colons g.before ++ (v ++ c.0)) g.halves ∙ ap (λ v. with_colons g.before ++ v) (append_assoc g.front g.next c.0) ∙ sym (append_assoc (with_colons g.before) g.front (g.next ++ c.0)) ∙ ap (λ v. v ++ (g.next ++ c.0)) (sym g.at))
          ∙ sym (append_assoc h.1 h.2 (g.next ++ c.0)) ∙ ap (λ v. v ++ (g.next ++ c.0)) (sym h.6);
      fits = s.fits;
    }

-- what is inside a string is left
inside_left : (line : List ℕ) (next more : List Lexeme) (inside : ℕ) → lexemes_of line ≡ next ++ more → Fits (within next inside) → inside ≤ length (unspaced line)
inside_left line next more inside h k = cases k.fits
  where
    cases : (inside ≡ 0) ⊎ ((s : List ℕ) × (ls : List Lexeme) × (next ≡ Quoted s ∷ ls) × (inside ≤ suc (length s))) → inside ≤ length (unspaced line)
    cases (inl e) = omega (arith, e)
    cases (inr e) = omega (arith, e.3, string_left line e.0 (e.1 ++ more) (h ∙ ap (λ v. v ++ more) e.2))

-- a place in a line, with what is left there
pub record IsPlaced (line : List ℕ) (at : Passed) : Type 0 where
  pub inside : at.inside ≤ length (unspaced (past (length at.done) line))
  pub left : length (unspaced (past (length at.done) line)) ≤ length line
  pub more : List Lexeme
  pub cut : lexemes_of line ≡ at.done ++ more

-- a fault's place in a line
placed_in : (room : ℕ) (f : LineFault) (at : Passed) (line : List ℕ) → IsFaultOfLexemes room f at.done at.inside (lexemes_of line) → IsPlaced line at
placed_in room f at line h =
    let c = cut_at room f at.done at.inside (lexemes_of line) h in
    let next = past_lexemes at.done (c.next ++ c.more) line c.cut in
    record {
      inside = inside_left (past (length at.done) line) c.next c.more at.inside next c.fits;
      left = omega (arith, unspaced_within (past (length at.done) line), past_within (length at.done) line);
      more = c.next ++ c.more;
      cut = c.cut;
    }

-- a fault that is reported in a line
in_line_err : {A : Type 0} (line : List ℕ) (r : Result A (LineFault × Passed)) (f : LineFault) (column : ℕ) → in_line line r ≡ Err (f, column) → (at : Passed) × (r ≡ Err (f, at)) × (column ≡ column_of line at)
in_line_err line (Ok x) f column h = absurd (cc)
in_line_err line (Err (g, at)) f column h =
    let same : (g, column_of line at) ≡ (f, column) = err_is _ _ (in_line line (Err (g, at))) refl h in
    (at, ap (λ (p : LineFault × ℕ). Err (p.0, at)) same, ap (λ (p : LineFault × ℕ). p.1) (sym same))

-- a fault of a line's lexemes is the line's, at its column
pub line_placed : (room : ℕ) (f : LineFault) (at : Passed) (bytes : List ℕ) → IsFaultOfLexemes room f at.done at.inside (lexemes_of bytes) → IsLineFault room f (column_of bytes at) bytes
line_placed room f at bytes h =
    let p = placed_in room f at bytes h in
    record {
      lexemes = lexemes_of bytes;
      done = at.done;
      inside = at.inside;
      left = unspaced (past (length at.done) bytes);
      found = lexemes_spelled (length bytes) bytes (omega arith);
      fault = h;
      begins = past_begins at.done p.more bytes p.cut;
      at = omega (arith, p.inside, p.left);
    }

-- a line that fails has a fault of the table
line_fails : (room : ℕ) (f : LineFault) (column : ℕ) (line : List ℕ) → line_statements room line ≡ Err (f, column) → IsLineFault room f column (without_return line)
line_fails room f column line h =
    let bytes = without_return line in
    let e = in_line_err bytes (statements_of room (lexemes_of bytes)) f column h in
    let P : ℕ → Type 0 = λ n. IsLineFault room f n bytes in
    subst P (sym e.2) (line_placed room f e.0 bytes (lexemes_fail room f e.0 (lexemes_of bytes) e.1))

-- a line with a fault of the table fails
line_fault_read : (room : ℕ) (f : LineFault) (column : ℕ) (line : List ℕ) → IsLineFault room f column (without_return line) → line_statements room line ≡ Err (f, column)
line_fault_read room f column line h =
    let bytes = without_return line in
    let ls : lexemes_of bytes ≡ h.lexemes = lexemes_found bytes h.lexemes h.found in
    let at : Passed = record { done = h.done; inside = h.inside } in
    let said : statements_of room (lexemes_of bytes) ≡ Err (f, at) = ap (statements_of room) ls ∙ lexemes_fault_read room f h.done h.inside h.lexemes h.fault in
    let P : List Lexeme → Type 0 = λ v. IsFaultOfLexemes room f h.done h.inside v in
    let p = placed_in room f at bytes (subst P (sym ls) h.fault) in
    let left : length h.left ≡ length (unspaced (past (length h.done) bytes)) = ap length (begins_past bytes h.done h.left h.begins) in
    let same : column_of bytes at ≡ column = omega (arith, h.at, left, p.inside, p.left) in
    ap (in_line bytes) said ∙ ap (λ n. Err (f, n)) same

-- a fault's column is within its line
pub column_within : (room : ℕ) (f : LineFault) (column : ℕ) (bytes : List ℕ) → IsLineFault room f column bytes → column ≤ length bytes
column_within room f column bytes h =
    let ls : lexemes_of bytes ≡ h.lexemes = lexemes_found bytes h.lexemes h.found in
    let at : Passed = record { done = h.done; inside = h.inside } in
    let P : List Lexeme → Type 0 = λ v. IsFaultOfLexemes room f h.done h.inside v in
    let p = placed_in room f at bytes (subst P (sym ls) h.fault) in
    let left : length h.left ≡ length (unspaced (past (length h.done) bytes)) = ap length (begins_past bytes h.done h.left h.begins) in
    omega (arith, h.at, left, p.inside)

-- a fault that is reported of a line
at_line_err : {A : Type 0} (n start : ℕ) (r : Result A (LineFault × ℕ)) (e : ScriptError) → at_line n start r ≡ Err e → (column : ℕ) × (r ≡ Err (e.fault, column)) × (e.number ≡ n) × (e.place ≡ start + column)
at_line_err n start (Ok x) e h = absurd (cc)
at_line_err n start (Err (f, column)) e h =
    let same : record { fault = f; number = n; place = start + column } ≡ e = err_is _ e (at_line n start (Err (f, column))) refl h in
    (column, ap (λ (t : ScriptError). Err (t.fault, column)) same, ap (λ (t : ScriptError). t.number) (sym same), ap (λ (t : ScriptError). t.place) (sym same))

-- what follows a line that is read
at_line_read : {A : Type 0} (n start : ℕ) (r : Result A (LineFault × ℕ)) (x : A) → at_line n start r ≡ Ok x → r ≡ Ok x
at_line_read n start (Ok y) x h = let k : y ≡ x = cc in ap Ok k
at_line_read n start (Err e) x h = absurd (cc)

-- what is put after statements fails where it fails
more_err : {E : Type 0} (r : Result (List Statement) E) (ss : List Statement) (e : E) → (r >>= λ more. Ok (ss ++ more)) ≡ Err e → r ≡ Err e
more_err (Ok x) ss e h = absurd (cc)
more_err (Err f) ss e h = let k : f ≡ e = cc in ap Err k

-- a fault of lines, by what was reported
pub record AreFaultTold (n start room : ℕ) (e : ScriptError) (ls : List (List ℕ)) : Type 0 where
  pub number : ℕ
  pub place : ℕ
  pub fault : AreLinesFault room e.fault number place ls
  pub numbered : e.number ≡ n + number
  pub at : e.place ≡ start + place

-- lines that fail have a fault of the table
lines_fail : (n start room : ℕ) (e : ScriptError) (ls : List (List ℕ)) → lines_statements n start room ls ≡ Err e → AreFaultTold n start room e ls
unfolding lines_statements
lines_fail n start room e [] h = absurd (cc)
lines_fail n start room e (l ∷ ls) h = elim (bind_err (at_line n start (line_statements room l)) (λ ss. lines_statements (n + 1) (start + suc (length l)) (room - length ss) ls >>= λ more. Ok (ss ++ more)) e h) [
  | inl k ↦
      let a = at_line_err n start (line_statements room l) e k in
      let left : room ≡ room - 0 = omega arith in
      let Q : ℕ → Type 0 = λ v. IsLineFault v e.fault a.0 (without_return l) in
      record {
        number = 0;
        place = a.0;
        fault = record { before = []; line = l; after = ls; statements = []; column = a.0; cut = refl; good = refl; few = omega arith; fault = subst Q left (line_fails room e.fault a.0 l a.1); numbered = refl; at = omega arith };
        numbered = omega (arith, a.2);
        at = a.3;
      }
  | inr x ↦
      let one = line_sound room l x.0 (at_line_read n start (line_statements room l) x.0 x.1) in
      let r = lines_fail (n + 1) (start + suc (length l)) (room - length x.0) e ls (more_err (lines_statements (n + 1) (start + suc (length l)) (room - length x.0) ls) x.0 e x.2) in
      let g = r.fault in
      let left : room - length x.0 - length g.statements ≡ room - length (x.0 ++ g.statements) = omega (arith, length-append x.0 g.statements) in
      let P : ℕ → Type 0 = λ k. IsLineFault k e.fault g.column (without_return g.line) in
      record {
        number = suc r.number;
        place = suc (length l) + r.place;
        fault = record {
          before = l ∷ g.before;
          line = g.line;
          after = g.after;
          statements = x.0 ++ g.statements;
          column = g.column;
          cut = ap (λ v. l ∷ v) g.cut;
          good = (x.0, g.statements, one.0, refl, g.good);
          few = omega (arith, one.1, g.few, length-append x.0 g.statements);
          fault = subst P left g.fault;
          numbered = ap suc g.numbered;
          at = omega (arith, g.at);
        };
        numbered = omega (arith, r.numbered);
        at = omega (arith, r.at);
      }
]

-- a line's fault is reported
line_told : (n start room : ℕ) (f : LineFault) (column : ℕ) (l : List ℕ) (ls : List (List ℕ)) → line_statements room l ≡ Err (f, column) → lines_statements n start room (l ∷ ls) ≡ Err (record { fault = f; number = n; place = start + column })
unfolding lines_statements
line_told n start room f column l ls h = told (line_statements room l) h
  where
    told : (r : Result (List Statement) (LineFault × ℕ)) → r ≡ Err (f, column)
        → (at_line n start r >>= λ ss. lines_statements (n + 1) (start + suc (length l)) (room - length ss) ls >>= λ more. Ok (ss ++ more)) ≡ Err (record { fault = f; number = n; place = start + column })
    told r e = rw e refl

-- a fault after a line is reported
later_told : (n start room : ℕ) (e : ScriptError) (l : List ℕ) (ls : List (List ℕ)) (ss : List Statement) → line_statements room l ≡ Ok ss → lines_statements (n + 1) (start + suc (length l)) (room - length ss) ls ≡ Err e → lines_statements n start room (l ∷ ls) ≡ Err e
unfolding lines_statements
later_told n start room e l ls ss h k = told (line_statements room l) h
  where
    told : (r : Result (List Statement) (LineFault × ℕ)) → r ≡ Ok ss
        → (at_line n start r >>= λ ss. lines_statements (n + 1) (start + suc (length l)) (room - length ss) ls >>= λ more. Ok (ss ++ more)) ≡ Err e
    told r j = rw (j, k) refl

-- lines with a fault of the table fail
lines_fault_read : (n start room : ℕ) (f : LineFault) (before : List (List ℕ)) (line : List ℕ) (after : List (List ℕ)) (ss : List Statement) (column : ℕ) → AreLines before ss → length ss ≤ room → IsLineFault (room - length ss) f column (without_return line)
    → lines_statements n start room (before ++ line ∷ after) ≡ Err (record { fault = f; number = n + length before; place = start + (size_of before + column) })
lines_fault_read n start room f [] line after ss column good few h =
    let left : room - length ss ≡ room = rw good (omega arith) in
    let P : ℕ → Type 0 = λ k. IsLineFault k f column (without_return line) in
    let one : line_statements room line ≡ Err (f, column) = line_fault_read room f column line (subst P left h) in
    let here : n ≡ n + 0 = omega arith in
    let there : start + column ≡ start + (0 + column) = omega arith in
    line_told n start room f column line after one ∙ ap (λ k. Err (record { fault = f; number = k; place = start + column })) here ∙ ap (λ k. Err (record { fault = f; number = n + 0; place = k })) there
lines_fault_read n start room f (l ∷ before) line after ss column good few h =
    let size : length ss ≡ length good.0 + length good.1 = ap length good.3 ∙ length-append good.0 good.1 in
    let one : line_statements room l ≡ Ok good.0 = line_complete room l good.0 good.2 (omega (arith, size, few)) in
    let left : room - length ss ≡ room - length good.0 - length good.1 = omega (arith, size) in
    let P : ℕ → Type 0 = λ k. IsLineFault k f column (without_return line) in
    let rest = lines_fault_read (n + 1) (start + suc (length l)) (room - length good.0) f before line after good.1 column good.4 (omega (arith, size, few)) (subst P left h) in
    let here : n + 1 + length before ≡ n + suc (length before) = omega arith in
    let there : start + suc (length l) + (size_of before + column) ≡ start + (suc (length l) + size_of before + column) = omega arith in
    later_told n start room _ l (before ++ line ∷ after) good.0 one rest
    ∙ ap (λ k. Err (record { fault = f; number = k; place = start + suc (length l) + (size_of before + column) })) here
    ∙ ap (λ k. Err (record { fault = f; number = n + suc (length before); place = k })) there

-- a script that fails has its first fault
pub script_fails : (bytes : List ℕ) (f : LineFault) (n place : ℕ) → script_of bytes ≡ Err (record { fault = f; number = n; place = place }) → IsFirstFaultAt bytes (at_number f n) place
script_fails bytes f n place h =
    let r = lines_fail 1 0 statement_limit (record { fault = f; number = n; place = place }) (lines_of bytes) h in
    let same : r.place ≡ place = omega (arith, r.at) in
    let P : ℕ → Type 0 = λ v. AreLinesFault statement_limit f r.number v (lines_of bytes) in
    (f, r.number, subst P same r.fault, ap (at_number f) (omega (arith, r.numbered)))

-- a first fault is read
pub first_fault_read : (bytes : List ℕ) (fault : _) (place : ℕ) (h : IsFirstFaultAt bytes fault place) → (n : ℕ) × (script_of bytes ≡ Err (record { fault = h.0; number = n; place = place })) × (fault ≡ at_number h.0 n)
first_fault_read bytes fault place h =
    let g = h.2 in
    let r = lines_fault_read 1 0 statement_limit h.0 g.before g.line g.after g.statements g.column g.good g.few g.fault in
    let there : 0 + (size_of g.before + g.column) ≡ place = omega (arith, g.at) in
    (1 + length g.before, ap (lines_statements 1 0 statement_limit) g.cut ∙ r ∙ ap (λ k. Err (record { fault = h.0; number = 1 + length g.before; place = k })) there, h.3 ∙ ap (at_number h.0) (omega (arith, g.numbered)))
