-- petcat's text has one text of a script, or one fault, and never both.
use Rattle.std.proofs.Common.{◌≡◌, ℕ, suc, Bool, true, false, List, [], ◌∷◌, ◌++◌, length, refl, ap, sym, ◌∙◌, arith, subst, ◌⊎◌, inl, inr, None, Some}
use Rattle.std.specs.List.{list_all}
use Rattle.pr_basic.specs.Grammar.{without_return}
use Rattle.pr_listing.specs.Listing.{quoted_text, string_text}
use Rattle.pr_listing.specs.Names.{bracketed}
use Rattle.pr_listing.specs.Typed.{AreLinesFault, Character, HasLineText, HasText, HaveLinesText, HaveText, IsLineFault, IsTypedFault, IsPieceFault, Name, Piece, at_place, begun, begun_in, brackets_of, byte_of, closing, front_of, is_within, opening, quoted_after, remark_of, repeated, spelled}
use Rattle.pr_listing.specs.declared.fault.ListingFault.{ListingFault}
use Rattle.pr_listing.specs.declared.names.Brackets.{Brackets}
use Rattle.pr_listing.specs.declared.names.Spelling.{Spelling}
use Rattle.pr_listing.specs.declared.names.Spelling.TheVariants as spelling
use Rattle.pr_listing.specs.declared.typed.PieceFault.{PieceFault}
use Rattle.pr_listing.specs.declared.typed.PieceFault.TheVariants as piece
use Rattle.pr_listing.proofs.Marks.{first_mark}
use Rattle.pr_listing.proofs.PieceLemmas.{closing_fails}

-- no piece follows: the bytes end, or no piece of a string is there
abbrev pub IsEnd : Spelling → Bool → List ℕ → Type 0
IsEnd w q bytes = (bytes ≡ []) ⊎ ((q ≡ true) × ((f : PieceFault) × IsPieceFault w f bytes))

-- a piece at the front of the bytes, with its text and the bytes after it
pub record IsPieceAt (w : Spelling) (q : Bool) (p : Piece) (bytes text after : List ℕ) : Type 0 where
  pub cut : bytes ≡ spelled p after
  pub begins : brackets_of p ≡ begun_in w q bytes
  pub has : HasText w q p text

-- a character is one byte
one_byte : (w : Spelling) → (c b d : ℕ) → byte_of w c ≡ Some b → byte_of w c ≡ Some d → b ≡ d
one_byte w c b d h k = let e : Some b ≡ Some d = sym h ∙ k in cc

-- in the same brackets is one name
same_name : (w : Spelling) (l : Brackets) (n o bytes t u after behind : List ℕ) → IsPieceAt w true (Name l n) bytes t after → IsPieceAt w true (Name l o) bytes u behind → (Name l n ≡ Name l o) × (t ≡ u) × (after ≡ behind)
same_name w l n o bytes t u after behind h k =
    let same : opening l ∷ (n ++ closing l ∷ after) ≡ opening l ∷ (o ++ closing l ∷ behind) = sym h.cut ∙ k.cut in
    let more : n ++ closing l ∷ after ≡ o ++ closing l ∷ behind = cc in
    let both : (n ≡ o) × (after ≡ behind) = first_mark (is_within l) (closing l) (closing_fails l) n o after behind h.has.3 k.has.3 more in
    let name : n ≡ o = both.0 in
    let said : Some (h.has.0, h.has.1) ≡ Some (k.has.0, k.has.1) = sym h.has.2 ∙ (ap (bracketed w l) name ∙ k.has.2) in
    let pair : (h.has.0, h.has.1) ≡ (k.has.0, k.has.1) = cc in
    let count : h.has.0 ≡ k.has.0 = ap (λ (v : ℕ × ℕ). v.0) pair in
    let byte : h.has.1 ≡ k.has.1 = ap (λ (v : ℕ × ℕ). v.1) pair in
    (ap (Name l) name, h.has.4 ∙ (ap (λ v. repeated v (string_text h.has.1)) count ∙ (ap (λ v. repeated k.has.0 (string_text v)) byte ∙ sym k.has.4)), both.1)

-- at the front of bytes is one piece
one_piece : (w : Spelling) → (q : Bool) (p o : Piece) (bytes t u after behind : List ℕ) → IsPieceAt w q p bytes t after → IsPieceAt w q o bytes u behind → (p ≡ o) × (t ≡ u) × (after ≡ behind)
one_piece w false (Character c) (Character d) bytes t u after behind h k =
    let same : c ∷ after ≡ d ∷ behind = sym h.cut ∙ k.cut in
    let first : c ≡ d = cc in
    let more : after ≡ behind = cc in
    (ap Character first, h.has ∙ (ap (λ v. v ∷ []) first ∙ sym k.has), more)
one_piece w false (Character c) (Name l o) bytes t u after behind h k = absurd k.has
one_piece w false (Name l n) o bytes t u after behind h k = absurd h.has
one_piece w true (Character c) (Character d) bytes t u after behind h k =
    let same : c ∷ after ≡ d ∷ behind = sym h.cut ∙ k.cut in
    let first : c ≡ d = cc in
    let more : after ≡ behind = cc in
    let byte : h.has.0 ≡ k.has.0 = one_byte w c h.has.0 k.has.0 h.has.1 (ap (byte_of w) first ∙ k.has.1) in
    (ap Character first, h.has.2 ∙ (ap quoted_text byte ∙ sym k.has.2), more)
one_piece w true (Character c) (Name l o) bytes t u after behind h k =
    let same : None ≡ Some l = h.begins ∙ sym k.begins in
    cc
one_piece w true (Name l n) (Character d) bytes t u after behind h k =
    let same : Some l ≡ None = h.begins ∙ sym k.begins in
    cc
one_piece w true (Name l n) (Name r o) bytes t u after behind h k =
    let both : Some l ≡ Some r = h.begins ∙ sym k.begins in
    let kind : r ≡ l = cc in
    let same : (Name l n ≡ Name l o) × (t ≡ u) × (after ≡ behind) =
    same_name w l n o bytes t u after behind h (subst (λ (v : Brackets). IsPieceAt w true (Name v o) bytes u behind) kind k) in
    (same.0 ∙ ap (λ v. Name v o) (sym kind), same.1, same.2)

-- no piece is at an end
no_piece : (w : Spelling) → (q : Bool) (p : Piece) (bytes t after : List ℕ) → IsPieceAt w q p bytes t after → IsEnd w q bytes → ⊥
no_piece w q (Character c) bytes t after h (inl e) = let same : c ∷ after ≡ [] = sym h.cut ∙ e in cc
no_piece w q (Name l n) bytes t after h (inl e) = let same : opening l ∷ (n ++ closing l ∷ after) ≡ [] = sym h.cut ∙ e in cc
no_piece w false p bytes t after h (inr (e, k)) = cc
no_piece w true (Character c) bytes t after h (inr (e, (piece.UnknownName, k))) =
    let same : None ≡ Some k.0 = h.begins ∙ sym k.1 in
    cc
no_piece w true (Name l n) bytes t after h (inr (e, (piece.UnknownName, k))) =
    let both : Some l ≡ Some k.0 = h.begins ∙ sym k.1 in
    let kind : k.0 ≡ l = cc in
    let none : bracketed w l n ≡ None =
    subst (λ (v : Brackets). (name rest : List ℕ) → bytes ≡ spelled (Name v name) rest → list_all (is_within v) name ≡ true → bracketed w v name ≡ None) kind k.2 n after h.cut h.has.3 in
    let some : None ≡ Some (h.has.0, h.has.1) = sym none ∙ h.has.2 in
    cc
no_piece w true (Character c) bytes t after h (inr (e, (piece.BadByte, k))) =
    let same : c ∷ after ≡ k.0 ∷ k.1 = sym h.cut ∙ k.2 in
    let first : c ≡ k.0 = cc in
    let none : None ≡ Some h.has.0 = sym k.4 ∙ (ap (byte_of w) (sym first) ∙ h.has.1) in
    cc
no_piece w true (Name l n) bytes t after h (inr (e, (piece.BadByte, k))) =
    let same : Some l ≡ None = h.begins ∙ sym k.3 in
    cc
no_piece w true p bytes t after h (inr (e, (piece.NoMemory, k))) = absurd k

-- pieces up to an end are the same, and so are their text and the end
one_end : (w : Spelling) → (q : Bool) (ps os : List Piece) (bytes t u : List ℕ) (m n : Bool) (rest left : List ℕ) → HaveText w q ps bytes t m rest → HaveText w q os bytes u n left → IsEnd w m rest → IsEnd w n left → (t ≡ u) × (m ≡ n) × (rest ≡ left)
one_end w q [] [] bytes t u m n rest left h k e f = (h.0 ∙ sym k.0, h.1 ∙ sym k.1, sym h.2 ∙ k.2)
one_end w q [] (o ∷ os) bytes t u m n rest left h k e f =
    let at : IsPieceAt w q o bytes k.1 k.0 = record { cut = k.3; begins = k.4; has = k.5 } in
    let ends : IsEnd w q bytes = subst (λ (v : Bool). IsEnd w v bytes) h.1 (subst (IsEnd w m) (sym h.2) e) in
    absurd (no_piece w q o bytes k.1 k.0 at ends)
one_end w q (p ∷ ps) [] bytes t u m n rest left h k e f =
    let at : IsPieceAt w q p bytes h.1 h.0 = record { cut = h.3; begins = h.4; has = h.5 } in
    let ends : IsEnd w q bytes = subst (λ (v : Bool). IsEnd w v bytes) k.1 (subst (IsEnd w n) (sym k.2) f) in
    absurd (no_piece w q p bytes h.1 h.0 at ends)
one_end w q (p ∷ ps) (o ∷ os) bytes t u m n rest left h k e f =
    let at : IsPieceAt w q p bytes h.1 h.0 = record { cut = h.3; begins = h.4; has = h.5 } in
    let too : IsPieceAt w q o bytes k.1 k.0 = record { cut = k.3; begins = k.4; has = k.5 } in
    let first : (p ≡ o) × (h.1 ≡ k.1) × (h.0 ≡ k.0) = one_piece w q p o bytes h.1 k.1 h.0 k.0 at too in
    let same : HaveText w (quoted_after q p) os h.0 k.2 n left =
    subst (λ (v : Piece). HaveText w (quoted_after q v) os h.0 k.2 n left) (sym first.0) (subst (λ (v : List ℕ). HaveText w (quoted_after q o) os v k.2 n left) (sym first.2) k.7) in
    let more : (h.2 ≡ k.2) × (m ≡ n) × (rest ≡ left) = one_end w (quoted_after q p) ps os h.0 h.2 k.2 m n rest left h.7 same e f in
    let texts : h.1 ++ h.2 ≡ k.1 ++ k.2 = ap (λ v. v ++ h.2) first.1 ∙ ap (λ v. k.1 ++ v) more.0 in
    (h.6 ∙ (texts ∙ sym k.6), more.1, more.2)

-- a line has one text
one_line : (w : Spelling) → (line t u : List ℕ) → HasLineText w line t → HasLineText w line u → t ≡ u
one_line w line t u (inl (heading, e)) (inl (also, f)) = e ∙ sym f
one_line w line t u (inl (heading, e)) (inr (none, k)) = absurd (none heading)
one_line w line t u (inr (none, h)) (inl (heading, f)) = absurd (none heading)
one_line w line t u (inr (none, (ps, said, m, h, e))) (inr (also, (os, told, n, k, f))) =
    let same : (said ≡ told) × (m ≡ n) × ([] ≡ []) = one_end w false ps os (front_of line) said told m n [] [] h k (inl refl) (inl refl) in
    e ∙ (ap (λ v. v ++ remark_of line) same.0 ∙ sym f)

-- lines have one text
pub one_text : (w : Spelling) → (ls : List (List ℕ)) (t u : List ℕ) → HaveLinesText w ls t → HaveLinesText w ls u → t ≡ u
one_text w [] t u h k = h ∙ sym k
one_text w (l ∷ ls) t u h k =
    let first : h.0 ≡ k.0 = one_line w (without_return l) h.0 k.0 h.2 k.2 in
    let more : h.1 ≡ k.1 = one_text w ls h.1 k.1 h.4 k.4 in
    h.3 ∙ (ap (λ v. v ++ 10 ∷ h.1) first ∙ (ap (λ v. k.0 ++ 10 ∷ v) more ∙ sym k.3))

-- at one place is one fault
piece_one_fault : (w : Spelling) → (f g : PieceFault) (bytes : List ℕ) → IsPieceFault w f bytes → IsPieceFault w g bytes → f ≡ g
piece_one_fault w piece.UnknownName piece.UnknownName bytes h k = refl
piece_one_fault w piece.UnknownName piece.BadByte bytes h k =
    let same : Some h.0 ≡ None = h.1 ∙ sym k.3 in
    cc
piece_one_fault w piece.BadByte piece.UnknownName bytes h k =
    let same : None ≡ Some k.0 = h.3 ∙ sym k.1 in
    cc
piece_one_fault w piece.BadByte piece.BadByte bytes h k = refl
piece_one_fault w piece.NoMemory g bytes h k = absurd h
piece_one_fault w f piece.NoMemory bytes h k = absurd k

-- no brackets begin at the end of the bytes
none_begun : (w : Spelling) → begun w [] ≡ None
none_begun spelling.Petcat = refl
none_begun spelling.Magazine = refl

-- no fault is at the end of the bytes
none_at_end : (w : Spelling) → (f : PieceFault) (bytes : List ℕ) → IsPieceFault w f bytes → bytes ≡ [] → ⊥
none_at_end w piece.UnknownName bytes h e =
    let same : Some h.0 ≡ None = h.1 ∙ ap (begun w) e ∙ none_begun w in
    cc
none_at_end w piece.BadByte bytes h e = let same : h.0 ∷ h.1 ≡ [] = sym h.2 ∙ e in cc
none_at_end w piece.NoMemory bytes h e = absurd h

-- a line with a text has no fault
line_not_both : (w : Spelling) → (line t : List ℕ) (f : PieceFault) (column : ℕ) → HasLineText w line t → IsLineFault w f column line → ⊥
line_not_both w line t f column (inl (heading, e)) k = k.no_heading heading
line_not_both w line t f column (inr (none, (ps, said, m, h, e))) k =
    let same : (said ≡ k.said) × (m ≡ true) × ([] ≡ k.rest) = one_end w false ps k.pieces (front_of line) said k.said m true [] k.rest h k.good (inl refl) (inr (refl, (f, k.fault))) in
    none_at_end w f k.rest k.fault (sym same.2)

-- a line has one fault
line_one_fault : (w : Spelling) → (line : List ℕ) (f g : PieceFault) (c d : ℕ) → IsLineFault w f c line → IsLineFault w g d line → (f ≡ g) × (c ≡ d)
line_one_fault w line f g c d h k =
    let same : (h.said ≡ k.said) × (true ≡ true) × (h.rest ≡ k.rest) =
    one_end w false h.pieces k.pieces (front_of line) h.said k.said true true h.rest k.rest h.good k.good (inr (refl, (f, h.fault))) (inr (refl, (g, k.fault))) in
    let rest : length h.rest ≡ length k.rest = ap length same.2 in
    (piece_one_fault w f g k.rest (subst (IsPieceFault w f) same.2 h.fault) k.fault, omega (arith, h.at, k.at, rest))

-- each line of lines with a text has one
line_within : (w : Spelling) → (before : List (List ℕ)) (l : List ℕ) (after : List (List ℕ)) (t : List ℕ) → HaveLinesText w (before ++ l ∷ after) t → (said : List ℕ) × HasLineText w (without_return l) said
line_within w [] l after t h = (h.0, h.2)
line_within w (m ∷ before) l after t h = line_within w before l after h.1 h.4

-- lines with a text have no fault
pub not_both : (w : Spelling) → (ls : List (List ℕ)) (t : List ℕ) (f : PieceFault) (number column : ℕ) → HaveLinesText w ls t → AreLinesFault w f number column ls → ⊥
not_both w ls t f number column h k =
    let found : (said : List ℕ) × HasLineText w (without_return k.line) said = line_within w k.before k.line k.after t (subst (λ (v : List (List ℕ)). HaveLinesText w v t) k.cut h) in
    line_not_both w (without_return k.line) found.0 f column found.1 k.fault

-- the first line with a fault is one line
one_place : (w : Spelling) → (before behind : List (List ℕ)) (l m : List ℕ) (after left : List (List ℕ)) (t u : List ℕ) (f g : PieceFault) (c d : ℕ) → before ++ l ∷ after ≡ behind ++ m ∷ left → HaveLinesText w before t → HaveLinesText w behind u
    → IsLineFault w f c (without_return l) → IsLineFault w g d (without_return m) → (f ≡ g) × (c ≡ d) × (length before ≡ length behind)
one_place w [] [] l m after left t u f g c d e h k x y =
    let same : l ≡ m = cc in
    let both : (f ≡ g) × (c ≡ d) = line_one_fault w (without_return m) f g c d (subst (λ (v : List ℕ). IsLineFault w f c (without_return v)) same x) y in
    (both.0, both.1, refl)
one_place w [] (n ∷ behind) l m after left t u f g c d e h k x y =
    let same : l ≡ n = cc in
    absurd (line_not_both w (without_return n) k.0 f c k.2 (subst (λ (v : List ℕ). IsLineFault w f c (without_return v)) same x))
one_place w (o ∷ before) [] l m after left t u f g c d e h k x y =
    let same : m ≡ o = cc in
    absurd (line_not_both w (without_return o) h.0 g d h.2 (subst (λ (v : List ℕ). IsLineFault w g d (without_return v)) same y))
one_place w (o ∷ before) (n ∷ behind) l m after left t u f g c d e h k x y =
    let more : before ++ l ∷ after ≡ behind ++ m ∷ left = cc in
    let rest : (f ≡ g) × (c ≡ d) × (length before ≡ length behind) = one_place w before behind l m after left h.1 k.1 f g c d more h.4 k.4 x y in
    (rest.0, rest.1, ap suc rest.2)

-- petcat's text has one fault
pub one_fault : (w : Spelling) → (file : List ℕ) (f g : ListingFault) → IsTypedFault w file f → IsTypedFault w file g → f ≡ g
one_fault w file f g (p, number, column, h, e) (q, count, place, k, d) =
    let same : (p ≡ q) × (column ≡ place) × (length h.before ≡ length k.before) =
    one_place w h.before k.before h.line k.line h.after k.after h.text k.text p q column place (sym h.cut ∙ k.cut) h.good k.good h.fault k.fault in
    let numbers : number ≡ count = omega (arith, h.numbered, k.numbered, same.2) in
    e ∙ (ap (λ v. at_place v number (suc column)) same.0 ∙ (ap (λ v. at_place q v (suc column)) numbers ∙ (ap (λ v. at_place q count (suc v)) same.1 ∙ sym d)))
