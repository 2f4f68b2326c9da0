-- Pieces of petcat's text that are taken one by one, and lines of them.
use Rattle.std.proofs.Common.{◌≡◌, ℕ, suc, ◌+◌, ◌<◌, ◌==◌, not, get_or, Bool, true, false, List, [], ◌∷◌, ◌++◌, length, take, drop, refl, ap, sym, ◌∙◌, arith, subst, add-one, append_assoc, append-nil, length-append, ◌⊎◌, inl, inr, None, Some}
use Rattle.std.proofs.lemmas.Grind.{common_steps}
use Rattle.std.specs.Prelude.{◌&&◌, if◌then◌else◌}
use Rattle.std.specs.List.{list_all, prefix_len}
use Rattle.pr_base.specs.Lines.{lines_of}
use Rattle.pr_basic.specs.Grammar.{without_return}
use Rattle.pr_listing.specs.Listing.{quoted_text, string_text}
use Rattle.pr_listing.specs.Names.{bracketed}
use Rattle.pr_listing.specs.Typed.{Character, HasLineText, IsHeading, remark_of, HasText, HaveLinesText, HaveText, IsLineFault, IsTypedFault, IsTypedText, IsPieceFault, Name, Piece, at_place, before_remark, begun, begun_in, brackets_of, byte_of, closing, has_keys, is_within, opening, quoted_after, repeated, spelled}
use Rattle.pr_listing.specs.Pieces.{ArePiecesTaken, IsFrontTaken, IsLineTaken, IsNameTaken, IsNoName, IsPieceTaken, IsReadTo}
use Rattle.pr_listing.specs.declared.fault.ListingFault.{ListingFault}
use Rattle.pr_listing.specs.declared.fault.ListingFault.TheVariants as listing
use Rattle.pr_listing.specs.declared.names.Brackets.{Brackets}
use Rattle.pr_listing.specs.declared.names.Brackets.TheVariants.{Curly, Square}
use Rattle.pr_listing.specs.declared.names.Spelling.{Spelling}
use Rattle.pr_listing.specs.declared.typed.PieceFault.{PieceFault}
use Rattle.pr_listing.specs.declared.typed.PieceFault.TheVariants as piece
use Rattle.pr_listing.proofs.Marks.{at_mark, before_mark, first_mark, mark_within}

-- one piece more at the end
have-one_more : (w : Spelling) → (q : Bool) (ps : List Piece) (bytes said : List ℕ) (m : Bool) (rest : List ℕ) (p : Piece) (after t : List ℕ) (next : Bool) → HaveText w q ps bytes said m rest → rest ≡ spelled p after → brackets_of p ≡ begun_in w m rest → HasText w m p t → next ≡ quoted_after m p
    → HaveText w q (ps ++ p ∷ []) bytes (said ++ t) next after
have-one_more w q [] bytes said m rest p after t next h cut begins has goes = (
  after,
  t,
  [],
  h.2 ∙ cut,
  begins ∙ (ap (λ v. begun_in w v rest) h.1 ∙ ap (begun_in w q) (sym h.2)),
  subst (λ (v : Bool). HasText w v p t) h.1 has,
  ap (λ v. v ++ t) h.0 ∙ sym (append-nil t),
  (refl, goes ∙ ap (λ v. quoted_after v p) h.1, refl),
)
have-one_more w q (o ∷ ps) bytes said m rest p after t next h cut begins has goes = (
  h.0,
  h.1,
  h.2 ++ t,
  h.3,
  h.4,
  h.5,
  ap (λ v. v ++ t) h.6 ∙ append_assoc h.1 h.2 t,
  have-one_more w (quoted_after q o) ps h.0 h.2 m rest p after t next h.7 cut begins has goes,
)

-- one piece more is taken
pub taken-one_more : (w : Spelling) → (front rest after : List ℕ) (m next : Bool) (old mid new : List ℕ) → ArePiecesTaken w front rest m old mid → IsPieceTaken w m rest after next mid new → ArePiecesTaken w front after next old new
taken-one_more w front rest after m next old mid new h k = record {
  pieces = h.pieces ++ k.piece ∷ [];
  said = h.said ++ k.said;
  have = have-one_more w false h.pieces front h.said m rest k.piece after k.said next h.have k.cut k.begins k.has k.goes_on;
  is_text = k.is_text ∙ (ap (λ v. v ++ k.said) h.is_text ∙ append_assoc old h.said k.said);
}

-- before the first piece
pub none_taken : (w : Spelling) → (front old : List ℕ) → ArePiecesTaken w front front false old old
none_taken w front old = record {
  pieces = [];
  said = [];
  have = (refl, refl, refl);
  is_text = sym (append-nil old);
}

-- the test fails at the end of the brackets alone
closing_is : (k : Brackets) (b : ℕ) → is_within k b ≡ false → b ≡ closing k
closing_is Curly b h = grind (arith, common_steps)
closing_is Square b h = grind (arith, common_steps)

-- it does fail there
pub closing_fails : (k : Brackets) → is_within k (closing k) ≡ false
closing_fails Curly = refl
closing_fails Square = refl

-- a name up to the end of its brackets
pub name_cut : (k : Brackets) (bs : List ℕ) (n : ℕ) → n ≡ prefix_len (is_within k) bs → n < length bs → bs ≡ take n bs ++ closing k ∷ drop (n + 1) bs
name_cut k bs n e l =
    let lt : prefix_len (is_within k) bs < length bs = omega (arith, e) in
    let next : n + 1 ≡ suc (prefix_len (is_within k) bs) = omega (arith, e) in
    rw (next, e) (at_mark (is_within k) (closing k) (closing_is k) bs lt)

-- no bracket closes
pub none_closes : (w : Spelling) (k : Brackets) → (bs : List ℕ) → prefix_len (is_within k) bs ≡ length bs → IsNoName w k bs
none_closes w k bs e name rest cut closed =
    absurd (omega (arith, e, ap length cut, ap (prefix_len (is_within k)) cut, mark_within (is_within k) (closing k) (closing_fails k) name rest))

-- the one name that is closed is none
pub none_named : (w : Spelling) (k : Brackets) → (bs : List ℕ) (n : ℕ) → n ≡ prefix_len (is_within k) bs → n < length bs → bracketed w k (take n bs) ≡ None → IsNoName w k bs
none_named w k bs n e l none name rest cut closed =
    let same : (name ≡ take n bs) × (rest ≡ drop (n + 1) bs) =
    first_mark (is_within k) (closing k) (closing_fails k) name (take n bs) rest (drop (n + 1) bs) closed (rw e (before_mark (is_within k) bs)) (sym cut ∙ name_cut k bs n e l) in
    ap (bracketed w k) same.0 ∙ none

-- a name is closed at the first end of brackets
pub name_closed : (k : Brackets) (bs : List ℕ) (n : ℕ) → n ≡ prefix_len (is_within k) bs → list_all (is_within k) (take n bs) ≡ true
name_closed k bs n e = rw e (before_mark (is_within k) bs)

-- brackets that begin have their first byte in front
pub opening_first : (w : Spelling) (k : Brackets) (bs : List ℕ) → Some k ≡ begun w bs → get_or bs 0 0 ≡ opening k
opening_first w k bs e = step (get_or bs 0 0 == 123) refl e
  where
    other : (k : Brackets) (b c : ℕ) (t u : Bool) → (b == 91) ≡ t → Some k ≡ (if u && (t && (c == 60)) then Some Square else None) → b ≡ opening k
    other k b c true true f e = grind (arith, common_steps)
    other k b c false true f e = grind (arith, common_steps)
    other k b c t false f e = grind (arith, common_steps)

    step : (t : Bool) → (get_or bs 0 0 == 123) ≡ t → Some k ≡ (if t then Some Curly else (if has_keys w && ((get_or bs 0 0 == 91) && (get_or bs 1 0 == 60)) then Some Square else None)) → get_or bs 0 0 ≡ opening k
    step true f e = grind (arith, common_steps)
    step false f e = other k (get_or bs 0 0) (get_or bs 1 0) (get_or bs 0 0 == 91) (has_keys w) refl e

-- the first byte, and the others
first_byte : (bs : List ℕ) → 0 < length bs → bs ≡ get_or bs 0 0 ∷ drop 1 bs
first_byte [] h = absurd (omega arith)
first_byte (b ∷ bs) h = refl

-- a byte outside strings
pub plain_piece : (w : Spelling) → (q : Bool) (bs after old new : List ℕ) (next : Bool) → q ≡ false → 0 < length bs → after ≡ drop 1 bs → new ≡ old ++ get_or bs 0 0 ∷ [] → next ≡ (get_or bs 0 0 == 34) → IsPieceTaken w q bs after next old new
plain_piece w q bs after old new next out some rest text goes = record {
  piece = Character (get_or bs 0 0);
  said = get_or bs 0 0 ∷ [];
  cut = first_byte bs some ∙ ap (λ v. get_or bs 0 0 ∷ v) (sym rest);
  begins = ap (λ v. begun_in w v bs) (sym out);
  has = subst (λ (v : Bool). HasText w v (Character (get_or bs 0 0)) (get_or bs 0 0 ∷ [])) (sym out) refl;
  goes_on = goes ∙ rw out (toggled (get_or bs 0 0 == 34));
  is_text = text;
}
  where
    toggled : (t : Bool) → t ≡ (if t then true else false)
    toggled true = refl
    toggled false = refl

-- a character of a string
pub character_piece : (w : Spelling) → (q : Bool) (bs after old new : List ℕ) (next : Bool) → q ≡ true → 0 < length bs → None ≡ begun w bs → after ≡ drop 1 bs → ((b : ℕ) × (byte_of w (get_or bs 0 0) ≡ Some b) × (new ≡ old ++ quoted_text b)) → next ≡ not (get_or bs 0 0 == 34)
    → IsPieceTaken w q bs after next old new
character_piece w q bs after old new next within some plain rest text goes = record {
  piece = Character (get_or bs 0 0);
  said = quoted_text text.0;
  cut = first_byte bs some ∙ ap (λ v. get_or bs 0 0 ∷ v) (sym rest);
  begins = plain ∙ ap (λ v. begun_in w v bs) (sym within);
  has = subst (λ (v : Bool). HasText w v (Character (get_or bs 0 0)) (quoted_text text.0)) (sym within) (text.0, text.1, refl);
  goes_on = goes ∙ rw within (toggled (get_or bs 0 0 == 34));
  is_text = text.2;
}
  where
    toggled : (t : Bool) → not t ≡ (if t then false else true)
    toggled true = refl
    toggled false = refl

-- a name in a string
pub name_piece : (w : Spelling) (k : Brackets) → (q : Bool) (bs rest old new : List ℕ) → q ≡ true → 0 < length bs → Some k ≡ begun w bs → IsNameTaken w k (drop 1 bs) rest old new → IsPieceTaken w q bs rest true old new
name_piece w k q bs rest old new within some begins taken = record {
  piece = Name k taken.name;
  said = repeated taken.count (string_text taken.byte);
  cut = first_byte bs some ∙ (ap (λ v. v ∷ drop 1 bs) (opening_first w k bs begins) ∙ ap (λ v. opening k ∷ v) taken.cut);
  begins = begins ∙ ap (λ v. begun_in w v bs) (sym within);
  has = subst (λ (v : Bool). HasText w v (Name k taken.name) (repeated taken.count (string_text taken.byte))) (sym within) (taken.count, taken.byte, taken.known, taken.closed, refl);
  goes_on = sym within;
  is_text = taken.is_text;
}

-- no name after the first bracket
pub name_fault : (w : Spelling) (k : Brackets) → (bs : List ℕ) → 0 < length bs → Some k ≡ begun w bs → IsNoName w k (drop 1 bs) → IsPieceFault w piece.UnknownName bs
name_fault w k bs some begins none = (k, begins, λ name rest cut closed. none name rest (ap (drop 1) cut) closed)

-- a byte that no string has
pub byte_fault : (w : Spelling) → (bs : List ℕ) → 0 < length bs → None ≡ begun w bs → byte_of w (get_or bs 0 0) ≡ None → IsPieceFault w piece.BadByte bs
byte_fault w bs some plain none = (get_or bs 0 0, drop 1 bs, first_byte bs some, plain, none)

-- one line more at the end
have_lines-one_more : (w : Spelling) → (ls : List (List ℕ)) (l text said more : List ℕ) → HaveLinesText w ls text → HasLineText w (without_return l) said → more ≡ text ++ (said ++ 10 ∷ []) → HaveLinesText w (ls ++ l ∷ []) more
have_lines-one_more w [] l text said more h k e = (said, [], k, e ∙ ap (λ v. v ++ (said ++ 10 ∷ [])) h, refl)
have_lines-one_more w (m ∷ ls) l text said more h k e = (
  h.0,
  h.1 ++ (said ++ 10 ∷ []),
  h.2,
  e ∙ (ap (λ v. v ++ (said ++ 10 ∷ [])) h.3 ∙ append_assoc h.0 (10 ∷ h.1) (said ++ 10 ∷ [])),
  have_lines-one_more w ls l h.1 said (h.1 ++ (said ++ 10 ∷ [])) h.4 k refl,
)

-- one line more is read
pub read-one_more : (w : Spelling) → (file text rest line after said more : List ℕ) (number : ℕ) → IsReadTo w file text rest number → lines_of rest ≡ line ∷ lines_of after → HasLineText w (without_return line) said → more ≡ text ++ (said ++ 10 ∷ []) → IsReadTo w file more after (number + 1)
read-one_more w file text rest line after said more number h cut k e = record {
  before = h.before ++ line ∷ [];
  cut = h.cut ∙ (ap (λ v. h.before ++ v) cut ∙ sym (append_assoc h.before (line ∷ []) (lines_of after)));
  has = have_lines-one_more w h.before line text said more h.has k e;
  numbered = omega (arith, h.numbered, length-append h.before (line ∷ []));
}

-- before the first line
pub none_read : (w : Spelling) → (file : List ℕ) → IsReadTo w file [] file 1
none_read w file = record {
  before = [];
  cut = refl;
  has = refl;
  numbered = refl;
}

-- all lines were read
pub all_read : (w : Spelling) → (file text rest : List ℕ) (number : ℕ) → IsReadTo w file text rest number → length rest ≡ 0 → IsTypedText w file text
unfolding lines_of
all_read w file text [] number h e = subst (λ (ls : List (List ℕ)). HaveLinesText w ls text) (sym (h.cut ∙ append-nil h.before)) h.has
all_read w file text (b ∷ rest) number h e = absurd (omega arith)

-- a line with a fault after the lines that were read
pub fault_found : (w : Spelling) → (file text rest line after : List ℕ) (number column : ℕ) (f : PieceFault) (fault : ListingFault) → IsReadTo w file text rest number → lines_of rest ≡ line ∷ lines_of after → IsLineFault w f column (without_return line) → fault ≡ at_place f number (column + 1)
    → IsTypedFault w file fault
fault_found w file text rest line after number column f fault h cut k e = (
  f,
  number,
  column,
  record {
    before = h.before;
    line = line;
    after = lines_of after;
    text = text;
    cut = h.cut ∙ ap (λ v. h.before ++ v) cut;
    good = h.has;
    fault = k;
    numbered = h.numbered;
  },
  e ∙ ap (λ v. at_place f number v) (add-one column),
)

-- a line that fails after the lines that were read
pub refused_at : (w : Spelling) → (file text rest line cut after : List ℕ) (number column : ℕ) (f : PieceFault) (fault : ListingFault) → IsReadTo w file text rest number → lines_of rest ≡ line ∷ lines_of after → cut ≡ without_return line
    → ((f ≡ piece.NoMemory) ⊎ IsLineFault w f column cut) → fault ≡ at_place f number (column + 1) → (fault ≡ listing.NoMemory) ⊎ IsTypedFault w file fault
refused_at w file text rest line cut after number column f fault h e same (inl none) k = inl (k ∙ ap (λ v. at_place v number (column + 1)) none)
refused_at w file text rest line cut after number column f fault h e same (inr found) k = inr (fault_found w file text rest line after number column f fault h e (subst (IsLineFault w f column) same found) k)

-- the text of a line is added
pub line_taken : (w : Spelling) → (line old mid new : List ℕ) (n : ℕ) → n ≡ before_remark false line → ¬ IsHeading w line → IsFrontTaken w (take n line) old mid → new ≡ mid ++ drop n line → IsLineTaken w line old new
line_taken w line old mid new n e none h k = (
  h.1.said ++ remark_of line,
  inr (none, (h.1.pieces, h.1.said, h.0, subst (λ (v : ℕ). HaveText w false h.1.pieces (take v line) h.1.said h.0 []) e h.1.have, refl)),
  k ∙ (ap (λ v. v ++ drop n line) h.1.is_text ∙ (append_assoc old h.1.said (drop n line) ∙ ap (λ v. old ++ (h.1.said ++ drop v line)) e)),
)

-- one line more is read, with byte 10 after its text
pub line_read : (w : Spelling) → (file text rest line cut after mid more : List ℕ) (number : ℕ) → IsReadTo w file text rest number → lines_of rest ≡ line ∷ lines_of after → cut ≡ without_return line → IsLineTaken w cut text mid → more ≡ mid ++ 10 ∷ [] → IsReadTo w file more after (number + 1)
line_read w file text rest line cut after mid more number h e same k added =
    read-one_more w file text rest line after k.0 more number h e (subst (λ (v : List ℕ). HasLineText w v k.0) same k.1) (added ∙ (ap (λ v. v ++ 10 ∷ []) k.2 ∙ append_assoc text k.0 (10 ∷ [])))
