use Rattle.std.proofs.Common.{◌≡◌, ◌⊎◌, ℕ, ◌-◌, ◌≤◌, Bool, true, false, List, [], ◌∷◌, ◌++◌, length}
use Rattle.std.proofs.Common.{inl, inr, Some, None, refl, ap, sym, ◌∙◌, arith}
use Rattle.std.proofs.Common.{length-append, length-drop, length-take, drop, subst}
use Rattle.std.specs.Prelude.{slice_range}
use Rattle.std.specs.List.{filter}
use Rattle.pr_base.specs.Digits.{number_of}
use Rattle.pr_base.specs.Lines.{onto_first}
use Rattle.pr_basic.specs.Grammar.{AreItems, AreParts, Code as CodeItem, IsList, IsNumber, IsPrinting, IsStatement}
use Rattle.pr_basic.specs.Grammar.{Item, Quote as QuoteItem, Semi as SemiItem, parts}
use Rattle.pr_basic.specs.Grammar as grammar
use Rattle.pr_basic.specs.LexemeLaws.{LexemesAreFound}
use Rattle.pr_basic.specs.Lexemes.{AreLexemes, CloseParen, Colon, Comma, Digits, IsLexeme, Lexeme as Script, OpenParen}
use Rattle.pr_basic.specs.Lexemes.{Quoted, Remark as Remarked, Semicolon, Stray, Word as Keywords}
use Rattle.pr_basic.specs.Lexing.{lexemes_after}
use Rattle.pr_basic.specs.Text.{Text as Line}
use Rattle.pr_basic.specs.declared.lexemes.Keyword.{Keyword}
use Rattle.pr_basic.specs.declared.lexemes.Keyword.TheVariants as word
use Rattle.pr_basic.specs.declared.statement.Statement.{Statement as Output}
use Rattle.pr_basic.specs.declared.statement.Statement.TheVariants.{CloseFile, Cmd, OpenFile, Print as Printed, PrintTo}
use Rattle.pr_basic.specs.declared.statement.Statement.TheVariants.{Rem}
use Rattle.pr_interpreter.specs.declared.lexemes.Lexeme.{Lexeme}
use Rattle.pr_interpreter.specs.declared.lexemes.Word.{Word}
use Rattle.pr_interpreter.specs.declared.lexemes.Word.TheVariants.{Code}
use Rattle.pr_run.specs.ScriptTexts.{is_performed}
use Rattle.pr_run.specs.Spelled.{AreGood, AreSpelled, Character, Empty, IsSpelled, LinePart, Listed, Performs, Quote}
use Rattle.pr_run.specs.Spelled.{Remarks, Semi, SpellsList, SpellsMore, ends_after, items_bytes, items_lexemes}
use Rattle.pr_run.specs.Spelled.{lexeme, number, part_lexemes, part_said, parts_lexemes, parts_said}
use Rattle.pr_run.proofs.ScriptLexemes.{AllMatch, ArePlain, EndsNumber, IsPlain, Matches, constant}
use Rattle.pr_run.proofs.ScriptSymbols.{AreKnown}

-- ---- lists

-- a lexeme at the front, by what it is and what follows it
put : {xs rest ys : List Lexeme} {p : ℕ} {w v : Word} → xs ≡ lexeme p w ∷ rest → w ≡ v → rest ≡ ys
    → xs ≡ lexeme p v ∷ ys
put e f g = rw (e, f, g) refl

-- the digits of a number
digits_are : {w : Word} {m n : ℕ} → w ≡ constant m → m ≡ n → w ≡ constant n
digits_are e f = rw (e, f) refl

-- items of a list that lexemes spell
pub record AreListed (text : List ℕ) (items : List Item) (xs : List Lexeme) : Type 0 where
  pub listed : List Listed
  pub spelled : xs ≡ items_lexemes listed
  pub good : AreGood text listed
  pub bytes : items_bytes text listed ≡ grammar.items_bytes items
  pub ends : (ends : Bool) → ends_after ends listed ≡ grammar.ends_after ends items

-- how many bytes a part of a text has
range_size : (text : List ℕ) (a b : ℕ) → b ≤ length text → length (slice_range text a b) ≡ b - a
range_size text a b h = omega (arith, length-take (b - a) (drop a text), length-drop a text)

-- the lexemes of items are those of a list
items_listed : (text : List ℕ) (items : List Item) (xs : List Lexeme) → AreItems items
    → length (grammar.items_bytes items) ≤ 255 → AllMatch text (grammar.items_lexemes items) xs
    → AreListed text items xs
items_listed text [] xs good short m = record {
  listed = [];
  spelled = m;
  good = tt;
  bytes = refl;
  ends = λ ends. refl;
}
items_listed text (SemiItem ∷ is) xs good short m =
    let r = items_listed text is m.2 good.1 short m.5 in
    record {
      listed = Semi m.0 ∷ r.listed;
      spelled = put m.3 m.4 r.spelled;
      good = (tt, r.good);
      bytes = r.bytes;
      ends = λ ends. r.ends false;
    }
items_listed text (QuoteItem s ∷ is) xs good short m =
    let parted = length-append s (grammar.items_bytes is) in
    let fewer : length (grammar.items_bytes is) ≤ 255 = omega arith in
    let few : length s ≤ 255 = omega arith in
    let r = items_listed text is m.2 good.1 fewer m.5 in
    let a = m.4.0 in
    let b = m.4.1 in
    let size : b - a ≡ length s = sym (range_size text a b m.4.4) ∙ ap length m.4.5 in
    record {
      listed = Quote m.0 a b ∷ r.listed;
      spelled = put m.3 m.4.2 r.spelled;
      good = ((m.4.3, m.4.4, omega arith), r.good);
      bytes = rw (m.4.5, r.bytes) refl;
      ends = λ ends. r.ends true;
    }
items_listed text (CodeItem ds ∷ is) xs good short m =
    let fewer : length (grammar.items_bytes is) ≤ 255 = omega arith in
    let n = m.5 in
    let o = n.5 in
    let p = o.5 in
    let r = items_listed text is p.2 good.1 fewer p.5 in
    record {
      listed = Character m.0 n.0 o.0 p.0 (number_of ds) ∷ r.listed;
      spelled = put m.3 m.4 (put n.3 n.4 (put o.3 o.4 (put p.3 p.4 r.spelled)));
      good = (good.0, r.good);
      bytes = rw r.bytes refl;
      ends = λ ends. r.ends true;
    }

-- the lexemes of a list spell its line
list_spelled : (text : List ℕ) (list : List Script) (line : Line) (xs : List Lexeme) → IsList list line
    → AllMatch text list xs → (items : List Listed) × (xs ≡ items_lexemes items) × SpellsList text items line
list_spelled text list line xs c m =
    let matched : AllMatch text (grammar.items_lexemes c.items) xs =
    subst (λ (ls : List Script). AllMatch text ls xs) c.spelled m in
    let few = c.short in
    let short : length (grammar.items_bytes c.items) ≤ 255 = omega (arith, ap length c.bytes) in
    let r = items_listed text c.items xs c.good short matched in (
      r.listed,
      r.spelled,
      record {
        good = r.good;
        bytes = c.bytes ∙ sym r.bytes;
        ends = c.ends ∙ sym (r.ends true);
        short = c.short;
      },
    )

-- ---- statements

-- a part of a line spells a statement
abbrev PartOf : List ℕ → Output → List Lexeme → Type 0
PartOf text s xs = (x : LinePart) × IsSpelled text x × (xs ≡ part_lexemes x)
    × ((os : List Output) → part_said x (filter is_performed os) ≡ filter is_performed (s ∷ os))

-- a keyword, a file, and perhaps a comma and a list
printing_spelled : (text : List ℕ) (k : Keyword) (token file : ℕ) (line : Line) (ls : List Script) (xs : List Lexeme)
    → ((w : Word) → Matches text (Keywords k) w → w ≡ Code token)
    → IsPrinting k file line ls → AllMatch text ls xs
    → (p : ℕ) × (q : ℕ) × (more : List Lexeme) × (xs ≡ lexeme p (Code token) ∷ number q file ∷ more) × (file ≤ 255)
    × SpellsMore text line more
printing_spelled text k token file line ls xs is (f, n, inl c) m =
    let a = subst (λ (t : List Script). AllMatch text t xs) c.0 m in
    let b = a.5 in
    (a.0, b.0, b.2, put a.3 (is a.1 a.4) (put b.3 (digits_are b.4 n.0) refl), n.2, inl (b.5, c.1))
printing_spelled text k token file line ls xs is (f, n, inr c) m =
    let a = subst (λ (t : List Script). AllMatch text t xs) c.1 m in
    let b = a.5 in
    let d = b.5 in
    let l = list_spelled text c.0 line d.2 c.3 d.5 in (
      a.0,
      b.0,
      b.2,
      put a.3 (is a.1 a.4) (put b.3 (digits_are b.4 n.0) refl),
      n.2,
      inr (d.0, l.0, put d.3 d.4 l.1, l.2),
    )

-- nothing follows a remark
abbrev pub EndsRemark : Script → List Script → Type 0
EndsRemark l ls = l ≡ Remarked → ls ≡ []

-- a remark is the last lexeme
abbrev pub RemarkIsLast : List Script → Type 0
RemarkIsLast [] = Unit {0}
RemarkIsLast (l ∷ ls) = EndsRemark l ls × RemarkIsLast ls

-- the lexemes of a statement spell it; a remark is none
statement_spelled : (text : List ℕ) (s : Output) (ls : List Script) (xs : List Lexeme) → IsStatement s ls
    → RemarkIsLast ls → AllMatch text ls xs → PartOf text s xs
statement_spelled text (OpenFile file device None) ls xs c last m =
    let a = subst (λ (t : List Script). AllMatch text t xs) c.2 m in
    let b = a.5 in
    let d = b.5 in
    let e = d.5 in (
      Performs (OpenFile file device None) xs,
      (
        a.0,
        b.0,
        d.0,
        e.0,
        put a.3 a.4 (put b.3 (digits_are b.4 c.3.0) (put d.3 d.4 (put e.3 (digits_are e.4 c.4.0) e.5))),
        c.3.2,
        c.4.1,
        c.4.2,
      ),
      refl,
      (λ os. refl),
    )
statement_spelled text (OpenFile file device (Some second)) ls xs c last m =
    let a = subst (λ (t : List Script). AllMatch text t xs) c.3 m in
    let b = a.5 in
    let d = b.5 in
    let e = d.5 in
    let f = e.5 in
    let g = f.5 in (
      Performs (OpenFile file device (Some second)) xs,
      (
        a.0,
        b.0,
        d.0,
        e.0,
        f.0,
        g.0,
        put a.3 a.4
            (put b.3 (digits_are b.4 c.4.0)
            (put d.3 d.4 (put e.3 (digits_are e.4 c.5.0) (put f.3 f.4 (put g.3 (digits_are g.4 c.6.0) g.5))))),
        c.4.2,
        c.5.1,
        c.5.2,
        c.6.2,
      ),
      refl,
      (λ os. refl),
    )
statement_spelled text (CloseFile file) ls xs c last m =
    let a = subst (λ (t : List Script). AllMatch text t xs) c.1 m in
    let b = a.5 in (
      Performs (CloseFile file) xs,
      (a.0, b.0, put a.3 a.4 (put b.3 (digits_are b.4 c.2.0) b.5), c.2.2),
      refl,
      (λ os. refl),
    )
statement_spelled text (Cmd file line) ls xs c last m =
    let is : (w : Word) → Matches text (Keywords word.Cmd) w → w ≡ Code 157 = λ w e. e in (
      Performs (Cmd file line) xs,
      printing_spelled text word.Cmd 157 file line ls xs is c m,
      refl,
      (λ os. refl),
    )
statement_spelled text (PrintTo file line) ls xs c last m =
    let is : (w : Word) → Matches text (Keywords word.PrintTo) w → w ≡ Code 152 = λ w e. e in (
      Performs (PrintTo file line) xs,
      printing_spelled text word.PrintTo 152 file line ls xs is c m,
      refl,
      (λ os. refl),
    )
statement_spelled text (Printed line) ls xs c last m =
    let a = subst (λ (t : List Script). AllMatch text t xs) c.1 m in
    let l = list_spelled text c.0 line a.2 c.2 a.5 in (
      Performs (Printed line) xs,
      (a.0, l.0, put a.3 a.4 l.1, l.2),
      refl,
      (λ os. refl),
    )
statement_spelled text Rem ls xs c last m =
    let a = subst (λ (t : List Script). AllMatch text t xs) c.1 m in
    let ends = subst RemarkIsLast c.1 last in
    let none = ends.0 refl in
    let rest : a.2 ≡ [] = subst (λ (t : List Script). AllMatch text t a.2) none a.5 in
    (Remarks a.0, tt, put a.3 a.4 rest, (λ os. refl))

-- ---- the parts of a line

-- a front part of lexemes: all, or up to a colon
abbrev pub Cut : List Script → List Script → List (List Script) → Type 0
Cut ls p ps = ((ls ≡ p) × (ps ≡ [])) ⊎ ((more : List Script) × (ls ≡ p ++ (Colon ∷ more)) × (parts more ≡ ps))

-- a lexeme ends a part, or goes on with it
parts_step : (l : Script) (ls : List Script)
    → ((l ≡ Colon) × (parts (l ∷ ls) ≡ [] ∷ parts ls)) ⊎ (parts (l ∷ ls) ≡ onto_first l (parts ls))
unfolding parts
parts_step Colon ls = inl (refl, refl)
parts_step l ls = inr refl

onto_some : (l : Script) (ps : List (List Script)) → onto_first l ps ≡ [] → ⊥
onto_some l [] e = cc
onto_some l (p ∷ ps) e = cc

-- without parts there are no lexemes
pub no_parts : (ls : List Script) → parts ls ≡ [] → ls ≡ []
no_parts [] e = refl
no_parts (l ∷ ls) e = absurd (none (parts_step l ls))
  where
    none : ((l ≡ Colon) × (parts (l ∷ ls) ≡ [] ∷ parts ls)) ⊎ (parts (l ∷ ls) ≡ onto_first l (parts ls)) → ⊥
    none (inl c) = let never : [] ∷ parts ls ≡ [] = sym c.1 ∙ e in cc
    none (inr c) = onto_some l (parts ls) (sym c ∙ e)

no_front : (p : List Script) (ps : List (List Script)) → parts [] ≡ p ∷ ps → ⊥
unfolding parts
no_front p ps e = cc

-- lexemes are their first part, and perhaps a colon and others
pub cut_parts : (ls p : List Script) (ps : List (List Script)) → parts ls ≡ p ∷ ps → Cut ls p ps
cut_parts [] p ps e = absurd (no_front p ps e)
cut_parts (l ∷ ls) p ps e = by (λ q qs some. cut_parts ls q qs some) (parts_step l ls)
  where
    further : (q : List Script) (qs : List (List Script)) → Cut ls q qs → l ∷ q ≡ p → qs ≡ ps → Cut (l ∷ ls) p ps
    further q qs (inl c) front back = inl (ap (λ (t : List Script). l ∷ t) c.0 ∙ front, sym back ∙ c.1)
    further q qs (inr c) front back =
        let cut : l ∷ ls ≡ p ++ (Colon ∷ c.0) =
        ap (λ (t : List Script). l ∷ t) c.1 ∙ ap (λ (t : List Script). t ++ (Colon ∷ c.0)) front in
        inr (c.0, cut, c.2 ∙ back)

    on : ((q : List Script) (qs : List (List Script)) → parts ls ≡ q ∷ qs → Cut ls q qs)
        → (qs : List (List Script)) → parts ls ≡ qs → onto_first l qs ≡ p ∷ ps → Cut (l ∷ ls) p ps
    on more [] none k =
        let empty = no_parts ls none in
        let front : l ∷ [] ≡ p = cc in
        let back : ps ≡ [] = cc in
        inl (ap (λ (t : List Script). l ∷ t) empty ∙ front, back)
    on more (q ∷ qs) some k =
        let front : l ∷ q ≡ p = cc in
        let back : qs ≡ ps = cc in
        further q qs (more q qs some) front back

    by : ((q : List Script) (qs : List (List Script)) → parts ls ≡ q ∷ qs → Cut ls q qs)
        → ((l ≡ Colon) × (parts (l ∷ ls) ≡ [] ∷ parts ls)) ⊎ (parts (l ∷ ls) ≡ onto_first l (parts ls))
        → Cut (l ∷ ls) p ps
    by more (inl c) =
        let same : [] ∷ parts ls ≡ p ∷ ps = sym c.1 ∙ e in
        let front : [] ≡ p = cc in
        let back : parts ls ≡ ps = cc in
        let cut : l ∷ ls ≡ p ++ (Colon ∷ ls) =
        ap (λ (t : Script). t ∷ ls) c.0 ∙ ap (λ (t : List Script). t ++ (Colon ∷ ls)) front in
        inr (ls, cut, back)
    by more (inr c) = on more (parts ls) refl (sym c ∙ e)

-- so are the lexemes that are those of a script
match_parts : (text : List ℕ) (p more : List Script) (xs : List Lexeme) → AllMatch text (p ++ (Colon ∷ more)) xs
    → (front : List Lexeme) × (c : ℕ) × (back : List Lexeme) × (xs ≡ front ++ (lexeme c (Code 58) ∷ back))
    × AllMatch text p front × AllMatch text more back
match_parts text [] more xs m = ([], m.0, m.2, put m.3 m.4 refl, refl, m.5)
match_parts text (l ∷ p) more xs m =
    let r = match_parts text p more m.2 m.5 in
    (lexeme m.0 m.1 ∷ r.0, r.1, r.2, put m.3 refl r.3, (m.0, m.1, r.0, refl, m.4, r.4), r.5)

some_left : (p more : List Script) → p ++ (Colon ∷ more) ≡ [] → ⊥
some_left [] more e = cc
some_left (l ∷ p) more e = cc

-- and a remark is the last lexeme of a part
last_parts : (p more : List Script) → RemarkIsLast (p ++ (Colon ∷ more)) → RemarkIsLast p × RemarkIsLast more
last_parts [] more e = (tt, e.1)
last_parts (l ∷ p) more e =
    let r = last_parts p more e.1 in
    (((λ same. absurd (some_left p more (e.0 same))), r.0), r.1)

-- the first part of a line is empty, or spells its first statement
part_spelled : (text : List ℕ) (p : List Script) (ps : List (List Script)) (ss : List Output) (xs : List Lexeme)
    → AreParts (p ∷ ps) ss → RemarkIsLast p → AllMatch text p xs
    → (x : LinePart) × (more : List Output) × IsSpelled text x × (xs ≡ part_lexemes x) × AreParts ps more
    × (part_said x (filter is_performed more) ≡ filter is_performed ss)
part_spelled text p ps ss xs (inl c) last m =
    (Empty, ss, tt, subst (λ (t : List Script). AllMatch text t xs) c.0 m, c.1, refl)
part_spelled text p ps ss xs (inr c) last m =
    let s = statement_spelled text c.0 p xs c.2 last m in
    (s.0, c.1, s.1, s.2, c.4, rw c.3 (s.3 c.1))

-- lexemes spell parts that say statements
abbrev pub SpellParts : List ℕ → List Lexeme → List Output → Type 0
SpellParts text xs ss = (x : LinePart × ℕ) × (more : List (LinePart × ℕ)) × AreSpelled text (x ∷ more)
    × (xs ≡ parts_lexemes (x ∷ more)) × (parts_said (x ∷ more) ≡ filter is_performed ss)

-- the lexemes of a line spell its statements
pub parts_spelled : (text : List ℕ) (ps : List (List Script)) (ls : List Script) (ss : List Output) (xs : List Lexeme)
    → parts ls ≡ ps → AreParts ps ss → RemarkIsLast ls → AllMatch text ls xs → SpellParts text xs ss
parts_spelled text [] ls ss xs e c last m =
    let none = subst (λ (t : List Script). AllMatch text t xs) (no_parts ls e) m in
    ((Empty, 0), [], (tt, tt), none, rw c refl)
parts_spelled text (p ∷ ps) ls ss xs e c last m =
    by (λ more os back at d ends n. parts_spelled text ps more os back at d ends n) (cut_parts ls p ps e)
  where
    by : ((more : List Script) (os : List Output) (back : List Lexeme) → parts more ≡ ps → AreParts ps os
        → RemarkIsLast more → AllMatch text more back → SpellParts text back os) → Cut ls p ps → SpellParts text xs ss
    by others (inl k) =
        let f = part_spelled text p ps ss xs c (subst RemarkIsLast k.0 last)
        (subst (λ (t : List Script). AllMatch text t xs) k.0 m) in
        let none : f.1 ≡ [] = subst (λ (t : List (List Script)). AreParts t f.1) k.1 f.4 in
        let said : part_said f.0 [] ≡ filter is_performed ss =
        ap (λ (os : List Output). part_said f.0 (filter is_performed os)) (sym none) ∙ f.5 in
        ((f.0, 0), [], (f.2, tt), f.3, said)
    by others (inr k) =
        let split = match_parts text p k.0 xs (subst (λ (t : List Script). AllMatch text t xs) k.1 m) in
        let ends = last_parts p k.0 (subst RemarkIsLast k.1 last) in
        let f = part_spelled text p ps ss split.0 c ends.0 split.4 in
        let r = others k.0 f.1 split.2 k.2 f.4 ends.1 split.5 in
        let spelled : xs ≡ part_lexemes f.0 ++ (lexeme split.1 (Code 58) ∷ parts_lexemes (r.0 ∷ r.1)) =
        split.3 ∙ (ap (λ (t : List Lexeme). t ++ (lexeme split.1 (Code 58) ∷ split.2)) f.3
        ∙ ap (λ (t : List Lexeme). part_lexemes f.0 ++ (lexeme split.1 (Code 58) ∷ t)) r.3) in
        let said : part_said f.0 (parts_said (r.0 ∷ r.1)) ≡ filter is_performed ss =
        ap (λ (os : List Output). part_said f.0 os) r.4 ∙ f.5 in
        ((f.0, split.1), r.0 ∷ r.1, (f.2, r.2), spelled, said)

-- ---- lexemes of statements

-- lexemes of items
items_plain : (items : List Item) → AreItems items → ArePlain (grammar.items_lexemes items)
items_plain [] good = tt
items_plain (SemiItem ∷ is) good = (tt, items_plain is good.1)
items_plain (QuoteItem s ∷ is) good = (tt, items_plain is good.1)
items_plain (CodeItem ds ∷ is) good = (tt, (tt, ((good.0, tt), (tt, items_plain is good.1))))

list_plain : (list : List Script) (line : Line) → IsList list line → ArePlain list
list_plain list line c = subst ArePlain (sym c.spelled) (items_plain c.items c.good)

-- a number of a statement is at most 255
number_small : (low high n : ℕ) (ds : List ℕ) → IsNumber low high n ds → high ≤ 255 → number_of ds ≤ 255
number_small low high n ds c h = let same = c.0 in let most = c.2 in omega arith

printing_plain : (k : Keyword) (file : ℕ) (line : Line) (ls : List Script) → IsPrinting k file line ls → ArePlain ls
printing_plain k file line ls (f, n, inl c) =
    subst ArePlain (sym c.0) (tt, ((number_small 0 255 file f n (omega arith), tt), tt))
printing_plain k file line ls (f, n, inr c) =
    subst ArePlain (sym c.1)
    (tt, ((number_small 0 255 file f n (omega arith), tt), (tt, list_plain c.0 line c.3)))

-- lexemes of a statement
statement_plain : (s : Output) (ls : List Script) → IsStatement s ls → RemarkIsLast ls → ArePlain ls
statement_plain (OpenFile file device None) ls c last =
    let f = number_small 0 255 file c.0 c.3 (omega arith) in
    let d = number_small 4 30 device c.1 c.4 (omega arith) in
    subst ArePlain (sym c.2) (tt, ((f, tt), (tt, ((d, tt), tt))))
statement_plain (OpenFile file device (Some second)) ls c last =
    let f = number_small 0 255 file c.0 c.4 (omega arith) in
    let d = number_small 4 30 device c.1 c.5 (omega arith) in
    let s = number_small 0 15 second c.2 c.6 (omega arith) in
    subst ArePlain (sym c.3) (tt, ((f, tt), (tt, ((d, tt), (tt, ((s, tt), tt))))))
statement_plain (CloseFile file) ls c last =
    let f = number_small 0 255 file c.0 c.2 (omega arith) in
    subst ArePlain (sym c.1) (tt, ((f, tt), tt))
statement_plain (Cmd file line) ls c last = printing_plain word.Cmd file line ls c
statement_plain (PrintTo file line) ls c last = printing_plain word.PrintTo file line ls c
statement_plain (Printed line) ls c last = subst ArePlain (sym c.1) (tt, list_plain c.0 line c.2)
statement_plain Rem ls c last =
    let ends = subst RemarkIsLast c.1 last in
    let none = ends.0 refl in
    subst ArePlain (sym c.1) (tt, subst ArePlain (sym none) tt)

ends_more : (p more : List Script) → EndsNumber p → EndsNumber (p ++ (Colon ∷ more))
ends_more [] more e = tt
ends_more (l ∷ p) more e = e

-- a colon may follow each lexeme
plain_more : (l : Script) (p more : List Script) → IsPlain l p → IsPlain l (p ++ (Colon ∷ more))
plain_more (Digits ds) p more e = (e.0, ends_more p more e.1)
plain_more Stray p more e = absurd e
plain_more (Keywords k) p more e = tt
plain_more Remarked p more e = tt
plain_more (Quoted s) p more e = tt
plain_more Comma p more e = tt
plain_more Semicolon p more e = tt
plain_more Colon p more e = tt
plain_more OpenParen p more e = tt
plain_more CloseParen p more e = tt

plain_joined : (p more : List Script) → ArePlain p → ArePlain more → ArePlain (p ++ (Colon ∷ more))
plain_joined [] more e f = (tt, f)
plain_joined (l ∷ p) more e f = (plain_more l p more e.0, plain_joined p more e.1 f)

part_plain : (p : List Script) (ps : List (List Script)) (ss : List Output) → AreParts (p ∷ ps) ss → RemarkIsLast p
    → ArePlain p × ((more : List Output) × AreParts ps more)
part_plain p ps ss (inl c) last = (subst ArePlain (sym c.0) tt, (ss, c.1))
part_plain p ps ss (inr c) last = (statement_plain c.0 p c.2 last, (c.1, c.4))

-- lexemes of a line
pub parts_plain : (ps : List (List Script)) (ls : List Script) (ss : List Output) → parts ls ≡ ps → AreParts ps ss
    → RemarkIsLast ls → ArePlain ls
parts_plain [] ls ss e c last = subst ArePlain (sym (no_parts ls e)) tt
parts_plain (p ∷ ps) ls ss e c last =
    by (λ more os at d ends. parts_plain ps more os at d ends) (cut_parts ls p ps e)
  where
    by : ((more : List Script) (os : List Output) → parts more ≡ ps → AreParts ps os → RemarkIsLast more
        → ArePlain more) → Cut ls p ps → ArePlain ls
    by others (inl k) = subst ArePlain (sym k.0) (part_plain p ps ss c (subst RemarkIsLast k.0 last)).0
    by others (inr k) =
        let ends = last_parts p k.0 (subst RemarkIsLast k.1 last) in
        let first = part_plain p ps ss c ends.0 in
        subst ArePlain (sym k.1) (plain_joined p k.0 first.0 (others k.0 first.1.0 k.2 first.1.1 ends.1))

-- none of them is a stray byte
pub plain_known : (ls : List Script) → ArePlain ls → AreKnown ls
plain_known [] e = tt
plain_known (l ∷ ls) e =
    ((λ stray. let never : ⊥ = subst (λ (t : Script). IsPlain t ls) stray e.0 in never), plain_known ls e.1)

-- ---- remarks

-- no bytes have no lexemes
no_bytes : LexemesAreFound → (ls : List Script) → AreLexemes [] ls → ls ≡ []
unfolding lexemes_after
no_bytes found ls e = sym (found [] ls e)

-- a remark takes the rest of its line
pub remark_last : LexemesAreFound → (ls : List Script) (line : List ℕ) → AreLexemes line ls → RemarkIsLast ls
remark_last found [] line e = tt
remark_last found (l ∷ ls) line e =
    ((λ same. ends same (subst (λ (t : Script). IsLexeme t e.1 e.2) same e.5)), remark_last found ls e.2 e.6)
  where
    ends : l ≡ Remarked → IsLexeme Remarked e.1 e.2 → ls ≡ []
    ends same (inl c) = no_bytes found ls (subst (λ (t : List ℕ). AreLexemes t ls) c.4 e.6)
    ends same (inr c) = absurd (let never : Remarked ≡ Stray = c.0 in cc)
