-- The table of faults with their places is the table without them.
use Rattle.std.proofs.Common.{◌≡◌, ℕ, ◌+◌, ◌<◌, List, [], ◌∷◌, ◌++◌, length, refl, ap, subst, sym, ◌⊎◌, inl, inr}
use Rattle.pr_basic.specs.Lexemes.{AreLexemes, Comma, Digits, Lexeme}
use Rattle.pr_basic.specs.Grammar.{HasNumber, parts, without_return}
use Rattle.pr_basic.specs.FaultRules.{AfterFile, GoesTooFar, IsFaultOutsideLists, IsItemFault, IsPartFault, IsStatementFault, Lacks, NoNumber, Placed, Spot, start_of, within}
use Rattle.pr_basic.specs.FaultPlaces.{ArePartsFault, IsFaultOfLexemes, IsLineFault, size_of, with_colons}
use Rattle.pr_basic.specs.Faults.{IsFirstFault}
use Rattle.pr_basic.specs.FaultsAlone.{ArePartsFaultAlone, GoesTooFarAlone, IsFaultOutsideListsAlone, IsFirstFaultAlone, IsItemFaultAlone, IsLineFaultAlone, IsPartFaultAlone, IsStatementFaultAlone}
use Rattle.pr_basic.specs.FaultLaws.{PlacesChangeNoFault}
use Rattle.pr_basic.specs.ReadingScripts.{Passed, column_of}
use Rattle.pr_base.specs.Digits.{number_of}
use Rattle.pr_basic.specs.declared.lexemes.Keyword.TheVariants as word
use Rattle.pr_basic.specs.declared.fault.LineFault.{LineFault}
use Rattle.pr_basic.specs.declared.fault.LineFault.TheVariants.{UnknownWord, BadNumber, BadDevice, BadSecond, BadByte, TooLong}
use Rattle.pr_basic.specs.declared.fault.ScriptFault.{ScriptFault}
use Rattle.pr_basic.proofs.LexemesAgree.{lexemes_found}
use Rattle.pr_basic.proofs.ScriptFaults.{line_placed}
use Rattle.pr_basic.proofs.ScriptsAgree.{numbered_complete}
use Rattle.pr_basic.proofs.Spots.{part_spot}

-- what goes too far, without its place
far_alone : (part : List Lexeme) (l : Lexeme) (ls : List Lexeme) → GoesTooFar part (l ∷ ls) → GoesTooFarAlone part
far_alone part l ls (inl h) = (l, ls, inl h)
far_alone part l ls (inr (inl h)) = (l, ls, inr (inl (h.0, λ e. h.1 ls (ap (λ v. v ∷ ls) e))))
far_alone part l ls (inr (inr (inl h))) = (l, ls, inr (inr (inl h)))
far_alone part l ls (inr (inr (inr h))) = (l, ls, inr (inr (inr (h.0, h.1, h.2, λ e. h.3 ls (ap (λ v. v ∷ ls) e)))))

-- and back
far_placed : (part : List Lexeme) (h : GoesTooFarAlone part) → GoesTooFar part (h.0 ∷ h.1)
far_placed part (l, ls, inl h) = inl h
far_placed part (l, ls, inr (inl h)) = inr (inl (h.0, λ rest e. h.1 (cc)))
far_placed part (l, ls, inr (inr (inl h))) = inr (inr (inl h))
far_placed part (l, ls, inr (inr (inr h))) = inr (inr (inr (h.0, h.1, h.2, λ rest e. h.3 (cc))))

-- no device is after a comma that is missing
no_comma : (ls : List Lexeme) → Lacks Comma ls → (rest : List Lexeme) → ls ≡ Comma ∷ rest → NoNumber 4 30 rest
no_comma ls h rest e = absurd (h rest e)

-- or after one that is there
no_device : (ls : List Lexeme) → NoNumber 4 30 ls → (rest : List Lexeme) → Comma ∷ ls ≡ Comma ∷ rest → NoNumber 4 30 rest
no_device ls h rest e =
    let same : ls ≡ rest = cc in
    let P : List Lexeme → Type 0 = λ v. NoNumber 4 30 v in
    subst P same h

-- faults outside lists, without their place
outside_alone : (f : LineFault) (spot : Spot) (part : List Lexeme) → IsFaultOutsideLists (f, spot) part → IsFaultOutsideListsAlone f part
outside_alone UnknownWord spot part (inl h) = inl (h.0, h.1, h.2, h.3)
outside_alone UnknownWord spot part (inr (inl h)) = inr (inl (far_alone part h.0 h.1 h.2))
outside_alone UnknownWord spot part (inr (inr h)) = inr (inr (h.0, h.1, h.2))
outside_alone BadNumber spot part h = (h.0, h.1, h.2, h.3, h.4)
outside_alone BadDevice spot part (ls, inl h, e) = (ls, h.0, no_comma ls h.1)
outside_alone BadDevice spot part (ls, inr h, e) = (Comma ∷ ls, h.0, no_device ls h.1)
outside_alone BadSecond spot part h = (h.0, h.1, h.2)
outside_alone f spot part h = absurd h

-- an OPEN without a device, by what follows its file
device_placed : (part ls : List Lexeme) → AfterFile word.Open part ls → ((rest : List Lexeme) → ls ≡ Comma ∷ rest → NoNumber 4 30 rest) → (spot : Spot) × IsFaultOutsideLists (BadDevice, spot) part
device_placed part [] h k = (start_of [], ([], inl (h, λ rest e. cc), refl))
device_placed part (Comma ∷ ls) h k = (start_of ls, (ls, inr (h, k ls refl), refl))
device_placed part (l ∷ ls) h k = (start_of (l ∷ ls), (l ∷ ls, inl (h, λ rest e. cc), refl))

-- and back
outside_placed : (f : LineFault) (part : List Lexeme) → IsFaultOutsideListsAlone f part → (spot : Spot) × IsFaultOutsideLists (f, spot) part
outside_placed UnknownWord part (inl h) = (start_of part, inl (h.0, h.1, h.2, h.3, refl))
outside_placed UnknownWord part (inr (inl h)) = (start_of (h.0 ∷ h.1), inr (inl (h.0, h.1, far_placed part h, refl)))
outside_placed UnknownWord part (inr (inr h)) = (start_of [], inr (inr (h.0, h.1, h.2, refl)))
outside_placed BadNumber part h = (start_of h.1, (h.0, h.1, h.2, h.3, h.4, refl))
outside_placed BadDevice part h = device_placed part h.0 h.1 h.2
outside_placed BadSecond part h = (start_of h.0, (h.0, h.1, h.2, refl))
outside_placed f part h = absurd h

-- faults of items, without their place
item_alone : (f : LineFault) (spot : Spot) (n : ℕ) (next : List Lexeme) → IsItemFault (f, spot) n next → IsItemFaultAlone f n next
item_alone UnknownWord spot n next (inl h) = inl (h.0, h.1, h.2, h.3)
item_alone UnknownWord spot n next (inr (inl h)) = inr (inl (h.0, h.1, h.2))
item_alone UnknownWord spot n next (inr (inr h)) = inr (inr (h.0, h.1, h.2, h.3, h.4))
item_alone BadNumber spot n next h = (h.0, h.1, h.2)
item_alone BadByte spot n next (inl h) = inl (h.0, h.1, h.2, h.3, h.4, h.5, h.6, h.7)
item_alone BadByte spot n next (inr h) = inr (h.0, h.1, h.2, h.3)
item_alone TooLong spot n next (inl h) = inl (h.0, h.1, h.2, h.3, h.4, h.5, h.6, h.7)
item_alone TooLong spot n next (inr h) = inr (h.0, h.1, h.2, h.3, h.4)
item_alone f spot n next h = absurd h

-- and back
item_placed : (f : LineFault) (n : ℕ) (next : List Lexeme) → IsItemFaultAlone f n next → (spot : Spot) × IsItemFault (f, spot) n next
item_placed UnknownWord n next (inl h) = (start_of next, inl (h.0, h.1, h.2, h.3, refl))
item_placed UnknownWord n next (inr (inl h)) = (start_of h.0, inr (inl (h.0, h.1, h.2, refl)))
item_placed UnknownWord n next (inr (inr h)) = (start_of h.1, inr (inr (h.0, h.1, h.2, h.3, h.4, refl)))
item_placed BadNumber n next h = (start_of h.0, (h.0, h.1, h.2, refl))
item_placed BadByte n next (inl h) = (within next (1 + length h.0), inl (h.0, h.1, h.2, h.3, h.4, h.5, h.6, h.7, refl))
item_placed BadByte n next (inr h) = (start_of (Digits h.0 ∷ h.1), inr (h.0, h.1, h.2, h.3, refl))
item_placed TooLong n next (inl h) = (within next (1 + length h.0), inl (h.0, h.1, h.2, h.3, h.4, h.5, h.6, h.7, refl))
item_placed TooLong n next (inr h) = (start_of next, inr (h.0, h.1, h.2, h.3, h.4, refl))
item_placed f n next h = absurd h

-- a statement's fault, without its place
statement_alone : (f : LineFault) (spot : Spot) (part : List Lexeme) → IsStatementFault (f, spot) part → IsStatementFaultAlone f part
statement_alone f spot part (inl h) = inl (outside_alone f spot part h)
statement_alone f spot part (inr (list, h, g)) = inr (list, h, record { items = g.items; next = g.next; spelled = g.spelled; good = g.good; short = g.short; fault = item_alone f spot _ g.next g.fault })

-- and back
statement_placed : (f : LineFault) (part : List Lexeme) → IsStatementFaultAlone f part → (spot : Spot) × IsStatementFault (f, spot) part
statement_placed f part (inl h) = let p = outside_placed f part h in (p.0, inl p.1)
statement_placed f part (inr (list, h, g)) =
    let p = item_placed f _ g.next g.fault in
    (p.0, inr (list, h, record { items = g.items; next = g.next; spelled = g.spelled; good = g.good; short = g.short; fault = p.1 }))

-- a part's fault, without its place
part_alone : (room : ℕ) (f : LineFault) (spot : Spot) (part : List Lexeme) → IsPartFault room (f, spot) part → IsPartFaultAlone room f part
part_alone room f spot part (inl h) = inl (ap (λ (p : Placed). p.0) h.0, h.1, h.2)
part_alone room f spot part (inr h) = inr (statement_alone f spot part h.0, h.1)

-- and back
part_placed : (room : ℕ) (f : LineFault) (part : List Lexeme) → IsPartFaultAlone room f part → (spot : Spot) × IsPartFault room (f, spot) part
part_placed room f part (inl h) = (start_of part, inl (ap (λ v. (v, start_of part)) h.0, h.1, h.2))
part_placed room f part (inr h) = let p = statement_placed f part h.0 in (p.0, inr (p.1, h.1))

-- a fault of parts, without its place
parts_alone : (room : ℕ) (f : LineFault) (done : List Lexeme) (inside : ℕ) (ps : List (List Lexeme)) → ArePartsFault room f done inside ps → ArePartsFaultAlone room f ps
parts_alone room f done inside ps g = record {
  before = g.before;
  part = g.part;
  after = g.after;
  statements = g.statements;
  cut = g.cut;
  good = g.good;
  few = g.few;
  fault = part_alone _ f (within g.next inside) g.part g.fault;
}

-- a fault of parts at some place
record IsPlacedInParts (room : ℕ) (f : LineFault) (ps : List (List Lexeme)) : Type 0 where
  done : List Lexeme
  inside : ℕ
  fault : ArePartsFault room f done inside ps

-- and back
parts_placed : (room : ℕ) (f : LineFault) (ps : List (List Lexeme)) → ArePartsFaultAlone room f ps → IsPlacedInParts room f ps
parts_placed room f ps g =
    let p = part_placed _ f g.part g.fault in
    let s = (part_spot _ f p.0 g.part p.1).ends in
    record {
      done = with_colons g.before ++ s.front;
      inside = p.0.inside;
      fault = record {
        before = g.before;
        part = g.part;
        after = g.after;
        statements = g.statements;
        front = s.front;
        next = p.0.next;
        cut = g.cut;
        good = g.good;
        few = g.few;
        fault = p.1;
        halves = s.cut;
        at = refl;
      };
    }

-- a line's fault, without its place
line_alone : (room : ℕ) (f : LineFault) (column : ℕ) (line : List ℕ) → IsLineFault room f column line → IsLineFaultAlone room f line
line_alone room f column line h = (h.lexemes, h.found, cases h.fault)
  where
    cases : IsFaultOfLexemes room f h.done h.inside h.lexemes
        → ((f ≡ BadNumber) × (ds : List ℕ) × (rest : List Lexeme) × (h.lexemes ≡ Digits ds ∷ rest) × (63999 < number_of ds))
        ⊎ ((rest : List Lexeme) × HasNumber h.lexemes rest × ArePartsFaultAlone room f (parts rest))
    cases (inl k) = inl (k.0, k.1, k.2, k.3, k.4)
    cases (inr k) = inr (k.0, k.3, parts_alone room f k.2 h.inside (parts k.0) k.5)

-- a line's fault at some place
record IsPlacedInLine (room : ℕ) (f : LineFault) (line : List ℕ) : Type 0 where
  column : ℕ
  fault : IsLineFault room f column line

-- a fault of a line's lexemes at some place
at_place : (room : ℕ) (f : LineFault) (line : List ℕ) (lexemes : List Lexeme) (done : List Lexeme) (inside : ℕ) → AreLexemes line lexemes → IsFaultOfLexemes room f done inside lexemes → IsPlacedInLine room f line
at_place room f line lexemes done inside found h =
    let at : Passed = record { done = done; inside = inside } in
    let P : List Lexeme → Type 0 = λ v. IsFaultOfLexemes room f done inside v in
    record { column = column_of line at; fault = line_placed room f at line (subst P (sym (lexemes_found line lexemes found)) h) }

-- and back
line_back : (room : ℕ) (f : LineFault) (line : List ℕ) → IsLineFaultAlone room f line → IsPlacedInLine room f line
line_back room f line (lexemes, found, inl h) = at_place room f line lexemes [] 0 found (inl (h.0, h.1, h.2, h.3, h.4, refl, refl))
line_back room f line (lexemes, found, inr h) =
    let p = parts_placed room f (parts h.0) h.2 in
    let n = numbered_complete lexemes h.0 h.1 in
    at_place room f line lexemes (n.0 ++ p.done) p.inside found (inr (h.0, n.0, p.done, h.1, n.2, p.fault, refl))

-- a script's fault, without its place
script_alone : (bytes : List ℕ) (fault : ScriptFault) → IsFirstFault bytes fault → IsFirstFaultAlone bytes fault
script_alone bytes fault (place, (f, number, g, e)) = (
  f,
  number,
  record {
    before = g.before;
    line = g.line;
    after = g.after;
    statements = g.statements;
    cut = g.cut;
    good = g.good;
    few = g.few;
    fault = line_alone _ f g.column (without_return g.line) g.fault;
    at = g.numbered;
  },
  e,
)

-- and back
script_back : (bytes : List ℕ) (fault : ScriptFault) → IsFirstFaultAlone bytes fault → IsFirstFault bytes fault
script_back bytes fault (f, number, g, e) =
    let p = line_back _ f (without_return g.line) g.fault in (
      size_of g.before + p.column,
      (
        f,
        number,
        record {
          before = g.before;
          line = g.line;
          after = g.after;
          statements = g.statements;
          column = p.column;
          cut = g.cut;
          good = g.good;
          few = g.few;
          fault = p.fault;
          numbered = g.at;
          at = refl;
        },
        e,
      ),
    )

-- places change no fault
pub places_change_none : PlacesChangeNoFault
places_change_none bytes fault = (script_alone bytes fault, script_back bytes fault)
