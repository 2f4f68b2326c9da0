-- The places of faults in a part.
use Rattle.std.proofs.Common.{◌≡◌, ℕ, suc, ◌+◌, ◌≤◌, List, [], ◌∷◌, ◌++◌, length, refl, ap, sym, ◌∙◌, arith, append_assoc, length-append, ◌⊎◌, inl, inr}
use Rattle.pr_basic.specs.Lexemes.{Lexeme, Word, Digits, Quoted, Comma, OpenParen}
use Rattle.pr_basic.specs.Grammar.{items_lexemes}
use Rattle.pr_basic.specs.FaultRules.{AfterDevice, AfterFile, AfterSecond, GoesTooFar, HasList, IsFaultOutsideLists, IsItemFault, IsListFault, IsPartFault, IsStatementFault, Placed, Spot, start_of, within}
use Rattle.pr_basic.specs.declared.lexemes.Keyword.{Keyword}
use Rattle.pr_basic.specs.declared.lexemes.Keyword.TheVariants as word
use Rattle.pr_basic.specs.declared.fault.LineFault.{LineFault}
use Rattle.pr_basic.specs.declared.fault.LineFault.TheVariants.{UnknownWord, BadNumber, BadDevice, BadSecond, BadByte, TooLong}

-- lexemes are the last ones of a part
pub record EndsWith (part next : List Lexeme) : Type 0 where
  pub front : List Lexeme
  pub cut : part ≡ front ++ next

-- bytes of the next lexeme come before a place in a string alone
pub record Fits (spot : Spot) : Type 0 where
  pub fits : (spot.inside ≡ 0) ⊎ ((s : List ℕ) × (ls : List Lexeme) × (spot.next ≡ Quoted s ∷ ls) × (spot.inside ≤ suc (length s)))

-- a place that fits in a part
pub record IsSpot (part : List Lexeme) (spot : Spot) : Type 0 where
  pub ends : EndsWith part spot.next
  pub fits : Fits spot

-- a whole part
whole : (part : List Lexeme) → EndsWith part part
whole part = record { front = []; cut = refl }

-- some lexemes before
further : (part more next : List Lexeme) (ls : List Lexeme) → part ≡ ls ++ more → EndsWith more next → EndsWith part next
further part more next ls h k = record { front = ls ++ k.front; cut = h ∙ ap (λ v. ls ++ v) k.cut ∙ sym (append_assoc ls k.front next) }

-- where lexemes begin
at_start : (part next : List Lexeme) (spot : Spot) → spot ≡ start_of next → EndsWith part next → IsSpot part spot
at_start part next spot h k = rw h (record { ends = k; fits = record { fits = inl refl } })

-- what follows a file ends a part
file_ends : (k : Keyword) (part rest : List Lexeme) → AfterFile k part rest → EndsWith part rest
file_ends k part rest h = record { front = Word k ∷ Digits h.2.0 ∷ []; cut = h.1 ∙ ap (λ v. Word k ∷ v) h.2.1 }

-- what follows a file and a comma ends a part
comma_ends : (k : Keyword) (part rest : List Lexeme) → AfterFile k part (Comma ∷ rest) → EndsWith part rest
comma_ends k part rest h = record { front = Word k ∷ Digits h.2.0 ∷ Comma ∷ []; cut = h.1 ∙ ap (λ v. Word k ∷ v) h.2.1 }

-- what follows a device ends a part
device_ends : (part rest : List Lexeme) → AfterDevice part rest → EndsWith part rest
device_ends part rest h = further part (Digits h.2.0 ∷ rest) rest (comma_ends word.Open part h.0 h.1).front ((comma_ends word.Open part h.0 h.1).cut ∙ ap (λ v. (comma_ends word.Open part h.0 h.1).front ++ v) h.2.1) (record { front = Digits h.2.0 ∷ []; cut = refl })

-- what follows a device and a comma ends a part
second_ends : (part rest : List Lexeme) → AfterDevice part (Comma ∷ rest) → EndsWith part rest
second_ends part rest h = let d = device_ends part (Comma ∷ rest) h in further part (Comma ∷ rest) rest d.front d.cut (record { front = Comma ∷ []; cut = refl })

-- what follows a secondary address ends a part
last_ends : (part rest : List Lexeme) → AfterSecond part rest → EndsWith part rest
last_ends part rest h = let d = second_ends part h.0 h.1 in further part h.0 rest d.front d.cut (record { front = Digits h.2.0 ∷ []; cut = h.2.1 })

-- what goes too far ends a part
far_ends : (part next : List Lexeme) → GoesTooFar part next → EndsWith part next
far_ends part next (inl h) = last_ends part next h
far_ends part next (inr (inl h)) = device_ends part next h.0
far_ends part next (inr (inr (inl h))) = file_ends word.Close part next h
far_ends part next (inr (inr (inr h))) = file_ends h.0 part next h.2

-- the place of a fault outside lists
outside_spot : (f : LineFault) (spot : Spot) (part : List Lexeme) → IsFaultOutsideLists (f, spot) part → IsSpot part spot
outside_spot UnknownWord spot part (inl h) = at_start part part spot h.4 (whole part)
outside_spot UnknownWord spot part (inr (inl h)) = at_start part (h.0 ∷ h.1) spot h.3 (far_ends part (h.0 ∷ h.1) h.2)
outside_spot UnknownWord spot part (inr (inr h)) = at_start part [] spot h.3 (comma_ends h.0 part [] h.2)
outside_spot BadNumber spot part h = at_start part h.1 spot h.5 (record { front = Word h.0 ∷ []; cut = h.2 })
outside_spot BadDevice spot part (ls, inl h, e) = at_start part ls spot e (file_ends word.Open part ls h.0)
outside_spot BadDevice spot part (ls, inr h, e) = at_start part ls spot e (comma_ends word.Open part ls h.0)
outside_spot BadSecond spot part h = at_start part h.0 spot h.3 (second_ends part h.0 h.1)
outside_spot f spot part h = absurd h

-- a place in a string
in_string : (next : List Lexeme) (good : List ℕ) (b : ℕ) (more : List ℕ) (rest : List Lexeme) (spot : Spot) → next ≡ Quoted (good ++ b ∷ more) ∷ rest → spot ≡ within next (1 + length good) → IsSpot next spot
in_string next good b more rest spot h e =
    let short : 1 + length good ≤ suc (length (good ++ b ∷ more)) = omega (arith, length-append good (b ∷ more)) in
    rw e (record { ends = whole next; fits = record { fits = inr (good ++ b ∷ more, rest, h, short) } })

-- the place of a fault in a list's next item
item_spot : (f : LineFault) (spot : Spot) (n : ℕ) (next : List Lexeme) → IsItemFault (f, spot) n next → IsSpot next spot
item_spot UnknownWord spot n next (inl h) = at_start next next spot h.4 (whole next)
item_spot UnknownWord spot n next (inr (inl h)) = at_start next h.0 spot h.3 (record { front = Word word.Chr ∷ []; cut = h.1 })
item_spot UnknownWord spot n next (inr (inr h)) = at_start next h.1 spot h.5 (record { front = Word word.Chr ∷ OpenParen ∷ Digits h.0 ∷ []; cut = h.2 })
item_spot BadNumber spot n next h = at_start next h.0 spot h.3 (record { front = Word word.Chr ∷ OpenParen ∷ []; cut = h.1 })
item_spot BadByte spot n next (inl h) = in_string next h.0 h.1 h.2 h.3 spot h.4 h.8
item_spot BadByte spot n next (inr h) = at_start next (Digits h.0 ∷ h.1) spot h.4 (record { front = Word word.Chr ∷ OpenParen ∷ []; cut = h.2 })
item_spot TooLong spot n next (inl h) = in_string next h.0 h.1 h.2 h.3 spot h.4 h.8
item_spot TooLong spot n next (inr h) = at_start next next spot h.5 (whole next)
item_spot f spot n next h = absurd h

-- a list ends a part
list_ends : (part list : List Lexeme) → HasList part list → EndsWith part list
list_ends part list (inl h) = record { front = Word word.Print ∷ []; cut = h }
list_ends part list (inr h) = comma_ends h.0 part list h.2

-- the place of a fault in a list
list_spot : (f : LineFault) (spot : Spot) (part list : List Lexeme) → HasList part list → IsListFault (f, spot) 0 list → IsSpot part spot
list_spot f spot part list h g =
    let i = item_spot f spot _ g.next g.fault in
    let l = list_ends part list h in
    record { ends = further part list spot.next l.front l.cut (further list g.next spot.next (items_lexemes g.items) g.spelled i.ends); fits = i.fits }

-- the place of a statement's fault
statement_spot : (f : LineFault) (spot : Spot) (part : List Lexeme) → IsStatementFault (f, spot) part → IsSpot part spot
statement_spot f spot part (inl h) = outside_spot f spot part h
statement_spot f spot part (inr (list, h, g)) = list_spot f spot part list h g

-- the place of a part's fault
pub part_spot : (room : ℕ) (f : LineFault) (spot : Spot) (part : List Lexeme) → IsPartFault room (f, spot) part → IsSpot part spot
part_spot room f spot part (inl h) = at_start part part spot (ap (λ (p : Placed). p.1) h.0) (whole part)
part_spot room f spot part (inr h) = statement_spot f spot part h.0
