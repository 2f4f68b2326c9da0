-- The row of a bit that is, against the table.
use Rattle.std.proofs.Common.{◌≡◌, ◌+◌, ◌++◌, ◌∷◌, [], length, ℕ, Bool, true, false, not, ◌&&◌, ◌||◌, List, Option, Some, None, IfSome, Result, Ok, Err, refl, ap, ◌∙◌, arith, get_or}
use Rattle.std.specs.Prelude.{if◌then◌else◌, nat_lt}
use Rattle.pr_wire.specs.declared.bus_state.ByteRole.{ByteRole}
use Rattle.pr_wire.specs.declared.bus_state.BusState.{BusState}
use Rattle.pr_wire.specs.declared.bus_state.BusState.TheVariants.{Bit, High}
use Rattle.pr_wire.specs.declared.Levels.{Levels}
use Rattle.pr_wire.specs.declared.bus_state.Step.{Step}
use Rattle.pr_wire.specs.declared.bus_state.EdgeError.{EdgeError}
use Rattle.pr_wire.specs.declared.bus_state.EdgeError.TheVariants.{Order, TooEarly, TooLate}
use Rattle.pr_wire.specs.Table.{atn_of, differ, is_late, same, timed, where_true, within}
use Rattle.pr_explain.specs.declared.rows.Row.{Row}
use Rattle.std.specs.List.{list_any}
use Rattle.pr_wire.specs.declared.Edge.{Edge}
use Rattle.pr_explain.specs.Rows.{all_lead_apart, is_step, is_taken, lead_apart, lies, takes}
use Rattle.pr_explain.specs.Followed.{KeepsLevels}

-- an edge lies in an interval
abbrev inside : ℕ → ℕ → ℕ → Bool
inside low high t = not (nat_lt t low) && not (is_late t (Some high))

-- an edge is taken exactly in the interval of its row, where a test holds
in_row : (t low high : ℕ) (place : BusState) (p : Bool) → p && inside low high t ≡ is_step (timed t (where_true p (within low high place)))
in_row t low high place false = refl
in_row t low high place true = by (nat_lt t low) (nat_lt high t)
  where
    by : (a b : Bool) → not a && not b ≡ is_step (if a then Err TooEarly else (if b then Err TooLate else Ok (record { place = place; frame = None })))
    by true b = refl
    by false true = refl
    by false false = refl

same_comm : (a b : Bool) → same a b ≡ same b a
same_comm true true = refl
same_comm true false = refl
same_comm false true = refl
same_comm false false = refl

nothing : (p : Bool) → (p && false) || false ≡ false
nothing true = refl
nothing false = refl

-- tests in another order
tests : (p q r : Bool) → (p && (q && r)) || false ≡ (p && q) && r
tests true true true = refl
tests true true false = refl
tests true false r = refl
tests false q r = refl

-- the row of a bit that is takes what the table takes
pub bit_row : (c t : ℕ) (s : ByteRole) (eoi : Bool) (seen : List Bool) (b x k l : Bool)
    → lies (record { atn = atn_of s; clock = true; line = b }) (c + 20) (Some (c + 200)) (record { time = t; levels = record { atn = x; clock = k; line = l } }) || false
    ≡ is_taken (Bit c s eoi seen b) (record { time = t; levels = record { atn = x; clock = k; line = l } })
bit_row c t s eoi seen b x false l = nothing (same (atn_of s) x)
bit_row c t s eoi seen b x true l =
    ap (λ p. (p && (same b l && inside (c + 20) (c + 200) t)) || false) (same_comm (atn_of s) x)
    ∙ (tests (same x (atn_of s)) (same b l) (inside (c + 20) (c + 200) t) ∙ in_row t (c + 20) (c + 200) (High t s eoi seen b) (same x (atn_of s) && same b l))

-- one of two bits
either : (p i l : Bool) → (p && (same false l && i)) || ((p && (same true l && i)) || false) ≡ p && i
either false i l = refl
either true true true = refl
either true true false = refl
either true false true = refl
either true false false = refl

neither : (p : Bool) → (p && false) || ((p && false) || false) ≡ false
neither true = refl
neither false = refl

-- the rows after a bit that is not the last take what the table takes
pub high_rows : (u t : ℕ) (s : ByteRole) (eoi : Bool) (seen : List Bool) (b x k l : Bool) → nat_lt (length seen) 7 ≡ true
    → lies (record { atn = atn_of s; clock = false; line = false }) (u + 20) (Some (u + 200)) (record { time = t; levels = record { atn = x; clock = k; line = l } })
    || (lies (record { atn = atn_of s; clock = false; line = true }) (u + 20) (Some (u + 200)) (record { time = t; levels = record { atn = x; clock = k; line = l } }) || false)
    ≡ is_taken (High u s eoi seen b) (record { time = t; levels = record { atn = x; clock = k; line = l } })
high_rows u t s eoi seen b x true l few = neither (same (atn_of s) x)
high_rows u t s eoi seen b x false l few =
    rw few (ap (λ p. (p && (same false l && inside (u + 20) (u + 200) t)) || ((p && (same true l && inside (u + 20) (u + 200) t)) || false)) (same_comm (atn_of s) x)
    ∙ (either (same x (atn_of s)) (inside (u + 20) (u + 200) t) l ∙ in_row t (u + 20) (u + 200) (Bit t s eoi (seen ++ b ∷ []) l) (same x (atn_of s))))

-- rows to levels that differ lead apart
pub to_others : (a b : Option Row) (l m : Levels) → IfSome a (λ r. r.levels ≡ l) → IfSome b (λ s. s.levels ≡ m) → differ l m ≡ true → lead_apart a b ≡ true
to_others a None l m x y h = refl
to_others None (Some s) l m x y h = refl
to_others (Some r) (Some s) l m x y h = rw (x, y) h

-- a test that each of three is under is a test of them together
distribute : (p q r f : Bool) → (p && f) || ((q && f) || ((r && f) || false)) ≡ f && (p || (q || (r || false)))
distribute true q r true = refl
distribute false true r true = refl
distribute false false true true = refl
distribute false false false true = refl
distribute true true true false = refl
distribute true true false false = refl
distribute true false true false = refl
distribute true false false false = refl
distribute false true true false = refl
distribute false true false false = refl
distribute false false true false = refl
distribute false false false false = refl

-- an edge out of order is not taken
in_order : (f : Bool) (s : Result Step EdgeError) → f && is_step s ≡ is_step (if f then s else Err Order)
in_order true s = refl
in_order false s = refl

-- three rows after the last edge take what the rows do, where the order is kept
pub behind_rows : (a b c p q r f : Bool) (s : Result Step EdgeError) → a ≡ p && f → b ≡ q && f → c ≡ r && f → p || (q || (r || false)) ≡ is_step s
    → a || (b || (c || false)) ≡ is_step (if f then s else Err Order)
behind_rows a b c p q r f s x y z h = rw (x, y, z) (distribute p q r f ∙ (ap (λ t. f && t) h ∙ in_order f s))

-- an edge is taken by one of three rows as by one of their list
pub any_of_three : (rows : List (Option Row)) (e : Edge) → length rows ≡ 3
    → takes (get_or rows 0 None) e || (takes (get_or rows 1 None) e || (takes (get_or rows 2 None) e || false)) ≡ list_any (λ row. takes row e) rows
any_of_three [] e h = absurd (omega arith)
any_of_three (a ∷ []) e h = absurd (omega arith)
any_of_three (a ∷ b ∷ []) e h = absurd (omega arith)
any_of_three (a ∷ b ∷ c ∷ []) e h = refl
any_of_three (a ∷ b ∷ c ∷ d ∷ more) e h = absurd (omega arith)

-- rows that lead where others do, or are none, lead apart as those do
apart_two : (a b r s : Option Row) → KeepsLevels a r → KeepsLevels b s → lead_apart r s ≡ true → lead_apart a b ≡ true
apart_two a None r s x y h = refl
apart_two None (Some b) r s x y h = refl
apart_two (Some a) (Some b) None s x y h = absurd x
apart_two (Some a) (Some b) (Some r) None x y h = absurd y
apart_two (Some a) (Some b) (Some r) (Some s) x y h = rw (x, y) h

-- three rows that lead where three others do, or are none
pub apart_three : (rows : List (Option Row)) (a b c : Option Row) → length rows ≡ 3 → KeepsLevels a (get_or rows 0 None) → KeepsLevels b (get_or rows 1 None) → KeepsLevels c (get_or rows 2 None)
    → all_lead_apart rows ≡ true → all_lead_apart (a ∷ b ∷ c ∷ []) ≡ true
apart_three [] a b c n x y z h = absurd (omega arith)
apart_three (p ∷ []) a b c n x y z h = absurd (omega arith)
apart_three (p ∷ q ∷ []) a b c n x y z h = absurd (omega arith)
apart_three (p ∷ q ∷ r ∷ []) a b c n x y z h = by (lead_apart p q) (lead_apart p r) (lead_apart q r) h (apart_two a b p q x y) (apart_two a c p r x z) (apart_two b c q r y z)
  where
    by : (k l m : Bool) → (k && (l && true)) && ((m && true) && (true && true)) ≡ true → (k ≡ true → lead_apart a b ≡ true) → (l ≡ true → lead_apart a c ≡ true) → (m ≡ true → lead_apart b c ≡ true) → all_lead_apart (a ∷ b ∷ c ∷ []) ≡ true
    by true true true h f g i = rw (f refl, g refl, i refl) refl
    by true true false h f g i = absurd (cc)
    by true false m h f g i = absurd (cc)
    by false l m h f g i = absurd (cc)
apart_three (p ∷ q ∷ r ∷ s ∷ more) a b c n x y z h = absurd (omega arith)
