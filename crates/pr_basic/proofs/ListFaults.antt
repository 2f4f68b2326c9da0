-- The faults of lists that are read are those of the table.
use Rattle.std.proofs.Common.{◌≡◌, ℕ, ◌+◌, ◌-◌, ◌<◌, ◌≤◌, List, [], ◌∷◌, ◌++◌, length, refl, ap, subst, sym, ◌∙◌, arith, Bool, true, false, append_assoc, Result, Ok, Err, length-append, ◌⊎◌, inl, inr}
use Rattle.std.specs.Prelude.{nat_le, nat_lt}
use Rattle.std.specs.List.{list_all, prefix_len}
use Rattle.std.proofs.lemmas.Grind.{common_steps}
use Rattle.pr_basic.specs.Lexemes.{Lexeme, Word, Digits, Quoted, Semicolon, OpenParen, CloseParen}
use Rattle.pr_basic.specs.Grammar.{Item, Semi, Quote, Code, AreItems, IsItem, is_printable, item_bytes, item_lexemes, items_bytes, items_lexemes}
use Rattle.pr_base.specs.Digits.{number_of}
use Rattle.pr_basic.specs.FaultRules.{IsItemFault, IsListFault, Lacks, Placed, begins_item, start_of, within}
use Rattle.pr_basic.specs.Reading.{byte_added, line_in, string_added, ◌>>=◌}
use Rattle.pr_basic.specs.declared.lexemes.Keyword.TheVariants as word
use Rattle.pr_basic.specs.declared.fault.LineFault.TheVariants.{UnknownWord, BadNumber, BadByte, TooLong}
use Rattle.pr_basic.proofs.Prefixes.{IsCut, cut_after, cut_within, prefix_past_cut, prefix_to_cut}
use Rattle.pr_basic.proofs.ListsAgree.{byte_fits, byte_in, string_fits, string_parts}

-- what was bound fails in one of the two
pub bind_err : {A B E : Type 0} (r : Result A E) (g : A → Result B E) (f : E) → (r >>= g) ≡ Err f → (r ≡ Err f) ⊎ ((x : A) × (r ≡ Ok x) × (g x ≡ Err f))
bind_err (Ok x) g f h = inr (x, refl, h)
bind_err (Err e) g f h = inl (let k : e ≡ f = cc in ap Err k)

-- a fault is one
pub err_is : {A E : Type 0} (a b : E) (r : Result A E) → r ≡ Err a → r ≡ Err b → a ≡ b
err_is a b r h k = cc

-- a byte that is not taken is the 256th
byte_fails : (at : List Lexeme) (bytes : List ℕ) (b : ℕ) (f : Placed) → length bytes ≤ 255 → byte_added at bytes b ≡ Err f → ((TooLong, start_of at) ≡ f) × (length bytes ≡ 255)
unfolding byte_added
byte_fails at bytes b f few h = cases (nat_lt (length bytes) 255) refl
  where
    cases : (t : Bool) → nat_lt (length bytes) 255 ≡ t → ((TooLong, start_of at) ≡ f) × (length bytes ≡ 255)
    cases true e = let k : byte_added at bytes b ≡ Ok (bytes ++ b ∷ []) = rw e refl in absurd (cc)
    cases false e =
        let k : byte_added at bytes b ≡ Err (TooLong, start_of at) = rw e refl in
        let full : 255 ≤ length bytes = grind (arith, common_steps) in
        (err_is (TooLong, start_of at) f _ k h, omega arith)

-- a string that is not taken has a bad byte or the 256th
string_fails : (bytes s : List ℕ) (rest : List Lexeme) (f : Placed) → length bytes ≤ 255 → string_added (Quoted s ∷ rest) bytes s ≡ Err f → IsItemFault f (length bytes) (Quoted s ∷ rest)
unfolding string_added
string_fails bytes s rest f few h = cases (nat_lt 255 (length bytes + prefix_len is_printable s)) refl (nat_lt (prefix_len is_printable s) (length s)) refl
  where
    P : Placed → Type 0
    P x = IsItemFault x (length bytes) (Quoted s ∷ rest)

    cases : (t : Bool) → nat_lt 255 (length bytes + prefix_len is_printable s) ≡ t → (u : Bool) → nat_lt (prefix_len is_printable s) (length s) ≡ u → IsItemFault f (length bytes) (Quoted s ∷ rest)
    cases true e u k =
        let is : string_added (Quoted s ∷ rest) bytes s ≡ Err (TooLong, within (Quoted s ∷ rest) (1 + (255 - length bytes))) = rw e refl in
        let same = err_is (TooLong, within (Quoted s ∷ rest) (1 + (255 - length bytes))) f _ is h in
        let long : 255 < length bytes + prefix_len is_printable s = grind (arith, common_steps) in
        let n : ℕ = 255 - length bytes in
        let c : IsCut is_printable s n true = cut_within is_printable s n (omega (arith, long, few)) in
        let at : 1 + (255 - length bytes) ≡ 1 + length c.good = omega (arith, c.size) in
        subst P same (inl (c.good, c.b, c.more, rest, ap (λ v. Quoted v ∷ rest) c.cut, c.all, c.test, omega (arith, c.size, few), ap (within (Quoted s ∷ rest)) at))
    cases false e true k =
        let is : string_added (Quoted s ∷ rest) bytes s ≡ Err (BadByte, within (Quoted s ∷ rest) (1 + prefix_len is_printable s)) = rw (e, k) refl in
        let same = err_is (BadByte, within (Quoted s ∷ rest) (1 + prefix_len is_printable s)) f _ is h in
        let less : prefix_len is_printable s < length s = grind (arith, common_steps) in
        let short : length bytes + prefix_len is_printable s ≤ 255 = grind (arith, common_steps) in
        let c = cut_after is_printable s less in
        let at : 1 + prefix_len is_printable s ≡ 1 + length c.good = omega (arith, c.size) in
        subst P same (inl (c.good, c.b, c.more, rest, ap (λ v. Quoted v ∷ rest) c.cut, c.all, c.test, omega (arith, c.size, short), ap (within (Quoted s ∷ rest)) at))
    cases false e false k = let is : string_added (Quoted s ∷ rest) bytes s ≡ Ok (bytes ++ s) = rw (e, k) refl in absurd (cc)

-- a fault of a list that is already in part
at_once : (f : Placed) (n : ℕ) (ls : List Lexeme) → n ≤ 255 → IsItemFault f n ls → IsListFault f n ls
at_once f n ls few h = record {
  items = [];
  next = ls;
  spelled = refl;
  good = tt;
  short = omega arith;
  fault = let e : n + 0 ≡ n = omega arith in rw e h;
}

-- a good item, and then a fault
after_good : (f : Placed) (n m : ℕ) (i : Item) (ls : List Lexeme) → IsItem i → m ≡ n + length (item_bytes i) → IsListFault f m ls → IsListFault f n (item_lexemes i ++ ls)
after_good f n m i ls good h g =
    let size : m + length (items_bytes g.items) ≡ n + length (item_bytes i ++ items_bytes g.items) = omega (arith, h, length-append (item_bytes i) (items_bytes g.items)) in
    record {
      items = i ∷ g.items;
      next = g.next;
      spelled = ap (λ v. item_lexemes i ++ v) g.spelled ∙ sym (append_assoc (item_lexemes i) (items_lexemes g.items) g.next);
      good = (good, g.good);
      short = omega (arith, size, g.short);
      fault = let P : ℕ → Type 0 = λ x. IsItemFault f x g.next in subst P size g.fault;
    }

-- the fault of a list that is read is one of the table
pub list_fails : (bytes : List ℕ) (ends : Bool) (ls : List Lexeme) (f : Placed) → length bytes ≤ 255 → line_in bytes ends ls ≡ Err f → IsListFault f (length bytes) ls
unfolding line_in
list_fails bytes ends [] f few h = absurd (cc)
list_fails bytes ends (Semicolon ∷ ls) f few h = after_good f (length bytes) (length bytes) Semi ls tt (omega arith) (list_fails bytes false ls f few h)
list_fails bytes ends (Quoted s ∷ ls) f few h = elim (bind_err (string_added (Quoted s ∷ ls) bytes s) (λ more. line_in more true ls) f h) [
  | inl e ↦ at_once f (length bytes) (Quoted s ∷ ls) few (string_fails bytes s ls f few e)
  | inr x ↦
      let k = string_parts _ bytes x.0 s x.1 in
      after_good f (length bytes) (length x.0) (Quote s) ls k.1 (ap length k.0 ∙ length-append bytes s) (list_fails x.0 true ls f k.2 x.2)
]
list_fails bytes ends (Word word.Chr ∷ OpenParen ∷ Digits ds ∷ CloseParen ∷ ls) f few h =
    code (λ x k e. list_fails x true ls f k e) (nat_le (number_of ds) 255) refl
  where
    P : Placed → Type 0
    P x = IsListFault x (length bytes) (Word word.Chr ∷ OpenParen ∷ Digits ds ∷ CloseParen ∷ ls)

    code : ((x : List ℕ) → length x ≤ 255 → line_in x true ls ≡ Err f → IsListFault f (length x) ls) → (t : Bool) → nat_le (number_of ds) 255 ≡ t → IsListFault f (length bytes) (Word word.Chr ∷ OpenParen ∷ Digits ds ∷ CloseParen ∷ ls)
    code next true e =
        let small : number_of ds ≤ 255 = grind (arith, common_steps) in
        let said : (byte_added (Word word.Chr ∷ OpenParen ∷ Digits ds ∷ CloseParen ∷ ls) bytes (number_of ds) >>= λ more. line_in more true ls) ≡ Err f = sym (rw e refl) ∙ h in
        elim (bind_err (byte_added (Word word.Chr ∷ OpenParen ∷ Digits ds ∷ CloseParen ∷ ls) bytes (number_of ds)) (λ more. line_in more true ls) f said) [
          | inl k ↦ let j = byte_fails (Word word.Chr ∷ OpenParen ∷ Digits ds ∷ CloseParen ∷ ls) bytes (number_of ds) f few k in subst P j.0 (at_once (TooLong, start_of (Word word.Chr ∷ OpenParen ∷ Digits ds ∷ CloseParen ∷ ls)) (length bytes) _ few (inr (ds, ls, refl, small, j.1, refl)))
          | inr x ↦
              let k = byte_in _ bytes x.0 (number_of ds) x.1 in
              after_good f (length bytes) (length x.0) (Code ds) ls small (ap length k.0 ∙ length-append bytes (number_of ds ∷ [])) (next x.0 k.1 x.2)
        ]
    code next false e =
        let large : 255 < number_of ds = grind (arith, common_steps) in
        let said : line_in bytes ends (Word word.Chr ∷ OpenParen ∷ Digits ds ∷ CloseParen ∷ ls) ≡ Err (BadByte, start_of (Digits ds ∷ CloseParen ∷ ls)) = rw e refl in
        subst P (err_is (BadByte, start_of (Digits ds ∷ CloseParen ∷ ls)) f _ said h) (at_once (BadByte, start_of (Digits ds ∷ CloseParen ∷ ls)) (length bytes) _ few (inr (ds, CloseParen ∷ ls, refl, large, refl)))
list_fails bytes ends (Word word.Chr ∷ OpenParen ∷ Digits ds ∷ ls) f few h = code (nat_le (number_of ds) 255) refl
  where
    P : Placed → Type 0
    P x = IsListFault x (length bytes) (Word word.Chr ∷ OpenParen ∷ Digits ds ∷ ls)

    code : (t : Bool) → nat_le (number_of ds) 255 ≡ t → IsListFault f (length bytes) (Word word.Chr ∷ OpenParen ∷ Digits ds ∷ ls)
    code true e =
        let small : number_of ds ≤ 255 = grind (arith, common_steps) in
        let said : line_in bytes ends (Word word.Chr ∷ OpenParen ∷ Digits ds ∷ ls) ≡ Err (UnknownWord, start_of ls) = rw e refl in
        subst P (err_is (UnknownWord, start_of ls) f _ said h) (at_once (UnknownWord, start_of ls) (length bytes) _ few (inr (inr (ds, ls, refl, small, λ rest k. cc, refl))))
    code false e =
        let large : 255 < number_of ds = grind (arith, common_steps) in
        let said : line_in bytes ends (Word word.Chr ∷ OpenParen ∷ Digits ds ∷ ls) ≡ Err (BadByte, start_of (Digits ds ∷ ls)) = rw e refl in
        subst P (err_is (BadByte, start_of (Digits ds ∷ ls)) f _ said h) (at_once (BadByte, start_of (Digits ds ∷ ls)) (length bytes) _ few (inr (ds, ls, refl, large, refl)))
list_fails bytes ends (Word word.Chr ∷ OpenParen ∷ ls) f few h =
    let P : Placed → Type 0 = λ x. IsListFault x (length bytes) (Word word.Chr ∷ OpenParen ∷ ls) in
    let same = err_is (BadNumber, start_of ls) f (line_in bytes ends (Word word.Chr ∷ OpenParen ∷ ls)) refl h in
    subst P same (at_once (BadNumber, start_of ls) (length bytes) _ few (ls, refl, λ ds rest k. cc, refl))
list_fails bytes ends (Word word.Chr ∷ ls) f few h =
    let P : Placed → Type 0 = λ x. IsListFault x (length bytes) (Word word.Chr ∷ ls) in
    let same = err_is (UnknownWord, start_of ls) f (line_in bytes ends (Word word.Chr ∷ ls)) refl h in
    subst P same (at_once (UnknownWord, start_of ls) (length bytes) _ few (inr (inl (ls, refl, λ rest k. cc, refl))))
list_fails bytes ends (l ∷ ls) f few h =
    let P : Placed → Type 0 = λ x. IsListFault x (length bytes) (l ∷ ls) in
    let same = err_is (UnknownWord, start_of (l ∷ ls)) f (line_in bytes ends (l ∷ ls)) refl h in
    subst P same (at_once (UnknownWord, start_of (l ∷ ls)) (length bytes) _ few (inl (l, ls, refl, refl, refl)))

-- what begins no item is an unknown word
no_item_read : (bytes : List ℕ) (ends : Bool) (l : Lexeme) (ls : List Lexeme) → begins_item l ≡ false → line_in bytes ends (l ∷ ls) ≡ Err (UnknownWord, start_of (l ∷ ls))
unfolding line_in
no_item_read bytes ends Semicolon ls h = absurd (cc)
no_item_read bytes ends (Quoted s) ls h = absurd (cc)
no_item_read bytes ends (Word word.Chr) ls h = absurd (cc)
no_item_read bytes ends l ls h = refl

-- a CHR$ without its first parenthesis
no_open_read : (bytes : List ℕ) (ends : Bool) (ls : List Lexeme) → Lacks OpenParen ls → line_in bytes ends (Word word.Chr ∷ ls) ≡ Err (UnknownWord, start_of ls)
unfolding line_in
no_open_read bytes ends [] h = refl
no_open_read bytes ends (OpenParen ∷ ls) h = absurd (h ls refl)
no_open_read bytes ends (l ∷ ls) h = refl

-- a CHR$ without its second parenthesis
no_close_read : (bytes : List ℕ) (ends : Bool) (ds : List ℕ) (ls : List Lexeme) → nat_le (number_of ds) 255 ≡ true → Lacks CloseParen ls → line_in bytes ends (Word word.Chr ∷ OpenParen ∷ Digits ds ∷ ls) ≡ Err (UnknownWord, start_of ls)
unfolding line_in
no_close_read bytes ends ds [] small h = rw small refl
no_close_read bytes ends ds (CloseParen ∷ ls) small h = absurd (h ls refl)
no_close_read bytes ends ds (l ∷ ls) small h = rw small refl

-- a CHR$ without digits
no_digits_read : (bytes : List ℕ) (ends : Bool) (ls : List Lexeme) → ((ds : List ℕ) → Lacks (Digits ds) ls) → line_in bytes ends (Word word.Chr ∷ OpenParen ∷ ls) ≡ Err (BadNumber, start_of ls)
unfolding line_in
no_digits_read bytes ends [] h = refl
no_digits_read bytes ends (Digits ds ∷ ls) h = absurd (h ds ls refl)
no_digits_read bytes ends (l ∷ ls) h = refl

-- a CHR$ of a number that is no byte
large_read : (bytes : List ℕ) (ends : Bool) (ds : List ℕ) (ls : List Lexeme) → nat_le (number_of ds) 255 ≡ false → line_in bytes ends (Word word.Chr ∷ OpenParen ∷ Digits ds ∷ ls) ≡ Err (BadByte, start_of (Digits ds ∷ ls))
unfolding line_in
large_read bytes ends ds [] large = rw large refl
large_read bytes ends ds (CloseParen ∷ ls) large = rw large refl
large_read bytes ends ds (l ∷ ls) large = rw large refl

-- a string with a bad byte, or with the 256th, is refused
string_read : (bytes s : List ℕ) (ends : Bool) (ls : List Lexeme) (f : Placed) → string_added (Quoted s ∷ ls) bytes s ≡ Err f → line_in bytes ends (Quoted s ∷ ls) ≡ Err f
unfolding line_in
string_read bytes s ends ls f h = rw h refl

-- a string with a bad byte is refused for it
bad_string : (at : List Lexeme) (bytes good : List ℕ) (b : ℕ) (more : List ℕ) → list_all is_printable good ≡ true → is_printable b ≡ false → length bytes + length good ≤ 255 → string_added at bytes (good ++ b ∷ more) ≡ Err (BadByte, within at (1 + length good))
unfolding string_added
bad_string at bytes good b more all bad few =
    let n : prefix_len is_printable (good ++ b ∷ more) ≡ length good = prefix_to_cut is_printable good b more all bad in
    let short : nat_lt 255 (length bytes + length good) ≡ false = grind (arith, common_steps) in
    let within : length good < length (good ++ b ∷ more) = omega (arith, length-append good (b ∷ more)) in
    let less : nat_lt (length good) (length (good ++ b ∷ more)) ≡ true = grind (arith, common_steps) in
    rw (n, short, less) refl

-- a string with the list's 256th byte is refused for it
long_string : (at : List Lexeme) (bytes good : List ℕ) (b : ℕ) (more : List ℕ) → list_all is_printable good ≡ true → is_printable b ≡ true → length bytes + length good ≡ 255 → string_added at bytes (good ++ b ∷ more) ≡ Err (TooLong, within at (1 + length good))
unfolding string_added
long_string at bytes good b more all fine full =
    let past : length good < prefix_len is_printable (good ++ b ∷ more) = prefix_past_cut is_printable good b more all fine in
    let over : 255 < length bytes + prefix_len is_printable (good ++ b ∷ more) = omega (arith, past, full) in
    let long : nat_lt 255 (length bytes + prefix_len is_printable (good ++ b ∷ more)) ≡ true = grind (arith, common_steps) in
    let left : 1 + (255 - length bytes) ≡ 1 + length good = omega (arith, full) in
    rw (long, left) refl

-- the byte of a CHR$ where 255 are already
full_read : (bytes : List ℕ) (ends : Bool) (ds : List ℕ) (ls : List Lexeme) → nat_le (number_of ds) 255 ≡ true → length bytes ≡ 255 → line_in bytes ends (Word word.Chr ∷ OpenParen ∷ Digits ds ∷ CloseParen ∷ ls) ≡ Err (TooLong, start_of (Word word.Chr ∷ OpenParen ∷ Digits ds ∷ CloseParen ∷ ls))
unfolding line_in byte_added
full_read bytes ends ds ls small full =
    let none : nat_lt (length bytes) 255 ≡ false = rw full refl in
    rw (small, none) refl

-- a fault of the table at the next item is read as that
item_fault_read : (bytes : List ℕ) (ends : Bool) (f : Placed) (next : List Lexeme) → IsItemFault f (length bytes) next → line_in bytes ends next ≡ Err f
item_fault_read bytes ends (UnknownWord, at) next (inl h) = rw (h.4, h.2) (no_item_read bytes ends h.0 h.1 h.3)
item_fault_read bytes ends (UnknownWord, at) next (inr (inl h)) = rw (h.3, h.1) (no_open_read bytes ends h.0 h.2)
item_fault_read bytes ends (UnknownWord, at) next (inr (inr h)) =
    let few : number_of h.0 ≤ 255 = h.3 in
    let small : nat_le (number_of h.0) 255 ≡ true = grind (arith, common_steps) in
    rw (h.5, h.2) (no_close_read bytes ends h.0 h.1 small h.4)
item_fault_read bytes ends (BadNumber, at) next h = rw (h.3, h.1) (no_digits_read bytes ends h.0 h.2)
item_fault_read bytes ends (BadByte, at) next (inl h) = rw (h.8, h.4) (string_read bytes (h.0 ++ h.1 ∷ h.2) ends h.3 _ (bad_string _ bytes h.0 h.1 h.2 h.5 h.6 h.7))
item_fault_read bytes ends (BadByte, at) next (inr h) =
    let many : 255 < number_of h.0 = h.3 in
    let large : nat_le (number_of h.0) 255 ≡ false = grind (arith, common_steps) in
    rw (h.4, h.2) (large_read bytes ends h.0 h.1 large)
item_fault_read bytes ends (TooLong, at) next (inl h) = rw (h.8, h.4) (string_read bytes (h.0 ++ h.1 ∷ h.2) ends h.3 _ (long_string _ bytes h.0 h.1 h.2 h.5 h.6 h.7))
item_fault_read bytes ends (TooLong, at) next (inr h) =
    let few : number_of h.0 ≤ 255 = h.3 in
    let small : nat_le (number_of h.0) 255 ≡ true = grind (arith, common_steps) in
    rw (h.5, h.2) (full_read bytes ends h.0 h.1 small h.4)
item_fault_read bytes ends (f, at) next h = absurd h

-- good items are passed, and what follows them fails
after_items : (bytes : List ℕ) (ends : Bool) (is : List Item) (next : List Lexeme) (f : Placed) → AreItems is → length bytes + length (items_bytes is) ≤ 255
    → ((b : List ℕ) (e : Bool) → length b ≡ length bytes + length (items_bytes is) → line_in b e next ≡ Err f) → line_in bytes ends (items_lexemes is ++ next) ≡ Err f
unfolding line_in
after_items bytes ends [] next f good few h = h bytes ends (omega arith)
after_items bytes ends (Semi ∷ is) next f good few h = after_items bytes false is next f good.1 few h
after_items bytes ends (Quote s ∷ is) next f good few h =
    let first : string_added (Quoted s ∷ (items_lexemes is ++ next)) bytes s ≡ Ok (bytes ++ s) = string_fits _ bytes s good.0 (omega (arith, length-append s (items_bytes is))) in
    rw first (after_items (bytes ++ s) true is next f good.1 (omega (arith, length-append s (items_bytes is), length-append bytes s))
    (λ b e k. h b e (k ∙ omega (arith, length-append s (items_bytes is), length-append bytes s))))
after_items bytes ends (Code ds ∷ is) next f good few h =
    let first : byte_added (Word word.Chr ∷ OpenParen ∷ Digits ds ∷ CloseParen ∷ (items_lexemes is ++ next)) bytes (number_of ds) ≡ Ok (bytes ++ number_of ds ∷ []) = byte_fits _ bytes (number_of ds) (omega arith) in
    let low : number_of ds ≤ 255 = good.0 in
    let small : nat_le (number_of ds) 255 ≡ true = grind (arith, common_steps) in
    rw (small, first) (after_items (bytes ++ number_of ds ∷ []) true is next f good.1 (omega (arith, length-append bytes (number_of ds ∷ [])))
    (λ b e k. h b e (k ∙ omega (arith, length-append bytes (number_of ds ∷ [])))))

-- a fault of the table is read as that
pub list_fault_read : (f : Placed) (list : List Lexeme) → IsListFault f 0 list → line_in [] true list ≡ Err f
list_fault_read f list h =
    let P : ℕ → List Lexeme → Type 0 = λ n next. IsItemFault f n next in
    ap (line_in [] true) h.spelled ∙ after_items [] true h.items h.next f h.good h.short
    (λ b e k. item_fault_read b e f h.next (let Q : ℕ → Type 0 = λ n. IsItemFault f n h.next in subst Q (sym k) h.fault))
