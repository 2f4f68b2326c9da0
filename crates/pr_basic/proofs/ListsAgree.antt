-- The lists that are read are those of the grammar.
use Rattle.std.proofs.Common.{◌≡◌, ℕ, ◌+◌, ◌-◌, ◌<◌, ◌≤◌, List, [], ◌∷◌, ◌++◌, length, refl, ap, sym, ◌∙◌, arith, Bool, true, false, append_assoc, append-nil, Result, Ok, Err, length-append}
use Rattle.std.specs.Prelude.{nat_le, nat_lt}
use Rattle.std.specs.List.{list_all, prefix_len}
use Rattle.std.proofs.lemmas.Grind.{common_steps}
use Rattle.pr_basic.specs.Text.{Text}
use Rattle.pr_basic.specs.Lexemes.{Lexeme, Word, Digits, Quoted, Semicolon, OpenParen, CloseParen}
use Rattle.pr_basic.specs.Grammar.{Item, Semi, Quote, Code, AreItems, IsItem, ends_after, is_printable, item_bytes, item_lexemes, items_bytes, items_lexemes}
use Rattle.pr_basic.specs.FaultRules.{within}
use Rattle.pr_base.specs.Digits.{number_of}
use Rattle.pr_basic.specs.Reading.{byte_added, line_in, string_added, ◌>>=◌}
use Rattle.pr_basic.specs.declared.lexemes.Keyword.TheVariants as word
use Rattle.pr_basic.specs.declared.fault.LineFault.TheVariants.{BadByte, TooLong}
use Rattle.pr_basic.proofs.Prefixes.{all_prefix, prefix_all}

-- what was bound gave both
pub bind_ok : {A B E : Type 0} (r : Result A E) (f : A → Result B E) (y : B) → (r >>= f) ≡ Ok y → (x : A) × (r ≡ Ok x) × (f x ≡ Ok y)
bind_ok (Ok x) f y h = (x, refl, h)
bind_ok (Err e) f y h = absurd (cc)

-- a byte that is taken
pub byte_in : (at : List Lexeme) (bytes more : List ℕ) (b : ℕ) → byte_added at bytes b ≡ Ok more → (more ≡ bytes ++ b ∷ []) × (length more ≤ 255)
unfolding byte_added
byte_in at bytes more b h = grind (arith, common_steps, length-append bytes (b ∷ []))

-- a byte that fits is taken
pub byte_fits : (at : List Lexeme) (bytes : List ℕ) (b : ℕ) → length bytes < 255 → byte_added at bytes b ≡ Ok (bytes ++ b ∷ [])
unfolding byte_added
byte_fits at bytes b h = grind (arith, common_steps)

-- a string that is taken
pub string_parts : (at : List Lexeme) (bytes more s : List ℕ) → string_added at bytes s ≡ Ok more → (more ≡ bytes ++ s) × (list_all is_printable s ≡ true) × (length more ≤ 255)
unfolding string_added
string_parts at bytes more s h = cases (nat_lt 255 (length bytes + prefix_len is_printable s)) refl (nat_lt (prefix_len is_printable s) (length s)) refl
  where
    cases : (t : Bool) → nat_lt 255 (length bytes + prefix_len is_printable s) ≡ t → (u : Bool) → nat_lt (prefix_len is_printable s) (length s) ≡ u
        → (more ≡ bytes ++ s) × (list_all is_printable s ≡ true) × (length more ≤ 255)
    cases true e u f = let j : string_added at bytes s ≡ Err (TooLong, within at (1 + (255 - length bytes))) = rw e refl in absurd (cc)
    cases false e true f = let j : string_added at bytes s ≡ Err (BadByte, within at (1 + prefix_len is_printable s)) = rw (e, f) refl in absurd (cc)
    cases false e false f =
        let is : string_added at bytes s ≡ Ok (bytes ++ s) = rw (e, f) refl in
        let same : bytes ++ s ≡ more = grind arith in
        let all : length s ≤ prefix_len is_printable s = grind (arith, common_steps) in
        let few : length bytes + prefix_len is_printable s ≤ 255 = grind (arith, common_steps) in
        (sym same, all_prefix is_printable s all, omega (arith, ap length same, length-append bytes s, all, few))

-- a string that fits is taken
pub string_fits : (at : List Lexeme) (bytes s : List ℕ) → list_all is_printable s ≡ true → length bytes + length s ≤ 255 → string_added at bytes s ≡ Ok (bytes ++ s)
unfolding string_added
string_fits at bytes s good h =
    let all : prefix_len is_printable s ≡ length s = prefix_all is_printable s good in
    let few : nat_lt 255 (length bytes + length s) ≡ false = grind (arith, common_steps) in
    let none : nat_lt (length s) (length s) ≡ false = grind (arith, common_steps) in
    rw (all, few, none) refl

-- a list that goes on after some bytes
pub record GoesOn (bytes : List ℕ) (ends : Bool) (tokens : List Lexeme) (line : Text) : Type 0 where
  pub items : List Item
  pub spelled : tokens ≡ items_lexemes items
  pub good : AreItems items
  pub bytes_are : line.bytes ≡ bytes ++ items_bytes items
  pub ends_are : line.ends ≡ ends_after ends items
  pub short : length line.bytes ≤ 255

-- an item and the list after it
after_item : (bytes more : List ℕ) (ends e : Bool) (i : Item) (tokens : List Lexeme) (line : Text) → IsItem i → more ≡ bytes ++ item_bytes i → ends_after ends (i ∷ []) ≡ e → ((is : List Item) → ends_after ends (i ∷ is) ≡ ends_after (ends_after ends (i ∷ [])) is)
    → GoesOn more e tokens line → GoesOn bytes ends (item_lexemes i ++ tokens) line
after_item bytes more ends e i tokens line good h k all g = record {
  items = i ∷ g.items;
  spelled = ap (λ ts. item_lexemes i ++ ts) g.spelled;
  good = (good, g.good);
  bytes_are = g.bytes_are ∙ (ap (λ v. v ++ items_bytes g.items) h ∙ append_assoc bytes (item_bytes i) (items_bytes g.items));
  ends_are = g.ends_are ∙ sym (all g.items ∙ ap (λ v. ends_after v g.items) k);
  short = g.short;
}

-- a list that is read is in the grammar
pub list_sound : (bytes : List ℕ) (ends : Bool) (ls : List Lexeme) (line : Text) → length bytes ≤ 255 → line_in bytes ends ls ≡ Ok line → GoesOn bytes ends ls line
unfolding line_in
list_sound bytes ends [] line few h =
    let b : line.bytes ≡ bytes = grind arith in
    let e : line.ends ≡ ends = grind arith in
    record { items = []; spelled = refl; good = tt; bytes_are = b ∙ sym (append-nil bytes); ends_are = e; short = omega (arith, ap length b) }
list_sound bytes ends (Semicolon ∷ ls) line few h =
    after_item bytes bytes ends false Semi ls line tt (sym (append-nil bytes)) refl (λ is. refl) (list_sound bytes false ls line few h)
list_sound bytes ends (Quoted s ∷ ls) line few h =
    let x = bind_ok (string_added (Quoted s ∷ ls) bytes s) (λ more. line_in more true ls) line h in
    let k = string_parts _ bytes x.0 s x.1 in
    after_item bytes x.0 ends true (Quote s) ls line k.1 k.0 refl (λ is. refl) (list_sound x.0 true ls line k.2 x.2)
list_sound bytes ends (Word word.Chr ∷ OpenParen ∷ Digits ds ∷ CloseParen ∷ ls) line few h =
    let small : number_of ds ≤ 255 = grind (arith, common_steps) in
    let said : (byte_added (Word word.Chr ∷ OpenParen ∷ Digits ds ∷ CloseParen ∷ ls) bytes (number_of ds) >>= λ more. line_in more true ls) ≡ Ok line = grind (arith, common_steps) in
    let x = bind_ok (byte_added (Word word.Chr ∷ OpenParen ∷ Digits ds ∷ CloseParen ∷ ls) bytes (number_of ds)) (λ more. line_in more true ls) line said in
    let k = byte_in _ bytes x.0 (number_of ds) x.1 in
    after_item bytes x.0 ends true (Code ds) ls line small k.0 refl (λ is. refl) (list_sound x.0 true ls line k.1 x.2)
list_sound bytes ends (Word word.Chr ∷ OpenParen ∷ Digits ds ∷ ls) line few h = absurd (grind (arith, common_steps))
list_sound bytes ends (Word word.Chr ∷ OpenParen ∷ ls) line few h = absurd (cc)
list_sound bytes ends (l ∷ ls) line few h = absurd (cc)

-- a list in the grammar is read
pub list_complete : (bytes : List ℕ) (ends : Bool) (is : List Item) → AreItems is → length bytes + length (items_bytes is) ≤ 255
    → line_in bytes ends (items_lexemes is) ≡ Ok (record { bytes = bytes ++ items_bytes is; ends = ends_after ends is })
unfolding line_in
list_complete bytes ends [] good few = rw append-nil refl
list_complete bytes ends (Semi ∷ is) good few = list_complete bytes false is good.1 few
list_complete bytes ends (Quote s ∷ is) good few =
    let first : string_added (Quoted s ∷ items_lexemes is) bytes s ≡ Ok (bytes ++ s) = string_fits _ bytes s good.0 (omega (arith, length-append s (items_bytes is))) in
    rw first (list_complete (bytes ++ s) true is good.1 (omega (arith, length-append s (items_bytes is), length-append bytes s)) ∙ rw append_assoc refl)
list_complete bytes ends (Code ds ∷ is) good few =
    let first : byte_added (Word word.Chr ∷ OpenParen ∷ Digits ds ∷ CloseParen ∷ items_lexemes is) bytes (number_of ds) ≡ Ok (bytes ++ number_of ds ∷ []) = byte_fits _ bytes (number_of ds) (omega arith) in
    let small : nat_le (number_of ds) 255 ≡ true = grind (arith, common_steps, good.0) in
    rw (small, first) (list_complete (bytes ++ number_of ds ∷ []) true is good.1 (omega (arith, length-append bytes (number_of ds ∷ []))) ∙ rw append_assoc refl)
