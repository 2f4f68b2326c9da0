-- The numbers of a list, its words, and the lists of a value of --delays.
use Rattle.std.proofs.Common.{◌≡◌, ◌<◌, ◌≤◌, ◌^◌, ◌+◌, ℕ, suc, add-one, drop-cons, List, [], ◌∷◌, ◌++◌, Bool, true, false, ◌&&◌, Option, Some, None, Result, Ok, Err, length, map, drop, get_or, ◌⊎◌, inl, inr, arith, rules, refl, sym, ap, ◌∙◌, append_assoc, append-nil}
use Rattle.std.specs.Prelude.{◌==◌, MatchOption, if◌then◌else◌, nat_le, nat_lt}
use Rattle.std.specs.List.{after_first, before_first, list_all, position_or_len, slice_split}
use Rattle.std.specs.Result.{IsErrAnd, IsErrOf, result_ok}
use Rattle.std.specs.Str.Parse.{ParsesUnsigned}
use Rattle.std.proofs.lemmas.Bool.{lt-ltb, ltb-true}
use Rattle.std.proofs.lemmas.Bool.Decides.{leb_tells}
use Rattle.std.proofs.lemmas.List.{drop_all}
use Rattle.std.proofs.lemmas.List.Splits.{length-slice_split, slice_split_first}
use Rattle.std.proofs.lemmas.Str.Parse.{IsNumeralModel, numerals_by_fold, parse_digits}
use Rattle.pr_base.specs.Digits.{is_digit, number_after, number_of}
use Rattle.pr_serial.specs.Bus.{DelayNumbers}
use Rattle.pr_options.proofs.PartLemmas.{empty_rest, is_mark, one_part, place}
use Rattle.pr_options.specs.DelayLists.{delays_of, is_number_list, is_raw_number, numbers_in, three_lists, up_to_three, words_of}
use Rattle.pr_options.specs.Options.{start_of}

-- std's digits and their number are these
own : IsNumeralModel (λ ds. list_all is_digit ds ≡ true) number_of
own = numerals_by_fold _ (search rules) number_after (search rules)

-- the test of a number, where all its bytes are digits
accepted : (l n : ℕ) → 0 < l → l ≤ 5 → n < 65536 → nat_le 1 l && (nat_le l 5 && (true && nat_le n 65535)) ≡ true
accepted l n some few small =
    let a : nat_le 1 l ≡ true = elim (leb_tells 1 l) [ inl h ↦ h.0 | inr h ↦ absurd (omega arith) ] in
    let b : nat_le l 5 ≡ true = elim (leb_tells l 5) [ inl h ↦ h.0 | inr h ↦ absurd (omega arith) ] in
    let d : nat_le n 65535 ≡ true = elim (leb_tells n 65535) [ inl h ↦ h.0 | inr h ↦ absurd (omega arith) ] in
    rw (a, b, d) refl

-- and where there are none, or the number is larger
refused : (l n : ℕ) → ¬ ((0 < l) × (n < 65536)) → nat_le 1 l && (nat_le l 5 && (true && nat_le n 65535)) ≡ false
refused l n bad = by (nat_le 1 l) (nat_le l 5) (nat_le n 65535) (leb_tells 1 l) (leb_tells n 65535)
  where
    by : (a b d : Bool) → ((a ≡ true) × (1 ≤ l)) ⊎ ((a ≡ false) × (l < 1)) → ((d ≡ true) × (n ≤ 65535)) ⊎ ((d ≡ false) × (65535 < n)) → a && (b && (true && d)) ≡ false
    by a b d (inr h) k = rw h.0 refl
    by false b d (inl h) k = refl
    by true false d (inl h) k = refl
    by true true d (inl h) (inr k) = k.0
    by true true d (inl h) (inl k) = absurd (bad (h.1, omega (arith, k.1)))

-- what is read of a text of at most five digits
pub number_given : {E : Type 0} (bs : List ℕ) (r : Result ℕ E) (o : Option ℕ) → o ≡ result_ok r → length bs ≤ 5 → list_all is_digit bs ≡ true → ParsesUnsigned 16 10 bs r
    → MatchOption o (is_raw_number bs ≡ false) (λ n. (is_raw_number bs ≡ true) × (n ≡ number_of bs))
number_given {E} bs (Ok n) o e few digits h =
    let k : ((0 < length bs) × (number_of bs < 2 ^ 16)) × (n ≡ number_of bs) = parse_digits own {E = E} 16 bs (Ok n) h digits in
    rw (e, digits) (accepted (length bs) (number_of bs) k.0.0 few (omega (arith, k.0.1)), k.1)
number_given {E} bs (Err x) o e few digits h =
    let k : ¬ ((0 < length bs) × (number_of bs < 2 ^ 16)) = parse_digits own {E = E} 16 bs (Err x) h digits in
    rw (e, digits) (refused (length bs) (number_of bs) (λ p. k (p.0, omega (arith, p.1))))

-- one word of those that are left
pub cut_at : (ws : List (List ℕ)) (i : ℕ) (w : List ℕ) → i < length ws → w ≡ get_or ws i w → drop i ws ≡ w ∷ drop (i + 1) ws
cut_at ws i w within is = rw add-one (drop-cons ws i w within ∙ ap (λ v. v ∷ drop (suc i) ws) (sym is))

-- a good word leaves it to the others
pub words_kept : (ws rest : List (List ℕ)) (w : List ℕ) (all : Bool) → ws ≡ w ∷ rest → is_raw_number w ≡ true → list_all is_raw_number ws ≡ all → list_all is_raw_number rest ≡ all
words_kept ws rest w all cut good e = sym (ap (list_all is_raw_number) cut ∙ ap (λ b. b && list_all is_raw_number rest) good) ∙ e

-- its number comes before those of the others
pub numbers_kept : (items all : List ℕ) (ws rest : List (List ℕ)) (w : List ℕ) → ws ≡ w ∷ rest → items ++ map number_of ws ≡ all → (items ++ number_of w ∷ []) ++ map number_of rest ≡ all
numbers_kept items all ws rest w cut e = append_assoc items (number_of w ∷ []) (map number_of rest) ∙ ap (λ t. items ++ map number_of t) (sym cut) ∙ e

-- a bad word decides
pub words_bad : (ws rest : List (List ℕ)) (w : List ℕ) (all : Bool) → ws ≡ w ∷ rest → is_raw_number w ≡ false → list_all is_raw_number ws ≡ all → all ≡ false
words_bad ws rest w all cut bad e = sym e ∙ (ap (list_all is_raw_number) cut ∙ ap (λ b. b && list_all is_raw_number rest) bad)

-- the words of a text that is not empty
pub words_cut : (text : List ℕ) → 0 < length text → words_of text ≡ slice_split (λ x. x == 44) text
words_cut [] h = absurd (omega arith)
words_cut (b ∷ bs) h = refl

-- a list was read
abbrev pub IsRead : List ℕ → List ℕ → Type 0
IsRead text items = (is_number_list text ≡ true) × (items ≡ numbers_in text)

-- the words were all good
pub all_read : (text items : List ℕ) (ws : List (List ℕ)) (n : ℕ) → words_of text ≡ ws → n ≡ length ws → list_all is_raw_number (drop n ws) ≡ list_all is_raw_number ws → items ++ map number_of (drop n ws) ≡ map number_of ws → IsRead text items
all_read text items ws n is end good e =
    let none : drop n ws ≡ [] = drop_all n ws (omega arith) in
    (ap (list_all is_raw_number) is ∙ (sym good ∙ ap (list_all is_raw_number) none), sym (append-nil items) ∙ (ap (λ t. items ++ map number_of t) (sym none) ∙ (e ∙ ap (map number_of) (sym is))))

-- nothing was read
pub none_read : (text items : List ℕ) → length text ≡ 0 → items ≡ [] → IsRead text items
none_read [] items h e = (refl, e)
none_read (b ∷ bs) items h e = absurd (omega arith)

-- a slash
abbrev slash : ℕ → Bool
slash = is_mark 47

-- the parts of three texts, one after another
same_lists : (a b d x y z : List ℕ) → a ≡ x → b ≡ y → d ≡ z → three_lists a b d ≡ three_lists x y z
same_lists a b d x y z h k l = rw (h, k, l) refl

-- the lists of a text of at most three
lists_are : (text : List ℕ) → position_or_len slash (after_first slash (after_first slash text)) ≡ length (after_first slash (after_first slash text))
    → delays_of text ≡ three_lists (before_first slash text) (before_first slash (after_first slash text)) (after_first slash (after_first slash text))
lists_are text third = by (place 47 text) (place 47 (after_first slash text))
  where
    by : (position_or_len slash text ≡ length text) ⊎ (position_or_len slash text < length text)
        → (position_or_len slash (after_first slash text) ≡ length (after_first slash text)) ⊎ (position_or_len slash (after_first slash text) < length (after_first slash text))
        → delays_of text ≡ three_lists (before_first slash text) (before_first slash (after_first slash text)) (after_first slash (after_first slash text))
    by (inl none) k =
        let one = one_part 47 text none in
        let rest = empty_rest 47 (after_first slash text) one.behind in
        ap up_to_three one.parts ∙ same_lists text [] [] (before_first slash text) (before_first slash (after_first slash text)) (after_first slash (after_first slash text)) (sym one.before) (sym rest.0) (sym rest.1)
    by (inr some) (inl none) =
        let one = one_part 47 (after_first slash text) none in
        ap up_to_three (slice_split_first slash text 0 some ∙ ap (λ ls. before_first slash text ∷ ls) one.parts)
        ∙ same_lists (before_first slash text) (after_first slash text) [] (before_first slash text) (before_first slash (after_first slash text)) (after_first slash (after_first slash text)) refl (sym one.before) (sym one.behind)
    by (inr some) (inr more) =
        let one = one_part 47 (after_first slash (after_first slash text)) third in
        ap up_to_three (slice_split_first slash text 0 some
        ∙ ap (λ ls. before_first slash text ∷ ls) (slice_split_first slash (after_first slash text) 0 more ∙ ap (λ ls. before_first slash (after_first slash text) ∷ ls) one.parts))

-- the same, where the texts were cut
pub delays_by : (text a rest b d : List ℕ) → a ≡ before_first slash text → rest ≡ after_first slash text → b ≡ before_first slash rest → d ≡ after_first slash rest
    → position_or_len slash d ≡ length d → delays_of text ≡ three_lists a b d
delays_by text a rest b d x y z w third =
    let e = ap (after_first slash) y in
    let end : position_or_len slash (after_first slash (after_first slash text)) ≡ length (after_first slash (after_first slash text)) = rw (w, e) at third in
    lists_are text end ∙ same_lists _ _ _ a b d (sym x) (ap (before_first slash) (sym y) ∙ sym z) (sym e ∙ sym w)

-- four lists or more
four_lists : (a b d : List ℕ) (ls : List (List ℕ)) → 0 < length ls → up_to_three (a ∷ b ∷ d ∷ ls) ≡ None
four_lists a b d [] h = absurd (omega arith)
four_lists a b d (l ∷ ls) h = refl

-- a slash after two
more_lists : (text : List ℕ) → position_or_len slash (after_first slash (after_first slash text)) < length (after_first slash (after_first slash text)) → delays_of text ≡ None
more_lists text third = by (place 47 text) (place 47 (after_first slash text))
  where
    by : (position_or_len slash text ≡ length text) ⊎ (position_or_len slash text < length text)
        → (position_or_len slash (after_first slash text) ≡ length (after_first slash text)) ⊎ (position_or_len slash (after_first slash text) < length (after_first slash text))
        → delays_of text ≡ None
    by (inl none) k =
        let rest = empty_rest 47 (after_first slash text) (one_part 47 text none).behind in
        let short : length (after_first slash (after_first slash text)) ≡ 0 = ap length rest.1 in
        absurd (omega arith)
    by (inr some) (inl none) =
        let short : length (after_first slash (after_first slash text)) ≡ 0 = ap length (one_part 47 (after_first slash text) none).behind in
        absurd (omega arith)
    by (inr some) (inr more) =
        let last = after_first slash (after_first slash (after_first slash text)) in
        ap up_to_three (slice_split_first slash text 0 some
        ∙ ap (λ ls. before_first slash text ∷ ls) (slice_split_first slash (after_first slash text) 0 more
        ∙ ap (λ ls. before_first slash (after_first slash text) ∷ ls) (slice_split_first slash (after_first slash (after_first slash text)) 0 third)))
        ∙ four_lists (before_first slash text) (before_first slash (after_first slash text)) (before_first slash (after_first slash (after_first slash text))) (slice_split slash last) (omega (arith, length-slice_split slash last))

-- the same, where the texts were cut
pub too_many : (text rest d : List ℕ) → rest ≡ after_first slash text → d ≡ after_first slash rest → position_or_len slash d < length d → delays_of text ≡ None
too_many text rest d y w third =
    let e = ap (after_first slash) y in
    let end : position_or_len slash (after_first slash (after_first slash text)) < length (after_first slash (after_first slash text)) = rw (w, e) at third in
    more_lists text end

-- a bad list of three
pub bad_first : (a b d : List ℕ) → is_number_list a ≡ false → three_lists a b d ≡ None
bad_first a b d h = rw h refl

pub bad_second : (a b d : List ℕ) → is_number_list a ≡ true → is_number_list b ≡ false → three_lists a b d ≡ None
bad_second a b d g h = rw (g, h) refl

pub bad_third : (a b d : List ℕ) → is_number_list a ≡ true → is_number_list b ≡ true → is_number_list d ≡ false → three_lists a b d ≡ None
bad_third a b d g h k = rw (g, h, k) refl

-- three good lists
pub all_good : (a b d : List ℕ) (numbers : DelayNumbers) → is_number_list a ≡ true → is_number_list b ≡ true → is_number_list d ≡ true
    → numbers.computer ≡ numbers_in a → numbers.four ≡ numbers_in b → numbers.five ≡ numbers_in d → three_lists a b d ≡ Some numbers
all_good a b d numbers g h k x y z = rw (g, h, k, ← x, ← y, ← z) refl

-- a start that was read
pub start_given : {E : Type 0} (bs : List ℕ) (r : Result ℕ E) (o : Option ℕ) → o ≡ result_ok r → list_all is_digit bs ≡ true → ParsesUnsigned 64 10 bs r → o ≡ start_of bs
start_given {E} bs (Ok n) o e digits h =
    let k : ((0 < length bs) × (number_of bs < 2 ^ 64)) × (n ≡ number_of bs) = parse_digits own {E = E} 64 bs (Ok n) h digits in
    rw (e, digits, lt-ltb 0 (length bs) k.0.0, lt-ltb (number_of bs) (2 ^ 64) k.0.1) (ap Some k.1)
start_given {E} bs (Err x) o e digits h =
    let k : ¬ ((0 < length bs) × (number_of bs < 2 ^ 64)) = parse_digits own {E = E} 64 bs (Err x) h digits in
    rw (e, digits) (by k (nat_lt 0 (length bs)) (nat_lt (number_of bs) (2 ^ 64)) refl refl)
  where
    by : ¬ ((0 < length bs) × (number_of bs < 2 ^ 64)) → (a b : Bool) → a ≡ nat_lt 0 (length bs) → b ≡ nat_lt (number_of bs) (2 ^ 64) → None ≡ (if a && (true && b) then Some (number_of bs) else None)
    by k false b e f = refl
    by k true false e f = refl
    by k true true e f = absurd (k (ltb-true 0 (length bs) (sym e), ltb-true (number_of bs) (2 ^ 64) (sym f)))

-- the fault that a `?` hands on
pub same_fault : {T E : Type 0} (r : Result T E) (f g : E) → IsErrAnd r (λ x. x ≡ f) → IsErrOf r g → f ≡ g
same_fault (Ok x) f g e h = absurd e
same_fault (Err x) f g e h = cc
