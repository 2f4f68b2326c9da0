use Rattle.std.proofs.Common.{◌≡◌, ℕ, zero, suc, ◌+◌, ◌-◌, ◌<◌, ◌≤◌, ◌==◌, ◌&&◌, Bool, true, false, List, [], ◌∷◌, ◌++◌}
use Rattle.std.proofs.Common.{length, drop, get_or, arith, sym, refl, ap, ◌∙◌, drop-cons, add-one, append_assoc}
use Rattle.std.proofs.Common.{append-nil, eq-eqb, Option, Some, None}
use Rattle.std.proofs.lemmas.List.{drop-drop, drop_all}
use Rattle.std.proofs.lemmas.Bool.{false≢true, le-leb, ne_eqb}
use Rattle.std.specs.Char.{to_ascii_uppercase}
use Rattle.std.specs.List.{list_all}
use Rattle.std.specs.Prelude.{nat_le}
use Rattle.pr_listing.specs.Keywords.{keyword_of, keywords}
use Rattle.pr_listing.specs.TokenNames.{token_name}
use Rattle.pr_interpreter.specs.Symbols.{begins, first_token, front, placed, spelled, symbols, typed_token}
use Rattle.pr_interpreter.specs.declared.symbols.Front.{Front}
use Rattle.pr_interpreter.specs.declared.symbols.Keyword.{Keyword}
use Rattle.pr_interpreter.specs.declared.symbols.Stored.{Stored}
use Rattle.pr_interpreter.specs.declared.symbols.Symbol.{Symbol}
use Rattle.pr_interpreter.specs.declared.symbols.Writing.{Writing}

-- ---- words at the front

and_none : (b : Bool) → (b && false) ≡ false
and_none true = refl
and_none false = refl

-- a text that is shorter than a word does not begin with it
pub begins_short : (ws bs : List ℕ) → length bs < length ws → begins ws bs ≡ false
begins_short [] bs h = absurd (omega arith)
begins_short (w ∷ ws) [] h = refl
begins_short (w ∷ ws) (b ∷ bs) h =
    let less : length bs < length ws = omega arith in rw (begins_short ws bs less)
    (and_none (to_ascii_uppercase b == w))

-- a byte that differs ends the search
pub begins_fails : (ws bs : List ℕ) (i r : ℕ) → i < length ws → i < length bs
    → r ≡ to_ascii_uppercase (get_or bs i 0) → (r ≡ get_or ws i 0 → ⊥) → begins (drop i ws) (drop i bs) ≡ false
begins_fails ws bs i r h k e other =
    let no : (to_ascii_uppercase (get_or bs i 0) == get_or ws i 0) ≡ false = ne_eqb _ _ (λ same. other (e ∙ same)) in
    rw (drop-cons ws i 0 h, drop-cons bs i 0 k, no) refl

-- a byte that is the word's leaves the rest of both
pub begins_more : (ws bs : List ℕ) (i r : ℕ) → i < length ws → i < length bs
    → r ≡ to_ascii_uppercase (get_or bs i 0) → r ≡ get_or ws i 0
    → begins (drop (i + 1) ws) (drop (i + 1) bs) ≡ begins (drop i ws) (drop i bs)
begins_more ws bs i r h k e same =
    let yes : (to_ascii_uppercase (get_or bs i 0) == get_or ws i 0) ≡ true = eq-eqb _ _ (sym e ∙ same) in
    rw (drop-cons ws i 0 h, drop-cons bs i 0 k, yes, add-one i) refl

pub begins_all : (ws bs : List ℕ) (i : ℕ) → length ws ≤ i → begins (drop i ws) (drop i bs) ≡ true
begins_all ws bs i h = rw (drop_all i ws h) refl

-- ---- tokens

abbrev pub spelled_as : ℕ → ℕ → Option Keyword
spelled_as token size = Some (record { token = token; size = size })

pub token_start : (text : List ℕ) → first_token 128 (204 - 128) text ≡ typed_token text
unfolding typed_token
token_start text = refl

pub token_found : (token : ℕ) (text : List ℕ) → token < 204 → begins (keyword_of token) text ≡ true
    → first_token token (204 - token) text ≡ Some token
token_found token text h e = let more : 204 - token ≡ suc (203 - token) = omega arith in rw (more, e) refl

pub token_passed : (token : ℕ) (text : List ℕ) → token < 204 → begins (keyword_of token) text ≡ false
    → first_token token (204 - token) text ≡ first_token (token + 1) (204 - (token + 1)) text
token_passed token text h e =
    let more : 204 - token ≡ suc (204 - (token + 1)) = omega arith in rw (more, e) refl

in_table : (token : ℕ) (word : List ℕ) → token < 204 → word ≡ token_name token → word ≡ keyword_of token
in_table token word h e = let small : nat_le token 203 ≡ true = le-leb token 203 (omega arith) in rw small at e

has_some : List ℕ → Bool
has_some [] = false
has_some (b ∷ bs) = true

all_some : list_all has_some keywords ≡ true
unfolding has_some
all_some = refl

some_at : (ws : List (List ℕ)) (i : ℕ) → list_all has_some ws ≡ true → i < length ws → 0 < length (get_or ws i [])
unfolding has_some
some_at [] i all h = absurd (omega arith)
some_at ([] ∷ ws) i all h = absurd (false≢true all)
some_at ((b ∷ bs) ∷ ws) zero all h = omega arith
some_at ((b ∷ bs) ∷ ws) (suc i) all h = let less : i < length ws = omega arith in some_at ws i all less

-- a keyword has a letter
pub keyword_some : (token : ℕ) (word : List ℕ) → 128 ≤ token → token < 204 → word ≡ token_name token → 0 < length word
unfolding keyword_of
keyword_some token word low high e =
    let first : nat_le 128 token ≡ true = le-leb 128 token low in
    let last : nat_le token 203 ≡ true = le-leb token 203 (omega arith) in
    let less : token - 128 < 76 = omega arith in
    rw (in_table token word high e, first, last) (some_at keywords (token - 128) all_some less)

-- a loop over the tokens has come to one whose word is at the front
pub token_is : (token : ℕ) (word text : List ℕ) (b : Bool) (whole : Option ℕ) → token < 204 → word ≡ token_name token
    → b ≡ begins word text → b ≡ true → first_token token (204 - token) text ≡ whole
    → Some (record { token = token; size = length word }) ≡ spelled whole
token_is token word text b whole h e test is all =
    let named = in_table token word h e in
    let front : begins (keyword_of token) text ≡ true = ap (λ (ws : List ℕ). begins ws text) (sym named)
    ∙ (sym test ∙ is) in
    ap (λ (ws : List ℕ). spelled_as token (length ws)) named ∙ ap spelled (sym (token_found token text h front) ∙ all)

-- or to one whose word is not
pub token_is_not : (token : ℕ) (word text : List ℕ) (b : Bool) (whole : Option ℕ) → token < 204
    → word ≡ token_name token → b ≡ begins word text → b ≡ false → first_token token (204 - token) text ≡ whole
    → first_token (token + 1) (204 - (token + 1)) text ≡ whole
token_is_not token word text b whole h e test other all =
    let front : begins (keyword_of token) text ≡ false =
    ap (λ (ws : List ℕ). begins ws text) (sym (in_table token word h e)) ∙ (sym test ∙ other) in
    sym (token_passed token text h front) ∙ all

-- or to the end
pub no_token : (token : ℕ) (text : List ℕ) (whole : Option ℕ) → 204 ≤ token
    → first_token token (204 - token) text ≡ whole → spelled None ≡ spelled whole
no_token token text whole h all =
    let none : 204 - token ≡ 0 = omega arith in
    ap spelled (ap (λ (n : ℕ). first_token token n text) (sym none) ∙ all)

-- ---- symbols one after another

pub symbols_on : (w : Writing) (p k : ℕ) (bs : List ℕ) → symbols w p k bs ≡ symbols w (p + k) 0 (drop k bs)
unfolding symbols
symbols_on w p zero bs = ap (λ (q : ℕ). symbols w q 0 bs) (omega arith)
symbols_on w p (suc k) [] = refl
symbols_on w p (suc k) (b ∷ bs) =
    symbols_on w (p + 1) k bs ∙ ap (λ (q : ℕ). symbols w q 0 (drop k bs)) (omega arith)

step : (w : Writing) (p b : ℕ) (bs : List ℕ) (n : ℕ) → 0 < n
    → symbols w (p + 1) (n - 1) bs ≡ symbols w (p + n) 0 (drop n (b ∷ bs))
step w p b bs zero h = absurd (omega arith)
step w p b bs (suc n) h =
    let less : suc n - 1 ≡ n = omega arith in
    rw less (symbols_on w (p + 1) n bs ∙ ap (λ (q : ℕ). symbols w q 0 (drop n bs)) (omega arith))

-- the symbols of a rest are its front and those after the front
pub symbols_front : (w : Writing) (p : ℕ) (bs : List ℕ) (f : Front) → 0 < length bs → f ≡ front w p bs → 0 < f.size
    → symbols w p 0 bs ≡ placed p f.stored ++ symbols w (p + f.size) 0 (drop f.size bs)
unfolding symbols
symbols_front w p [] f h e some = absurd (omega arith)
symbols_front w p (b ∷ bs) f h e some =
    rw (sym e) (ap (λ (ss : List Symbol). placed p f.stored ++ ss) (step w p b bs f.size some))

-- the front of a rest is taken, and its symbol is added to others
pub front_taken : (w : Writing) (p : ℕ) (bs : List ℕ) (f : Front) (s : Option Stored) (old new : List Symbol)
    → 0 < length bs → f ≡ front w p bs → 0 < f.size → f.stored ≡ s → new ≡ old ++ placed p s
    → new ++ symbols w (p + f.size) 0 (drop f.size bs) ≡ old ++ symbols w p 0 bs
front_taken w p bs f s old new h e some is added =
    let rest = symbols w (p + f.size) 0 (drop f.size bs) in
    ap (λ (ss : List Symbol). ss ++ rest) (added ∙ ap (λ (t : Option Stored). old ++ placed p t) (sym is))
    ∙ (append_assoc old (placed p f.stored) rest
    ∙ ap (λ (ss : List Symbol). old ++ ss) (sym (symbols_front w p bs f h e some)))

-- a loop over the fronts of a line goes on
pub symbols_more : (w : Writing) (p k n : ℕ) (line : List ℕ) (old new whole : List Symbol)
    → new ++ symbols w (p + k + n) 0 (drop n (drop k line)) ≡ old ++ symbols w (p + k) 0 (drop k line)
    → old ++ symbols w (p + k) 0 (drop k line) ≡ whole
    → new ++ symbols w (p + (k + n)) 0 (drop (k + n) line) ≡ whole
symbols_more w p k n line old new whole e all =
    let at : p + (k + n) ≡ p + k + n = omega arith in
    ap (λ (bs : List ℕ). new ++ symbols w (p + (k + n)) 0 bs) (sym (drop-drop n k line))
    ∙ (ap (λ (q : ℕ). new ++ symbols w q 0 (drop n (drop k line))) at ∙ (e ∙ all))

-- and ends with the line
pub symbols_all : (w : Writing) (p k : ℕ) (line : List ℕ) (found whole : List Symbol) → length line ≤ k
    → found ++ symbols w (p + k) 0 (drop k line) ≡ whole → found ≡ whole
unfolding symbols
symbols_all w p k line found whole h e =
    let left = drop_all k line h in
    sym (append-nil found) ∙ (ap (λ (bs : List ℕ). found ++ symbols w (p + k) 0 bs) (sym left) ∙ e)
