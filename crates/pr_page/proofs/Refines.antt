-- What a printer keeps gives the page of the inputs that it has taken.
use Rattle.std.proofs.Common.{◌≡◌, ℕ, zero, suc, Bool, true, false, List, [], ◌∷◌, ◌++◌, length, refl, sym, ap, ◌∙◌, subst, append_assoc, arith, ◌+◌, ◌*◌, ◌≤◌, length-append}
use Rattle.std.specs.Prelude.{Result, Ok, Err, OnOk, reverse, nat_le, replicate, if◌then◌else◌, ◌&&◌}
use Rattle.std.proofs.lemmas.List.{append-nil, reverse-append}
use Rattle.pr_page.specs.Token.{Came, bytes_of, Token, Column, Repeat, Address, Nothing, Plain}
use Rattle.pr_page.specs.Codes.{code_of}
use Rattle.pr_page.specs.Modes.{modes_after, modes_at}
use Rattle.pr_page.specs.Acts.{Act, acts_in, acts_of, is_cell, is_digit, column_of, dots_of}
use Rattle.pr_page.specs.Page.{IsPage}
use Rattle.pr_page.specs.Steps.{pending_after, tokens_by, state_after_token, state_after_tokens, step, state_after, start}
use Rattle.pr_page.specs.Evaluator.{page_of}
use Rattle.pr_page.specs.Taken.{HasTaken}
use Rattle.pr_page.proofs.Cutting.{selected, bytes_of-select, bytes_of-byte, selected-select, selected-byte, AreTokens-push, Cut, Cut-none, Cut-push}
use Rattle.pr_page.proofs.Paging.{IsSheet, IsSheet-append, AreLinesTo-lines, AreNarrow}
use Rattle.pr_page.specs.declared.input.Input.{Input}
use Rattle.pr_page.specs.declared.input.Input.TheVariants.{Select, Byte}
use Rattle.pr_page.specs.declared.settings.Settings.{Settings}
use Rattle.pr_page.specs.declared.state.PrinterState.{PrinterState}
use Rattle.pr_page.specs.declared.pending.Pending.{Pending}
use Rattle.pr_page.specs.declared.pending.Pending.TheVariants.{Idle}

-- a choice of two lists of narrow acts
narrow_if : (b : Bool) (xs ys : List Act) → AreNarrow xs → AreNarrow ys → AreNarrow (if b then xs else ys)
narrow_if true xs ys h k = h
narrow_if false xs ys h k = k

narrow_columns : (n : ℕ) (m : Settings) (d : ℕ) → AreNarrow (replicate n (dots_of m d))
narrow_columns zero m d = tt
narrow_columns (suc n) m d = (omega arith, narrow_columns n m d)

narrow_cell : (wide : Bool) → (if wide then 12 else 6) ≤ 480
narrow_cell true = omega arith
narrow_cell false = omega arith

acts_in-narrow : (m : Settings) (t : Token) → AreNarrow (acts_in m t)
acts_in-narrow m (Plain lower b) =
    narrow_if (code_of b).ends_line _ _ (tt, tt)
    (narrow_if m.graphic _ _
    (narrow_if (nat_le 128 b) _ _ (omega arith, tt) tt)
    (narrow_if (is_cell b) _ _ (narrow_cell m.wide, tt) tt))
acts_in-narrow m (Repeat n d) = narrow_if (m.graphic && nat_le 128 d) _ _ (narrow_columns n m d) tt
acts_in-narrow m (Column a b) = narrow_if ((is_digit a && is_digit b) && nat_le (column_of a b) 79) _ _ (tt, tt) tt
acts_in-narrow m (Address h l) = narrow_if (nat_le (256 * h + l) 479) _ _ (tt, tt) tt
acts_in-narrow m Nothing = tt

-- settings and sheet are those of the tokens
pub record IsOf (tokens : List Token) (s : PrinterState) : Type 0 where
  pub settings : s.settings ≡ modes_at (reverse tokens)
  pub sheet : IsSheet (acts_of (reverse tokens)) s.sheet

reverse-push : (tokens : List Token) (t : Token) → reverse (tokens ++ t ∷ []) ≡ t ∷ reverse tokens
reverse-push tokens t = reverse-append tokens (t ∷ [])

IsOf-token : (tokens : List Token) (s : PrinterState) (t : Token) → IsOf tokens s → IsOf (tokens ++ t ∷ []) (state_after_token s t)
IsOf-token tokens s t h = record {
  settings = ap (λ m. modes_after m t) h.settings ∙ sym (ap modes_at (reverse-push tokens t));
  sheet =
      subst (λ back. IsSheet (acts_of back) (state_after_token s t).sheet) (sym (reverse-push tokens t))
      (subst (λ m. IsSheet (acts_of (reverse tokens) ++ acts_in m t) (state_after_token s t).sheet) h.settings
      (IsSheet-append (acts_of (reverse tokens)) s.sheet (acts_in s.settings t) (acts_in-narrow s.settings t) h.sheet));
}

IsOf-tokens : (tokens : List Token) (s : PrinterState) (more : List Token) → IsOf tokens s → IsOf (tokens ++ more) (state_after_tokens s more)
IsOf-tokens tokens s [] h = rw (append-nil tokens) h
IsOf-tokens tokens s (t ∷ more) h =
    rw (← append_assoc tokens (t ∷ []) more) (IsOf-tokens (tokens ++ t ∷ []) (state_after_token s t) more (IsOf-token tokens s t h))

-- tokens leave the selection
after_tokens-lower : (s : PrinterState) (tokens : List Token) → (state_after_tokens s tokens).lower ≡ s.lower
after_tokens-lower s [] = refl
after_tokens-lower s (t ∷ tokens) = after_tokens-lower (state_after_token s t) tokens

-- what is kept is that of the inputs
pub record Holds (inputs : List Input) (s : PrinterState) : Type 0 where
  pub tokens : List Token
  pub cut : Cut (bytes_of false inputs) tokens s.pending
  pub of_tokens : IsOf tokens s
  pub lower : s.lower ≡ selected false inputs
  pub taken : s.taken ≡ length inputs

Holds-start : Holds [] start
Holds-start = record {
  tokens = [];
  cut = Cut-none [] Idle refl;
  of_tokens = record {
    settings = refl;
    sheet = record { last = []; is_line = tt; are_lines = (refl, tt, refl); held = refl; position = refl };
  };
  lower = refl;
  taken = refl;
}

longer : (inputs : List Input) (x : Input) → length (inputs ++ x ∷ []) ≡ length inputs + 1
longer inputs x = length-append inputs (x ∷ [])

-- the cutting with one more byte
grown : (bytes : List Came) (tokens : List Token) (p : Pending) (b : ℕ) (lower : Bool) → Cut bytes tokens p →
    Cut (bytes ++ record { byte = b; lower = lower } ∷ []) (tokens ++ tokens_by p lower b) (pending_after p b)
grown bytes tokens p b lower cut =
    let last = Cut-push p cut.rest b lower cut.pending in
    record {
      rest = last.rest;
      are_tokens = AreTokens-push bytes tokens cut.rest _ (tokens_by p lower b) last.rest cut.are_tokens last.are_tokens;
      pending = last.pending;
    }

Holds-step : (inputs : List Input) (s : PrinterState) (x : Input) → Holds inputs s → Holds (inputs ++ x ∷ []) (step s x)
Holds-step inputs s (Select lower) h = record {
  tokens = h.tokens;
  cut = rw (bytes_of-select false lower inputs) h.cut;
  of_tokens = record { settings = h.of_tokens.settings; sheet = h.of_tokens.sheet };
  lower = sym (selected-select false lower inputs);
  taken = ap (λ n. n + 1) h.taken ∙ sym (longer inputs (Select lower));
}
Holds-step inputs s (Byte b) h =
    let of_tokens = IsOf-tokens h.tokens s (tokens_by s.pending s.lower b) h.of_tokens in
    record {
      tokens = h.tokens ++ tokens_by s.pending s.lower b;
      cut =
          subst (λ bytes. Cut bytes (h.tokens ++ tokens_by s.pending s.lower b) (pending_after s.pending b))
          (ap (λ lower. bytes_of false inputs ++ record { byte = b; lower = lower } ∷ []) h.lower ∙ sym (bytes_of-byte false b inputs))
          (grown (bytes_of false inputs) h.tokens s.pending b s.lower h.cut);
      of_tokens = record { settings = of_tokens.settings; sheet = of_tokens.sheet };
      lower = after_tokens-lower s (tokens_by s.pending s.lower b) ∙ h.lower ∙ sym (selected-byte false b inputs);
      taken = ap (λ n. n + 1) h.taken ∙ sym (longer inputs (Byte b));
    }

Holds-all : (before : List Input) (s : PrinterState) (inputs : List Input) → Holds before s → Holds (before ++ inputs) (state_after s inputs)
Holds-all before s [] h = rw (append-nil before) h
Holds-all before s (x ∷ inputs) h =
    rw (← append_assoc before (x ∷ []) inputs) (Holds-all (before ++ x ∷ []) (step s x) inputs (Holds-step before s x h))

-- what is kept after inputs has their page
pub state_after-page : (inputs : List Input) → IsPage inputs (state_after start inputs).sheet.paper
state_after-page inputs =
    let h = Holds-all [] start inputs Holds-start in
    record {
      tokens = h.tokens;
      rest = h.cut.rest;
      last = h.of_tokens.sheet.last;
      are_tokens = h.cut.are_tokens;
      are_lines = AreLinesTo-lines 0 _ _ h.of_tokens.sheet.last _ h.of_tokens.sheet.are_lines;
      held = h.of_tokens.sheet.held;
    }

-- what is kept after inputs counts them
pub state_after-taken : (inputs : List Input) → (state_after start inputs).taken ≡ length inputs
state_after-taken inputs = (Holds-all [] start inputs Holds-start).taken

-- one more input is one more step
pub state_after-push : (s : PrinterState) (inputs : List Input) (x : Input) → state_after s (inputs ++ x ∷ []) ≡ step (state_after s inputs) x
state_after-push s [] x = refl
state_after-push s (y ∷ inputs) x = state_after-push (step s y) inputs x

pub HasTaken-page : (inputs : List Input) (s : PrinterState) → HasTaken inputs s → IsPage inputs s.sheet.paper
HasTaken-page inputs s h = rw h.kept (state_after-page inputs)

pub HasTaken-value : (inputs : List Input) (s : PrinterState) → HasTaken inputs s → s.sheet.paper ≡ page_of inputs
unfolding page_of
HasTaken-value inputs s h = ap (λ s. s.sheet.paper) h.kept

pub page_of-page : (inputs : List Input) → IsPage inputs (page_of inputs)
unfolding page_of
page_of-page inputs = state_after-page inputs

pub HasTaken-taken : (inputs : List Input) (s : PrinterState) → HasTaken inputs s → s.taken ≡ length inputs
HasTaken-taken inputs s h = rw h.kept (state_after-taken inputs)

pub HasTaken-push : (inputs : List Input) (s : PrinterState) (x : Input) (s' : PrinterState) → HasTaken inputs s → s' ≡ step s x → HasTaken (inputs ++ x ∷ []) s'
HasTaken-push inputs s x s' h stepped = record { kept = stepped ∙ ap (λ s. step s x) h.kept ∙ sym (state_after-push start inputs x) }

-- the fields of a value that has taken the inputs have taken them
pub HasTaken-same : (inputs : List Input) (s s' : PrinterState) → s' ≡ s → HasTaken inputs s → HasTaken inputs s'
HasTaken-same inputs s s' e h = record { kept = e ∙ h.kept }

-- what follows from a clause on `Ok`
pub on_ok : {T E P Q : Type 0} (r : Result T E) → (P → Q) → OnOk r P → OnOk r Q
on_ok (Ok x) f h = f h
on_ok (Err e) f h = h
