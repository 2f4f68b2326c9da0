-- How the tokens of the bytes grow with one more byte.
use Rattle.std.proofs.Common.{◌≡◌, ◌≢◌, ℕ, Bool, List, [], ◌∷◌, ◌++◌, inl, inr, map, refl, sym, ap, ◌∙◌, append_assoc}
use Rattle.std.proofs.lemmas.List.{append-nil, map-append}
use Rattle.std.proofs.lemmas.Bool.Decides.{eqb_tells}
use Rattle.pr_page.specs.Token.{Came, bytes_of, Token, Column, Repeat, Address, Nothing, Plain, spelling_of, IsNoAddress, MayStand, IsUnfinished, AreTokens}
use Rattle.pr_page.specs.Steps.{begun_by, completed_by, pending_after, tokens_by}
use Rattle.pr_page.specs.declared.input.Input.{Input}
use Rattle.pr_page.specs.declared.input.Input.TheVariants.{Select, Byte}
use Rattle.pr_page.specs.declared.pending.Pending.{Pending}
use Rattle.pr_page.specs.declared.pending.Pending.TheVariants.{Idle, ColumnCode, ColumnTens, RepeatCode, RepeatCount, EscapeCode, AddressCode, AddressHigh}

-- the last selection of a list of inputs, or else the first argument
abbrev pub selected : Bool → List Input → Bool
selected set [] = set
selected set (Select lower ∷ inputs) = selected lower inputs
selected set (Byte b ∷ inputs) = selected set inputs

-- a selection is no byte
pub bytes_of-select : (set lower : Bool) (inputs : List Input) → bytes_of set (inputs ++ Select lower ∷ []) ≡ bytes_of set inputs
bytes_of-select set lower [] = refl
bytes_of-select set lower (Select x ∷ inputs) = bytes_of-select x lower inputs
bytes_of-select set lower (Byte b ∷ inputs) = ap (λ bytes. record { byte = b; lower = set } ∷ bytes) (bytes_of-select set lower inputs)

-- one byte more comes with the last selection
pub bytes_of-byte : (set : Bool) (c : ℕ) (inputs : List Input) → bytes_of set (inputs ++ Byte c ∷ []) ≡ bytes_of set inputs ++ record { byte = c; lower = selected set inputs } ∷ []
bytes_of-byte set c [] = refl
bytes_of-byte set c (Select x ∷ inputs) = bytes_of-byte x c inputs
bytes_of-byte set c (Byte b ∷ inputs) = ap (λ bytes. record { byte = b; lower = set } ∷ bytes) (bytes_of-byte set c inputs)

-- a selection more is the last one
pub selected-select : (set lower : Bool) (inputs : List Input) → selected set (inputs ++ Select lower ∷ []) ≡ lower
selected-select set lower [] = refl
selected-select set lower (Select x ∷ inputs) = selected-select x lower inputs
selected-select set lower (Byte b ∷ inputs) = selected-select set lower inputs

-- a byte selects nothing
pub selected-byte : (set : Bool) (c : ℕ) (inputs : List Input) → selected set (inputs ++ Byte c ∷ []) ≡ selected set inputs
selected-byte set c [] = refl
selected-byte set c (Select x ∷ inputs) = selected-byte x c inputs
selected-byte set c (Byte b ∷ inputs) = selected-byte set c inputs

-- a byte at the end leaves what followed an escape as it was
still_no_address : (more : List Came) (c : Came) → IsNoAddress more → IsNoAddress (more ++ c ∷ [])
still_no_address [] c h = absurd h
still_no_address (x ∷ more) c h = h

still_allowed : (front : List Came) (t : Token) (more : List Came) (c : Came) → MayStand front t more → MayStand front t (more ++ c ∷ [])
still_allowed front Nothing more c h = still_no_address more c h
still_allowed front t more c h = h

-- what the rest and a byte after it spell comes after the tokens before
pub AreTokens-push : (bytes : List Came) (tokens : List Token) (rest : List Came) (c : Came) (tokens' : List Token) (rest' : List Came) →
    AreTokens bytes tokens rest → AreTokens (rest ++ c ∷ []) tokens' rest' → AreTokens (bytes ++ c ∷ []) (tokens ++ tokens') rest'
AreTokens-push bytes [] rest c tokens' rest' h k = rw h.0 k
AreTokens-push bytes (t ∷ tokens) rest c tokens' rest' (first, h) k = (
  record {
    front = first.front;
    more = first.more ++ c ∷ [];
    parts = rw first.parts (append_assoc first.front first.more (c ∷ []));
    spelled = first.spelled;
    allowed = still_allowed first.front t first.more c first.allowed;
  },
  AreTokens-push first.more tokens rest c tokens' rest' h k,
)

-- the bytes that are pending
abbrev pub pending_bytes : Pending → List ℕ
pending_bytes Idle = []
pending_bytes ColumnCode = 16 ∷ []
pending_bytes (ColumnTens a) = 16 ∷ a ∷ []
pending_bytes RepeatCode = 26 ∷ []
pending_bytes (RepeatCount n) = 26 ∷ n ∷ []
pending_bytes EscapeCode = 27 ∷ []
pending_bytes AddressCode = 27 ∷ 16 ∷ []
pending_bytes (AddressHigh h) = 27 ∷ 16 ∷ h ∷ []

-- what is pending can become a command
completes : (bytes : List Came) (p : Pending) (t : Token) → (next : ℕ) (more : List ℕ) →
    map (λ c. c.byte) bytes ≡ pending_bytes p → spelling_of t ≡ pending_bytes p ++ next ∷ more → IsUnfinished bytes
completes bytes p t next more h e =
    record { token = t; next = next; more = more; front = e ∙ ap (λ bs. bs ++ next ∷ more) (sym h) }

unfinished : (bytes : List Came) (p : Pending) → map (λ c. c.byte) bytes ≡ pending_bytes p → IsUnfinished bytes
unfinished bytes Idle h = completes bytes Idle (Column 0 0) 16 (0 ∷ 0 ∷ []) h refl
unfinished bytes ColumnCode h = completes bytes ColumnCode (Column 0 0) 0 (0 ∷ []) h refl
unfinished bytes (ColumnTens a) h = completes bytes (ColumnTens a) (Column a 0) 0 [] h refl
unfinished bytes RepeatCode h = completes bytes RepeatCode (Repeat 0 0) 0 (0 ∷ []) h refl
unfinished bytes (RepeatCount n) h = completes bytes (RepeatCount n) (Repeat n 0) 0 [] h refl
unfinished bytes EscapeCode h = completes bytes EscapeCode (Address 0 0) 16 (0 ∷ 0 ∷ []) h refl
unfinished bytes AddressCode h = completes bytes AddressCode (Address 0 0) 0 (0 ∷ []) h refl
unfinished bytes (AddressHigh a) h = completes bytes (AddressHigh a) (Address a 0) 0 [] h refl

-- the bytes are these tokens, and then what is pending
pub record Cut (bytes : List Came) (tokens : List Token) (p : Pending) : Type 0 where
  pub rest : List Came
  pub are_tokens : AreTokens bytes tokens rest
  pub pending : map (λ c. c.byte) rest ≡ pending_bytes p

-- bytes that are all pending
pub Cut-none : (bytes : List Came) (p : Pending) → map (λ c. c.byte) bytes ≡ pending_bytes p → Cut bytes [] p
Cut-none bytes p h = record { rest = bytes; are_tokens = (refl, unfinished bytes p h); pending = h }

-- bytes that are one token
Cut-one : (bytes : List Came) (t : Token) → map (λ c. c.byte) bytes ≡ spelling_of t → MayStand bytes t [] → Cut bytes (t ∷ []) Idle
Cut-one bytes t h k = record {
  rest = [];
  are_tokens = (record { front = bytes; more = []; parts = sym (append-nil bytes); spelled = h; allowed = k }, (refl, unfinished [] Idle refl));
  pending = refl;
}

pushed : (rest : List Came) (c : Came) (bs : List ℕ) → map (λ c. c.byte) rest ≡ bs → map (λ c. c.byte) (rest ++ c ∷ []) ≡ bs ++ c.byte ∷ []
pushed rest c bs h = map-append (λ (c : Came). c.byte) rest (c ∷ []) ∙ ap (λ bs. bs ++ c.byte ∷ []) h

-- a byte that no command takes
begun : (b : ℕ) (lower : Bool) → Cut (record { byte = b; lower = lower } ∷ []) (completed_by lower b) (begun_by b)
begun b lower = elim (eqb_tells b 16) [
  | inl e ↦ rw e.0 (Cut-none _ ColumnCode (ap (λ b. b ∷ []) e.1))
  | inr n16 ↦ rw n16.0 (elim (eqb_tells b 26) [
    | inl e ↦ rw e.0 (Cut-none _ RepeatCode (ap (λ b. b ∷ []) e.1))
    | inr n26 ↦ rw n26.0 (elim (eqb_tells b 27) [
      | inl e ↦ rw e.0 (Cut-none _ EscapeCode (ap (λ b. b ∷ []) e.1))
      | inr n27 ↦ rw n27.0 (Cut-one _ (Plain lower b) refl (refl, n16.1, n26.1, n27.1))
    ])
  ])
]

none_left : (rest : List Came) → map (λ c. c.byte) rest ≡ [] → rest ≡ []
none_left [] h = refl
none_left (x ∷ rest) h = cc

-- the escape before counts for nothing
escaped : (rest : List Came) (c : Came) (tokens : List Token) (p : Pending) → map (λ c. c.byte) rest ≡ 27 ∷ [] → c.byte ≢ 16 →
    Cut (c ∷ []) tokens p → Cut (rest ++ c ∷ []) (Nothing ∷ tokens) p
escaped rest c tokens p h ne cut = record {
  rest = cut.rest;
  are_tokens = (record { front = rest; more = c ∷ []; parts = refl; spelled = h; allowed = ne }, cut.are_tokens);
  pending = cut.pending;
}

-- one more byte after what is pending
pub Cut-push : (p : Pending) (rest : List Came) (b : ℕ) (lower : Bool) → map (λ c. c.byte) rest ≡ pending_bytes p →
    Cut (rest ++ record { byte = b; lower = lower } ∷ []) (tokens_by p lower b) (pending_after p b)
Cut-push Idle rest b lower h = rw (none_left rest h) (begun b lower)
Cut-push ColumnCode rest b lower h = Cut-none _ (ColumnTens b) (pushed rest _ _ h)
Cut-push (ColumnTens a) rest b lower h = Cut-one _ (Column a b) (pushed rest _ _ h) tt
Cut-push RepeatCode rest b lower h = Cut-none _ (RepeatCount b) (pushed rest _ _ h)
Cut-push (RepeatCount n) rest b lower h = Cut-one _ (Repeat n b) (pushed rest _ _ h) tt
Cut-push EscapeCode rest b lower h = elim (eqb_tells b 16) [
  | inl e ↦ rw e.0 (Cut-none _ AddressCode (pushed rest _ _ h ∙ ap (λ b. 27 ∷ b ∷ []) e.1))
  | inr ne ↦ rw ne.0 (escaped rest _ _ _ h ne.1 (rw ne.0 at (begun b lower)))
]
Cut-push AddressCode rest b lower h = Cut-none _ (AddressHigh b) (pushed rest _ _ h)
Cut-push (AddressHigh a) rest b lower h = Cut-one _ (Address a b) (pushed rest _ _ h) tt
