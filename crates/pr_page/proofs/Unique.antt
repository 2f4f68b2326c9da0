-- A list of inputs has one page.
use Rattle.std.proofs.Common.{◌≡◌, ◌≢◌, ℕ, Bool, List, [], ◌∷◌, ◌++◌, inl, inr, map, refl, sym, ap, ◌∙◌, subst, ◌+◌}
use Rattle.std.specs.Prelude.{false, reverse, ◌==◌}
use Rattle.std.proofs.lemmas.List.{reverse-reverse}
use Rattle.std.proofs.lemmas.Bool.Decides.{eqb_tells}
use mathlib.Core.List.{reverse_aux}
use Rattle.pr_page.specs.Token.{Came, Token, Column, Repeat, Address, Nothing, Plain, spelling_of, IsNoAddress, MayStand, AreTokens}
use Rattle.pr_page.specs.Acts.{Act, End, Move, Print, acts_of}
use Rattle.pr_page.specs.Lines.{IsLine, marks_of, pitch_before, left_after, BeginsWithRow, AreLines}
use Rattle.pr_page.specs.Page.{IsPage}
use Rattle.pr_page.specs.Steps.{pending_after, tokens_by}
use Rattle.pr_page.specs.declared.input.Input.{Input}
use Rattle.pr_page.specs.declared.paper.Paper.{Paper}
use Rattle.pr_page.specs.declared.paper.Row.{Row}
use Rattle.pr_page.specs.declared.paper.Placed.{Placed}
use Rattle.pr_page.specs.declared.pending.Pending.{Pending}
use Rattle.pr_page.specs.declared.pending.Pending.TheVariants.{Idle}

-- the tokens that bytes complete, one byte after the other
abbrev run : Pending → List Came → List Token
run p [] = []
run p (c ∷ bytes) = tokens_by p c.lower c.byte ++ run (pending_after p c.byte) bytes

-- after what is pending these bytes complete no token
abbrev IsQuiet : Pending → List ℕ → Type 0
IsQuiet p [] = Unit {0}
IsQuiet p (b ∷ bs) = ((lower : Bool) → tokens_by p lower b ≡ []) × IsQuiet (pending_after p b) bs

-- what is pending after bytes
abbrev pending_after_all : Pending → List ℕ → Pending
pending_after_all p [] = p
pending_after_all p (b ∷ bs) = pending_after_all (pending_after p b) bs

-- bytes that complete no token, and then one that completes a command
command_front : (p : Pending) (bs : List ℕ) (z : ℕ) (t : Token) (front more : List Came) → IsQuiet p bs →
    ((lower : Bool) → tokens_by (pending_after_all p bs) lower z ≡ t ∷ []) →
    pending_after (pending_after_all p bs) z ≡ Idle →
    map (λ c. c.byte) front ≡ bs ++ z ∷ [] → run p (front ++ more) ≡ t ∷ run Idle more
command_front p [] z t [] more quiet completes idle h = absurd cc
command_front p [] z t (x ∷ []) more quiet completes idle h =
    let ex : x.byte ≡ z = cc in
    rw (ex, completes x.lower, idle) refl
command_front p [] z t (x ∷ y ∷ front) more quiet completes idle h = absurd cc
command_front p (b ∷ bs) z t [] more quiet completes idle h = absurd cc
command_front p (b ∷ bs) z t (x ∷ front) more quiet completes idle h =
    let ex : x.byte ≡ b = cc in
    let rest : map (λ c. c.byte) front ≡ bs ++ z ∷ [] = cc in
    rw (ex, quiet.0 x.lower) (command_front (pending_after p b) bs z t front more quiet.1 completes idle rest)

-- a proper front of bytes of which all but the last complete no token
quiet_front : (p : Pending) (bs : List ℕ) (z : ℕ) (rest : List Came) (next : ℕ) (more : List ℕ) → IsQuiet p bs →
    map (λ c. c.byte) rest ++ next ∷ more ≡ bs ++ z ∷ [] → run p rest ≡ []
quiet_front p bs z [] next more quiet h = refl
quiet_front p [] z (x ∷ []) next more quiet h = absurd cc
quiet_front p [] z (x ∷ y ∷ rest) next more quiet h = absurd cc
quiet_front p (b ∷ bs) z (x ∷ rest) next more quiet h =
    let ex : x.byte ≡ b = cc in
    let tails : map (λ c. c.byte) rest ++ next ∷ more ≡ bs ++ z ∷ [] = cc in
    rw (ex, quiet.0 x.lower) (quiet_front (pending_after p b) bs z rest next more quiet.1 tails)

unlike : (b k : ℕ) → b ≢ k → (b == k) ≡ false
unlike b k differs = elim (eqb_tells b k) [ inl e ↦ absurd (differs e.1) | inr n ↦ n.0 ]

nothing_front : (front more : List Came) → map (λ c. c.byte) front ≡ 27 ∷ [] → IsNoAddress more → run Idle (front ++ more) ≡ Nothing ∷ run Idle more
nothing_front [] more h k = absurd cc
nothing_front (x ∷ []) [] h k = absurd k
nothing_front (x ∷ []) (c ∷ more) h k =
    let ex : x.byte ≡ 27 = cc in
    rw (ex, unlike c.byte 16 k) refl
nothing_front (x ∷ y ∷ front) more h k = absurd cc

plain_front : (front more : List Came) (lower : Bool) (b : ℕ) → map (λ c. c.byte) front ≡ b ∷ [] → map (λ c. c.lower) front ≡ lower ∷ [] →
    b ≢ 16 → b ≢ 26 → b ≢ 27 → run Idle (front ++ more) ≡ Plain lower b ∷ run Idle more
plain_front [] more lower b h k n16 n26 n27 = absurd cc
plain_front (x ∷ []) more lower b h k n16 n26 n27 =
    let ex : x.byte ≡ b = cc in
    let el : x.lower ≡ lower = cc in
    rw (ex, el, unlike b 16 n16, unlike b 26 n26, unlike b 27 n27) refl
plain_front (x ∷ y ∷ front) more lower b h k n16 n26 n27 = absurd cc

front_run : (front more : List Came) (t : Token) → map (λ c. c.byte) front ≡ spelling_of t → MayStand front t more → run Idle (front ++ more) ≡ t ∷ run Idle more
front_run front more (Column a b) h k =
    command_front Idle (16 ∷ a ∷ []) b (Column a b) front more ((λ l. refl), ((λ l. refl), tt)) (λ l. refl) refl h
front_run front more (Repeat n d) h k =
    command_front Idle (26 ∷ n ∷ []) d (Repeat n d) front more ((λ l. refl), ((λ l. refl), tt)) (λ l. refl) refl h
front_run front more (Address u d) h k =
    command_front Idle (27 ∷ 16 ∷ u ∷ []) d (Address u d) front more
    ((λ l. refl), ((λ l. refl), ((λ l. refl), tt))) (λ l. refl) refl h
front_run front more Nothing h k = nothing_front front more h k
front_run front more (Plain lower b) h k = plain_front front more lower b h k.0 k.1 k.2 k.3

-- the bytes that are left complete no token
rest_run : (rest : List Came) (t : Token) (next : ℕ) (more : List ℕ) → spelling_of t ≡ map (λ c. c.byte) rest ++ next ∷ more → run Idle rest ≡ []
rest_run rest (Column a b) next more h =
    quiet_front Idle (16 ∷ a ∷ []) b rest next more ((λ l. refl), ((λ l. refl), tt)) (sym h)
rest_run rest (Repeat n d) next more h =
    quiet_front Idle (26 ∷ n ∷ []) d rest next more ((λ l. refl), ((λ l. refl), tt)) (sym h)
rest_run rest (Address u d) next more h =
    quiet_front Idle (27 ∷ 16 ∷ u ∷ []) d rest next more ((λ l. refl), ((λ l. refl), ((λ l. refl), tt))) (sym h)
rest_run rest Nothing next more h = quiet_front Idle [] 27 rest next more tt (sym h)
rest_run rest (Plain lower b) next more h = quiet_front Idle [] b rest next more tt (sym h)

-- bytes have one cutting into tokens
AreTokens-run : (bytes : List Came) (tokens : List Token) (rest : List Came) → AreTokens bytes tokens rest → run Idle bytes ≡ tokens
AreTokens-run bytes [] rest h = rw h.0 (rest_run rest h.1.token h.1.next h.1.more h.1.front)
AreTokens-run bytes (t ∷ tokens) rest (first, h) =
    rw first.parts (front_run first.front first.more t first.spelled first.allowed ∙ ap (λ tokens. t ∷ tokens) (AreTokens-run first.more tokens rest h))

IsLine-tail : (a : Act) (line : List Act) → IsLine (a ∷ line) → IsLine line
IsLine-tail (End g) line h = absurd h
IsLine-tail (Move x) line h = h
IsLine-tail (Print g m w) line h = h.1

-- the first acts of a line are a line
IsLine-front : (acts line : List Act) → IsLine (reverse_aux acts line) → IsLine line
IsLine-front [] line h = h
IsLine-front (a ∷ acts) line h = IsLine-tail a line (IsLine-front acts (a ∷ line) h)

-- two ways to cut the longest line are one
record SameCut (f : List Act) (n : Act) (m : List Act) (f' : List Act) (n' : Act) (m' : List Act) : Type 0 where
  front : f ≡ f'
  next : n ≡ n'
  more : m ≡ m'

one_cut : (line f : List Act) (n : Act) (m f' : List Act) (n' : Act) (m' : List Act) → f ++ n ∷ m ≡ f' ++ n' ∷ m' →
    (IsLine (n ∷ reverse_aux f line) → ⊥) → IsLine (reverse_aux f line) →
    (IsLine (n' ∷ reverse_aux f' line) → ⊥) → IsLine (reverse_aux f' line) → SameCut f n m f' n' m'
one_cut line [] n m [] n' m' e over is over' is' = record { front = refl; next = cc; more = cc }
one_cut line [] n m (x' ∷ f') n' m' e over is over' is' =
    let same : x' ≡ n = cc in
    absurd (over (subst (λ x. IsLine (x ∷ line)) same (IsLine-front f' (x' ∷ line) is')))
one_cut line (x ∷ f) n m [] n' m' e over is over' is' =
    let same : x ≡ n' = cc in
    absurd (over' (subst (λ x. IsLine (x ∷ line)) same (IsLine-front f (x ∷ line) is)))
one_cut line (x ∷ f) n m (x' ∷ f') n' m' e over is over' is' =
    let same : x' ≡ x = cc in
    let tails : f ++ n ∷ m ≡ f' ++ n' ∷ m' = cc in
    let cut = one_cut (x ∷ line) f n m f' n' m' tails over is
    (subst (λ x. IsLine (n' ∷ reverse_aux f' (x ∷ line)) → ⊥) same over')
    (subst (λ x. IsLine (reverse_aux f' (x ∷ line))) same is') in
    record { front = cc (cut.front); next = cut.next; more = cut.more }

reverse_aux-append : (acts more line : List Act) → reverse_aux (acts ++ more) line ≡ reverse_aux more (reverse_aux acts line)
reverse_aux-append [] more line = refl
reverse_aux-append (a ∷ acts) more line = reverse_aux-append acts more (a ∷ line)

-- a line has no row in it
no_row : (y : ℕ) (acts : List Act) (row : Row) (last : List Act) → acts ≡ reverse last → IsLine last → BeginsWithRow y acts row → ⊥
no_row y acts row last e is first =
    let whole : reverse_aux acts [] ≡ last = ap reverse e ∙ reverse-reverse last in
    let parts : reverse_aux acts [] ≡ reverse_aux first.more (first.next ∷ first.line) =
    ap reverse first.parts ∙ reverse_aux-append (reverse first.line) (first.next ∷ first.more) []
    ∙ ap (λ line. reverse_aux first.more (first.next ∷ line)) (reverse-reverse first.line) in
    first.is_longest (IsLine-front first.more (first.next ∷ first.line) (subst IsLine (sym whole ∙ parts) is))

-- one row at the beginning, and one list of acts after it
record SameRow (y : ℕ) (acts : List Act) (row row' : Row) (a : BeginsWithRow y acts row) (b : BeginsWithRow y acts row') : Type 0 where
  one : row ≡ row'
  next : a.next ≡ b.next
  more : a.more ≡ b.more

one_row : (y : ℕ) (acts : List Act) (row row' : Row) (a : BeginsWithRow y acts row) (b : BeginsWithRow y acts row') → SameRow y acts row row' a b
one_row y acts row row' a b =
    let ra = reverse-reverse a.line in
    let rb = reverse-reverse b.line in
    let cut = one_cut [] (reverse a.line) a.next a.more (reverse b.line) b.next b.more (sym a.parts ∙ b.parts)
    (subst (λ line. IsLine (a.next ∷ line) → ⊥) (sym ra) a.is_longest) (subst IsLine (sym ra) a.is_line)
    (subst (λ line. IsLine (b.next ∷ line) → ⊥) (sym rb) b.is_longest) (subst IsLine (sym rb) b.is_line) in
    let line : a.line ≡ b.line = sym ra ∙ ap reverse cut.front ∙ rb in
    record {
      one = a.is_row ∙ ap (λ line. record { y = y; marks = marks_of line }) line ∙ sym b.is_row;
      next = cut.next;
      more = cut.more;
    }

-- the same rows and the same last line
record SameLines (rows rows' : List Row) (last last' : List Act) : Type 0 where
  rows_same : rows ≡ rows'
  last_same : last ≡ last'

one_paging : (rows : List Row) (y : ℕ) (acts : List Act) (last : List Act) (rows' : List Row) (last' : List Act) →
    AreLines y acts rows last → AreLines y acts rows' last' → SameLines rows rows' last last'
one_paging [] y acts last [] last' h k =
    record { rows_same = refl; last_same = sym (reverse-reverse last) ∙ ap reverse (sym h.0 ∙ k.0) ∙ reverse-reverse last' }
one_paging [] y acts last (row' ∷ rows') last' h (b, k) = absurd (no_row y acts row' last h.0 h.1 b)
one_paging (row ∷ rows) y acts last [] last' (a, h) k = absurd (no_row y acts row last' k.0 k.1 a)
one_paging (row ∷ rows) y acts last (row' ∷ rows') last' (a, h) (b, k) =
    let one = one_row y acts row row' a b in
    let k' : AreLines (y + pitch_before a.next) (left_after a.next a.more) rows' last' = rw (one.next, one.more) k in
    let rest = one_paging rows (y + pitch_before a.next) (left_after a.next a.more) last rows' last' h k' in
    record { rows_same = cc (one.one, rest.rows_same); last_same = rest.last_same }

-- a list of inputs has one page
pub IsPage-unique : (inputs : List Input) (p q : Paper) → IsPage inputs p → IsPage inputs q → p ≡ q
IsPage-unique inputs p q a b =
    let tokens : a.tokens ≡ b.tokens = sym (AreTokens-run _ a.tokens a.rest a.are_tokens) ∙ AreTokens-run _ b.tokens b.rest b.are_tokens in
    let lines : AreLines 0 (acts_of (reverse a.tokens)) q.rows b.last = rw tokens b.are_lines in
    let one = one_paging p.rows 0 (acts_of (reverse a.tokens)) a.last q.rows b.last a.are_lines lines in
    let held : p.held ≡ q.held = a.held ∙ ap marks_of one.last_same ∙ sym b.held in
    let make : List Row → List Placed → Paper = λ rows marks. record { rows = rows; held = marks } in
    ap (λ rows. make rows p.held) one.rows_same ∙ ap (make q.rows) held
