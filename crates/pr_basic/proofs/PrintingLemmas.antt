-- Bytes printed one after another.
use Rattle.std.proofs.Common.{◌≡◌, ℕ, ◌≤◌, ◌<◌, Bool, true, false, cond, nat_lt, nat_le, List, [], ◌∷◌, ◌++◌, map, refl, sym, ap, subst, ◌∙◌, append_assoc, append-nil}
use Rattle.std.proofs.lemmas.List.{map-append}
use Rattle.pr_serial.specs.Elements.{Byte}
use Rattle.pr_channels.specs.Seen.{Seen}
use Rattle.pr_channels.specs.Calls.{adding, chrout_of}
use Rattle.pr_channels.specs.Laws.{AddingInTwoParts, AddingNone}
use Rattle.std.proofs.lemmas.Bool.{lt-ltb, le-ltb}
use Rattle.pr_basic.specs.Text.{Text}
use Rattle.pr_basic.specs.Statements.{printed_bytes}
use Rattle.pr_basic.specs.Performing.{printing, IsWorking, ChangesScreenAlone}

-- elements added in two parts, and none added
pub record AddingLaws : Type 0 where
  pub two_parts : AddingInTwoParts
  pub none : AddingNone

-- both laws together
pub laws_of : AddingInTwoParts → AddingNone → AddingLaws
laws_of two_parts none = record { two_parts = two_parts; none = none }

-- nothing printed
pub printing_none : AddingLaws → (old : Seen) → IsWorking old → printing [] old ≡ old
printing_none laws old working =
    elim (nat_lt 3 old.output) as (λ b. cond b (adding [] old) (record old { screen = old.screen ++ [] }) ≡ old) [
      | true ↦ laws.none old working.in_step
      | false ↦ ap (λ xs. record old { screen = xs }) (append-nil old.screen)
    ]

-- bytes in two parts, by a test on the output device
printing_at : AddingLaws → (b : Bool) (xs ys : List ℕ) (old : Seen) → IsWorking old
    → cond b (adding (map Byte ys) (cond b (adding (map Byte xs) old) (record old { screen = old.screen ++ xs }))) (record (cond b (adding (map Byte xs) old) (record old { screen = old.screen ++ xs })) { screen = (cond b (adding (map Byte xs) old) (record old { screen = old.screen ++ xs })).screen ++ ys })
    ≡ cond b (adding (map Byte (xs ++ ys)) old) (record old { screen = old.screen ++ (xs ++ ys) })
printing_at laws true xs ys old working = laws.two_parts (map Byte xs) (map Byte ys) old working.in_step ∙ ap (λ es. adding es old) (sym (map-append Byte xs ys))
printing_at laws false xs ys old working = ap (λ zs. record old { screen = zs }) (append_assoc old.screen xs ys)

-- printing leaves the output device
output_stays : (b : Bool) (xs : List ℕ) (old : Seen) → (cond b (adding (map Byte xs) old) (record old { screen = old.screen ++ xs })).output ≡ old.output
output_stays true xs old = refl
output_stays false xs old = refl

-- what is printed in two parts is printed whole
pub printing_more : AddingLaws → (xs ys : List ℕ) (old : Seen) → IsWorking old → printing ys (printing xs old) ≡ printing (xs ++ ys) old
printing_more laws xs ys old working =
    ap (λ n. cond (nat_lt 3 n) (adding (map Byte ys) (printing xs old)) (record (printing xs old) { screen = (printing xs old).screen ++ ys })) (output_stays (nat_lt 3 old.output) xs old)
    ∙ printing_at laws (nat_lt 3 old.output) xs ys old working

-- one byte more, after others
pub printing_push : AddingLaws → (xs : List ℕ) (b : ℕ) (old seen : Seen) → IsWorking old → seen ≡ printing xs old → chrout_of b seen ≡ printing (xs ++ b ∷ []) old
printing_push laws xs b old seen working is = ap (chrout_of b) is ∙ printing_more laws xs (b ∷ []) old working

-- a line that ends
pub printed_ends : (line : Text) (channel : ℕ) (feed : Bool) → line.ends ≡ true → nat_le 128 channel ≡ feed → printed_bytes line channel ≡ line.bytes ++ 13 ∷ cond feed (10 ∷ []) []
printed_ends line channel feed ends is =
    ap (λ e. line.bytes ++ cond e (13 ∷ cond (nat_le 128 channel) (10 ∷ []) []) []) ends
    ∙ ap (λ f. line.bytes ++ 13 ∷ cond f (10 ∷ []) []) is

-- with a device on the bus, what is printed are elements
pub printing_on_bus : (bytes : List ℕ) (old : Seen) → 3 < old.output → printing bytes old ≡ adding (map Byte bytes) old
printing_on_bus bytes old above = ap (λ t. cond t (adding (map Byte bytes) old) (record old { screen = old.screen ++ bytes })) (lt-ltb 3 old.output above)

-- a byte leaves the output device, by a test on it
chrout_output_at : (t : Bool) (b : ℕ) (s : Seen) → (cond t (adding (Byte b ∷ []) s) (record s { screen = s.screen ++ b ∷ [] })).output ≡ s.output
chrout_output_at true b s = refl
chrout_output_at false b s = refl

-- a byte leaves the output device
pub chrout_output : (b : ℕ) (s new : Seen) → new ≡ chrout_of b s → new.output ≡ s.output
chrout_output b s new is = ap (λ (x : Seen). x.output) is ∙ chrout_output_at (nat_lt 3 s.output) b s

-- changes of the screen's list one after another
pub screen_twice : (a b c : Seen) → ChangesScreenAlone a b → ChangesScreenAlone b c → ChangesScreenAlone a c
screen_twice a b c first second = second ∙ ap (λ (s : Seen). record s { screen = c.screen }) first

-- a byte on the screen changes the screen's list alone
pub screen_byte : (b : ℕ) (s new : Seen) → s.output ≤ 3 → new ≡ chrout_of b s → ChangesScreenAlone s new
screen_byte b s new low is =
    let now : new ≡ record s { screen = s.screen ++ b ∷ [] } = is ∙ ap (λ t. cond t (adding (Byte b ∷ []) s) (record s { screen = s.screen ++ b ∷ [] })) (le-ltb 3 s.output low) in
    now ∙ ap (λ xs. record s { screen = xs }) (sym (ap (λ (x : Seen). x.screen) now))

-- the same after others
pub chrout_screen : (b : ℕ) (old s new : Seen) → old.output ≤ 3 → s.output ≡ old.output → ChangesScreenAlone old s → new ≡ chrout_of b s → ChangesScreenAlone old new
chrout_screen b old s new low same before is = screen_twice old s new before (screen_byte b s new (subst (λ n. n ≤ 3) (sym same) low) is)
