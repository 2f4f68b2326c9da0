-- Two runs that differ in what one device is sent, between statements.
use Rattle.std.proofs.Common.{◌≡◌, ◌≢◌, ℕ, ◌+◌, Bool, true, false, not, cond, ◌&&◌, ◌||◌, ◌==◌, None, List, [], ◌∷◌, ◌++◌, length, map, refl, sym, ap, subst, arith, ◌∙◌, append_assoc, append-nil}
use Rattle.std.specs.List.{list_any, flat_map}
use Rattle.std.proofs.lemmas.Bool.{eqb-true}
use Rattle.pr_serial.specs.declared.Present.{Present}
use Rattle.pr_serial.specs.declared.Item.{Item}
use Rattle.pr_serial.specs.declared.Item.TheVariants as item
use Rattle.pr_serial.specs.Elements.{Element, Byte}
use Rattle.pr_serial.specs.Items.{items_of}
use Rattle.pr_page.specs.Before.{with_before}
use Rattle.pr_serial.specs.Answers.{is_listener, is_answered, is_lacking}
use Rattle.pr_serial.specs.Heard.{inputs_at, is_present, heard_by}
use Rattle.pr_serial.specs.Steps.{flushed, answers_after, IsNotCalled, held_of}
use Rattle.pr_serial.specs.Laws.{ItemsOfOneMore, HeldAfterOneMore, ItemsOfTwoParts, ListenerAfterOneMore, LackingAmongLater, LackingInTwoParts, HeardOfTwoParts, HeardUncalled}
use Rattle.pr_channels.specs.Commands.{unlisten}

-- the laws of pr_serial that isolation rests on
pub record BusLaws : Type 0 where
  pub one_more : ItemsOfOneMore
  pub held : HeldAfterOneMore
  pub two_parts : ItemsOfTwoParts
  pub listener : ListenerAfterOneMore
  pub later : LackingAmongLater
  pub lacking : LackingInTwoParts
  pub heard : HeardOfTwoParts
  pub uncalled : HeardUncalled

-- both runs hold nothing back and have nobody listening, every other device heard the same, and if every item of the first run is answered, so is every item of the second
pub record Apart (present : Present) (left_out : ℕ) (one two : List Element) : Type 0 where
  pub held_one : held_of one ≡ None
  pub held_two : held_of two ≡ None
  pub quiet_one : (device : ℕ) → is_listener device (items_of one) ≡ false
  pub quiet_two : (device : ℕ) → is_listener device (items_of two) ≡ false
  pub same : (device : ℕ) → device ≢ left_out → heard_by present device (items_of one) ≡ heard_by present device (items_of two)
  pub kinder : is_lacking present 0 (items_of one) ≡ false → is_lacking present 0 (items_of two) ≡ false

-- before the first statement
pub apart_begins : (present : Present) (left_out : ℕ) → Apart present left_out [] []
apart_begins present left_out = record { held_one = refl; held_two = refl; quiet_one = λ device. refl; quiet_two = λ device. refl; same = λ device other. refl; kinder = λ none. none }

-- the same of other names for both lists
pub apart_as : (present : Present) (left_out : ℕ) (one two other another : List Element) → one ≡ other → two ≡ another → Apart present left_out one two → Apart present left_out other another
apart_as present left_out one two other another p q apart =
    let P : List Element → Type 0 = λ xs. Apart present left_out xs two in
    let Q : List Element → Type 0 = λ xs. Apart present left_out other xs in
    subst Q q (subst P p apart)

-- what is answered depends on who listens alone
answered_same : (present : Present) (xs ys : List Item) (x : Item) → ((device : ℕ) → is_listener device xs ≡ is_listener device ys) → is_answered present xs x ≡ is_answered present ys x
answered_same present xs ys (item.Attention first second) same = refl
answered_same present xs ys (item.Sent b eoi) same =
    ap (λ l. (present.four && l) || (present.five && is_listener 5 xs)) (same 4)
    ∙ ap (λ l. (present.four && is_listener 4 ys) || (present.five && l)) (same 5)

-- one more item keeps who listens the same
listener_same : BusLaws → (device : ℕ) (xs ys : List Item) (x : Item) → is_listener device xs ≡ is_listener device ys → is_listener device (xs ++ x ∷ []) ≡ is_listener device (ys ++ x ∷ [])
listener_same laws device xs ys (item.Attention first second) same =
    laws.listener device xs (item.Attention first second) ∙ ap (λ l. cond (first == 63) false (l || first == 32 + device)) same ∙ sym (laws.listener device ys (item.Attention first second))
listener_same laws device xs ys (item.Sent b eoi) same =
    laws.listener device xs (item.Sent b eoi) ∙ ap (λ l. l || false) same ∙ sym (laws.listener device ys (item.Sent b eoi))

-- what is answered after both is the same
answers_same : BusLaws → (present : Present) (xs ys zs : List Item) → ((device : ℕ) → is_listener device xs ≡ is_listener device ys) → answers_after present xs zs ≡ answers_after present ys zs
answers_same laws present xs ys [] same = refl
answers_same laws present xs ys (z ∷ zs) same =
    ap (λ b. b ∷ answers_after present (xs ++ z ∷ []) zs) (answered_same present xs ys z same)
    ∙ ap (λ bs. is_answered present ys z ∷ bs) (answers_same laws present (xs ++ z ∷ []) (ys ++ z ∷ []) zs (λ device. listener_same laws device xs ys z (same device)))

-- whether one of the elements added is lacking, by their items alone
lacking_after : BusLaws → (present : Present) (before es : List Element) → held_of before ≡ None → is_lacking present (length (items_of before)) (items_of (before ++ es)) ≡ list_any not (answers_after present (items_of before) (items_of es))
lacking_after laws present before es held = ap (is_lacking present (length (items_of before))) (laws.two_parts before es held) ∙ laws.later present (items_of before) (items_of es)

-- the same elements are answered alike in both
pub lacking_same : BusLaws → (present : Present) (left_out : ℕ) (one two es : List Element) → Apart present left_out one two
    → is_lacking present (length (items_of one)) (items_of (one ++ es)) ≡ is_lacking present (length (items_of two)) (items_of (two ++ es))
lacking_same laws present left_out one two es apart =
    lacking_after laws present one es apart.held_one
    ∙ ap (list_any not) (answers_same laws present (items_of one) (items_of two) (items_of es) (λ device. apart.quiet_one device ∙ sym (apart.quiet_two device)))
    ∙ sym (lacking_after laws present two es apart.held_two)

-- some item is lacking: one before, or one of those added
lacking_whole : BusLaws → (present : Present) (before es : List Element) → held_of before ≡ None → is_lacking present 0 (items_of (before ++ es)) ≡ (is_lacking present 0 (items_of before) || is_lacking present (length (items_of before)) (items_of (before ++ es)))
lacking_whole laws present before es held =
    let is = laws.two_parts before es held in
    ap (is_lacking present 0) is
    ∙ laws.lacking present [] (items_of before) (items_of es)
    ∙ ap (λ xs. is_lacking present 0 (items_of before) || is_lacking present (length (items_of before)) xs) (sym is)

-- neither of two is true
neither : (a b : Bool) → (a || b) ≡ false → (a ≡ false) × (b ≡ false)
neither true b h = let clash : true ≡ false = h in absurd (cc clash)
neither false b h = (refl, h)

-- nobody listens after an UNLISTEN
quiet_after : BusLaws → (device : ℕ) (before es : List Element) → is_listener device (items_of (before ++ (es ++ unlisten ∷ []))) ≡ false
quiet_after laws device before es =
    let all = items_of (before ++ es) in
    ap (λ xs. is_listener device (items_of xs)) (sym (append_assoc before es (unlisten ∷ [])))
    ∙ ap (is_listener device) (laws.one_more (before ++ es) unlisten ∙ sym (append_assoc (items_of (before ++ es)) (flushed (held_of (before ++ es)) unlisten) (item.Attention 63 None ∷ [])))
    ∙ laws.listener device (items_of (before ++ es) ++ flushed (held_of (before ++ es)) unlisten) (item.Attention 63 None)

-- nothing is held back after an UNLISTEN
held_after : BusLaws → (before es : List Element) → held_of (before ++ (es ++ unlisten ∷ [])) ≡ None
held_after laws before es = ap held_of (sym (append_assoc before es (unlisten ∷ []))) ∙ laws.held (before ++ es) unlisten

-- what is heard of the elements added comes after what was heard before
heard_more : BusLaws → (present : Present) (device : ℕ) (before es : List Element) → held_of before ≡ None → is_listener device (items_of before) ≡ false
    → heard_by present device (items_of (before ++ es)) ≡ heard_by present device (items_of before) ++ heard_by present device (items_of es)
heard_more laws present device before es held quiet = ap (heard_by present device) (laws.two_parts before es held) ∙ laws.heard present device (items_of before) (items_of es) quiet

-- the same elements up to an UNLISTEN in both
pub apart_both : BusLaws → (present : Present) (left_out : ℕ) (one two es : List Element) → Apart present left_out one two → Apart present left_out (one ++ (es ++ unlisten ∷ [])) (two ++ (es ++ unlisten ∷ []))
apart_both laws present left_out one two es apart =
    let more = es ++ unlisten ∷ [] in
    record {
      held_one = held_after laws one es;
      held_two = held_after laws two es;
      quiet_one = λ device. quiet_after laws device one es;
      quiet_two = λ device. quiet_after laws device two es;
      same = λ device other.
          heard_more laws present device one more apart.held_one (apart.quiet_one device)
          ∙ ap (λ xs. xs ++ heard_by present device (items_of more)) (apart.same device other)
          ∙ sym (heard_more laws present device two more apart.held_two (apart.quiet_two device));
      kinder = λ none.
          let parts = neither _ _ (sym (lacking_whole laws present one more apart.held_one) ∙ none) in
          lacking_whole laws present two more apart.held_two
          ∙ ap (λ b. b || is_lacking present (length (items_of two)) (items_of (two ++ more))) (apart.kinder parts.0)
          ∙ sym (lacking_same laws present left_out one two more apart)
          ∙ parts.1;
    }

-- nothing more in both
pub apart_none : (present : Present) (left_out : ℕ) (one two : List Element) → Apart present left_out one two → Apart present left_out (one ++ []) (two ++ [])
apart_none present left_out one two apart = apart_as present left_out one two (one ++ []) (two ++ []) (sym (append-nil one)) (sym (append-nil two)) apart

-- nothing more in the first
pub apart_none_one : (present : Present) (left_out : ℕ) (one two : List Element) → Apart present left_out one two → Apart present left_out (one ++ []) two
apart_none_one present left_out one two apart = apart_as present left_out one two (one ++ []) two (sym (append-nil one)) refl apart

-- device 31 is no printer
absent_31 : (four five : Bool) → ((four && false) || (five && false)) ≡ false
absent_31 true true = refl
absent_31 true false = refl
absent_31 false true = refl
absent_31 false false = refl

-- the device whose LISTEN would be UNLISTEN is not there
present_low : (present : Present) (device : ℕ) → is_present present device ≡ true → device ≢ 31
present_low present device there is =
    let clash : false ≡ true = sym (absent_31 present.four present.five) ∙ ap (is_present present) (sym is) ∙ there in
    absurd (cc clash)

-- a device to which no LISTEN goes hears nothing of the elements
heard_nothing_of : BusLaws → (present : Present) (device : ℕ) (es : List Element) (there : Bool) → is_present present device ≡ there → (device ≢ 31 → IsNotCalled device (items_of es)) → heard_by present device (items_of es) ≡ []
heard_nothing_of laws present device es true is calls = laws.uncalled present device (items_of es) (calls (present_low present device is))
heard_nothing_of laws present device es false is calls = ap (λ b. cond b (flat_map (λ p. inputs_at device p.0 p.1) (with_before [] (items_of es))) []) is

-- elements up to an UNLISTEN in the first alone, which call no other device
pub apart_alone : BusLaws → (present : Present) (left_out : ℕ) (one two es : List Element) → ((device : ℕ) → device ≢ left_out → device ≢ 31 → IsNotCalled device (items_of (es ++ unlisten ∷ []))) → Apart present left_out one two
    → Apart present left_out (one ++ (es ++ unlisten ∷ [])) two
apart_alone laws present left_out one two es calls apart =
    let more = es ++ unlisten ∷ [] in
    record {
      held_one = held_after laws one es;
      held_two = apart.held_two;
      quiet_one = λ device. quiet_after laws device one es;
      quiet_two = apart.quiet_two;
      same = λ device other.
          heard_more laws present device one more apart.held_one (apart.quiet_one device)
          ∙ ap (λ xs. heard_by present device (items_of one) ++ xs) (heard_nothing_of laws present device more (is_present present device) refl (calls device other))
          ∙ append-nil (heard_by present device (items_of one))
          ∙ apart.same device other;
      kinder = λ none. apart.kinder (neither _ _ (sym (lacking_whole laws present one more apart.held_one) ∙ none)).0;
    }

-- the test of two that differ
differ_at : (a b : ℕ) (c : Bool) → (a == b) ≡ c → a ≢ b → c ≡ false
differ_at a b true is other = absurd (other (eqb-true a b is))
differ_at a b false is other = refl

-- two that differ are not equal by the test
differ : (a b : ℕ) → a ≢ b → (a == b) ≡ false
differ a b other = differ_at a b (a == b) refl other

-- UNLISTEN calls no device but 31
pub unlisten_calls : (device : ℕ) → device ≢ 31 → (63 == 32 + device) ≡ false
unlisten_calls device low = differ 63 (32 + device) (λ is. low (omega arith))

-- bytes and UNLISTEN call nobody
pub bytes_call : (device : ℕ) (bytes : List ℕ) → device ≢ 31 → IsNotCalled device (items_of (map Byte bytes ++ unlisten ∷ []))
bytes_call device [] low = (unlisten_calls device low, tt)
bytes_call device (a ∷ []) low = (refl, bytes_call device [] low)
bytes_call device (a ∷ b ∷ bytes) low = (refl, bytes_call device (b ∷ bytes) low)

-- LISTEN to one device calls no other
pub listen_calls : (device on left_out : ℕ) → device ≢ left_out → (on == left_out) ≡ true → (32 + on == 32 + device) ≡ false
listen_calls device on left_out other is =
    let same : on ≡ left_out = eqb-true on left_out is in
    differ (32 + on) (32 + device) (λ eq. let now : on ≡ device = omega arith in other (sym now ∙ same))
