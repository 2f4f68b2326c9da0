-- Hearing by items is hearing by the frames of those that are answered.
use Rattle.std.proofs.Common.{◌≡◌, ℕ, ◌+◌, ◌<◌, ◌≤◌, Bool, true, false, cond, ◌&&◌, ◌||◌, ◌==◌, List, [], ◌∷◌, ◌++◌, Option, Some, None, refl, sym, subst, ap, ◌∙◌, append-nil, append_assoc, arith, inl, inr}
use Rattle.std.specs.Option.{option_to_list}
use Rattle.std.proofs.lemmas.Bool.Decides.{eqb_tells}
use Rattle.pr_page.specs.declared.input.Input.TheVariants.{Select, Byte}
use Rattle.pr_serial.specs.declared.Present.{Present}
use Rattle.pr_serial.specs.declared.Item.{Item}
use Rattle.pr_serial.specs.declared.Item.TheVariants.{Attention, Sent}
use Rattle.pr_serial.specs.Answers.{is_listener, is_answered}
use Rattle.pr_serial.specs.Heard.{is_present, inputs_at, heard_by}
use Rattle.pr_serial.specs.Laws as serial
use Rattle.pr_wire.specs.declared.Frame.{Frame}
use Rattle.pr_receiver.specs.Heard.{is_listening, is_called, input_of, heard_of}
use Rattle.pr_receiver.specs.Laws as receiver
use Rattle.pr_bus.specs.Answers.{item_frames, frames_after, answered_frames}
use Rattle.pr_bus.specs.Laws.{IsItem, AreItems, ItemsAreHeardAsFrames}
use Rattle.std.proofs.Math.Bool.{or-false}
use Rattle.pr_bus.proofs.TimedLawful.{second-in}

-- the laws of hearing of the crates below
pub record HearingLaws : Type 0 where
  pub listener : serial.ListenerAfterOneMore
  pub item : serial.HeardOfOneMore
  pub frame : receiver.HeardOfOneMore
  pub listening : receiver.ListeningAfterOneMore
  pub called : receiver.CalledAfterOneMore

-- the frames of items and more items
frames-append : (present : Present) (before xs ys : List Item) → frames_after present before (xs ++ ys) ≡ frames_after present before xs ++ frames_after present (before ++ xs) ys
frames-append present before [] ys = ap (λ l. frames_after present l ys) (sym (append-nil before))
frames-append present before (x ∷ xs) ys =
    ap (λ l. cond (is_answered present before x) (item_frames x) [] ++ l) (frames-append present (before ++ x ∷ []) xs ys ∙ ap (λ l. frames_after present (before ++ x ∷ []) xs ++ frames_after present l ys) (append_assoc before (x ∷ []) xs))
    ∙ sym (append_assoc (cond (is_answered present before x) (item_frames x) []) (frames_after present (before ++ x ∷ []) xs) (frames_after present (before ++ x ∷ xs) ys))

-- the frames of one item more, if it is answered
frames-more : (present : Present) (items : List Item) (x : Item) → answered_frames present (items ++ x ∷ []) ≡ answered_frames present items ++ cond (is_answered present items x) (item_frames x) []
frames-more present items x = frames-append present [] items (x ∷ []) ∙ ap (λ l. answered_frames present items ++ l) (append-nil (cond (is_answered present items x) (item_frames x) []))

-- different numbers
apart : (a b : ℕ) → b < a → (a == b) ≡ false
apart a b h = elim (eqb_tells a b) [
  | inl p ↦ absurd (let e : a ≡ b = p.1 in omega (arith, e, h))
  | inr p ↦ p.0
]

-- the same the other way round
apart-below : (a b : ℕ) → a < b → (a == b) ≡ false
apart-below a b h = elim (eqb_tells a b) [
  | inl p ↦ absurd (let e : a ≡ b = p.1 in omega (arith, e, h))
  | inr p ↦ p.0
]

-- a device is neither present printer
device-none : (f g a b : Bool) → a ≡ false → b ≡ false → ((f && a) || (g && b)) ≡ true → ⊥
device-none true true a b e k h = let j : false ≡ true = sym (ap (λ v. v || b) e ∙ k) ∙ h in cc
device-none true false a b e k h = let j : false ≡ true = sym (ap (λ v. v || false) e) ∙ h in cc
device-none false true a b e k h = let j : false ≡ true = sym k ∙ h in cc
device-none false false a b e k h = let j : false ≡ true = h in cc

-- a present printer has a small number, so that no secondary address calls it
device-small : (present : Present) (d : ℕ) → is_present present d ≡ true → d < 31
device-small present d h = elim (eqb_tells d 4) [
  | inl p ↦ omega (arith, p.1)
  | inr p ↦ elim (eqb_tells d 5) [
    | inl q ↦ omega (arith, q.1)
    | inr q ↦ absurd (device-none present.four present.five (d == 4) (d == 5) p.0 q.0 h)
  ]
]

-- a present printer answers an attention
present-answers : (present : Present) (d : ℕ) → is_present present d ≡ true → (present.four || present.five) ≡ true
present-answers present d h = by present.four present.five h
  where
    by : (f g : Bool) → ((f && d == 4) || (g && d == 5)) ≡ true → (f || g) ≡ true
    by true g h = refl
    by false true h = refl
    by false false h = h

-- a present printer that listens answers a byte
listener-answers : (present : Present) (d : ℕ) (items : List Item) → is_present present d ≡ true → is_listener d items ≡ true
    → ((present.four && is_listener 4 items) || (present.five && is_listener 5 items)) ≡ true
listener-answers present d items h l = elim (eqb_tells d 4) [
  | inl p ↦ four present.four present.five (subst (λ n. is_present present n ≡ true) p.1 h) (subst (λ n. is_listener n items ≡ true) p.1 l)
  | inr p ↦ elim (eqb_tells d 5) [
    | inl q ↦ five present.four present.five (subst (λ n. is_present present n ≡ true) q.1 h) (subst (λ n. is_listener n items ≡ true) q.1 l)
    | inr q ↦ absurd (device-none present.four present.five (d == 4) (d == 5) p.0 q.0 h)
  ]
]
  where
    four : (f g : Bool) → ((f && true) || (g && false)) ≡ true → is_listener 4 items ≡ true → ((f && is_listener 4 items) || (g && is_listener 5 items)) ≡ true
    four true g h l = ap (λ v. v || (g && is_listener 5 items)) l
    four false true h l = absurd (let j : false ≡ true = h in cc)
    four false false h l = absurd (let j : false ≡ true = h in cc)

    five : (f g : Bool) → ((f && false) || (g && true)) ≡ true → is_listener 5 items ≡ true → ((f && is_listener 4 items) || (g && is_listener 5 items)) ≡ true
    five true true h l = elim (is_listener 4 items) as (λ v. (v || is_listener 5 items) ≡ true) [ true ↦ refl | false ↦ l ]
    five false true h l = l
    five true false h l = absurd (let j : false ≡ true = h in cc)
    five false false h l = absurd (let j : false ≡ true = h in cc)

-- a device hears of items what it hears of their frames, and listens after the ones as after the others
pub record IsHeard (present : Present) (d : ℕ) (items : List Item) : Type 0 where
  pub same : heard_by present d items ≡ heard_of d (answered_frames present items)
  pub listening : is_listening d (answered_frames present items) ≡ is_listener d items

-- what a device that is present hears of one item more
heard-more : HearingLaws → (present : Present) (d : ℕ) (items : List Item) (x : Item) → is_present present d ≡ true → heard_by present d (items ++ x ∷ []) ≡ heard_by present d items ++ inputs_at d items x
heard-more laws present d items x p = laws.item present d items x ∙ ap (λ v. heard_by present d items ++ cond v (inputs_at d items x) []) p

-- a byte that is answered
byte-heard : HearingLaws → (present : Present) (d : ℕ) (items : List Item) (b : ℕ) (eoi : Bool) → is_present present d ≡ true → IsHeard present d items
    → (v : Bool) → is_answered present items (Sent b eoi) ≡ v → IsHeard present d (items ++ Sent b eoi ∷ [])
byte-heard laws present d items b eoi p h true a =
    let fs = answered_frames present items in
    let f : Frame = record { attention = false; byte = b; eoi = eoi } in
    let frames : answered_frames present (items ++ Sent b eoi ∷ []) ≡ fs ++ f ∷ [] = frames-more present items (Sent b eoi) ∙ ap (λ v. fs ++ cond v (f ∷ []) []) a in
    record {
      same =
          heard-more laws present d items (Sent b eoi) p
          ∙ ap (λ l. l ++ cond (is_listener d items) (Byte b ∷ []) []) h.same
          ∙ ap (λ v. heard_of d fs ++ cond v (Byte b ∷ []) []) (sym h.listening)
          ∙ ap (λ l. heard_of d fs ++ l) (one (is_listening d fs))
          ∙ sym (ap (heard_of d) frames ∙ laws.frame d fs f);
      listening = ap (is_listening d) frames ∙ laws.listening d fs f ∙ ap (λ v. v || false) h.listening ∙ sym (laws.listener d items (Sent b eoi));
    }
  where
    one : (v : Bool) → cond v (Byte b ∷ []) [] ≡ option_to_list (cond v (Some (Byte b)) None)
    one true = refl
    one false = refl
byte-heard laws present d items b eoi p h false a =
    let fs = answered_frames present items in
    let frames : answered_frames present (items ++ Sent b eoi ∷ []) ≡ fs = frames-more present items (Sent b eoi) ∙ ap (λ v. fs ++ cond v (record { attention = false; byte = b; eoi = eoi } ∷ []) []) a ∙ append-nil fs in
    let deaf : is_listener d items ≡ false = quiet (is_listener d items) refl in
    record {
      same =
          heard-more laws present d items (Sent b eoi) p
          ∙ ap (λ v. heard_by present d items ++ cond v (Byte b ∷ []) []) deaf
          ∙ append-nil (heard_by present d items) ∙ h.same ∙ sym (ap (heard_of d) frames);
      listening = ap (is_listening d) frames ∙ h.listening ∙ deaf ∙ sym (laws.listener d items (Sent b eoi) ∙ ap (λ v. v || false) deaf);
    }
  where
    quiet : (v : Bool) → is_listener d items ≡ v → is_listener d items ≡ false
    quiet true l = absurd (let j : true ≡ false = sym (listener-answers present d items p l) ∙ a in cc)
    quiet false l = l

-- what the commands of an attention give
selections : (u v : Bool) → cond u (Select false ∷ cond v (Select true ∷ []) []) [] ≡ option_to_list (cond u (Some (Select false)) None) ++ option_to_list (cond (v && u) (Some (Select true)) None)
selections true true = refl
selections true false = refl
selections false true = refl
selections false false = refl

-- what one command gives
selection : (u : Bool) → cond u (Select false ∷ []) [] ≡ option_to_list (cond u (Some (Select false)) None)
selection true = refl
selection false = refl

-- what a first command gives
first-input : (d : ℕ) (fs : List Frame) (first : ℕ) → first < 64 → input_of d fs (record { attention = true; byte = first; eoi = false }) ≡ cond (first == 32 + d) (Some (Select false)) None
first-input d fs first s = ap (λ v. cond (first == 32 + d) (Some (Select false)) (cond (v && is_called d fs) (Some (Select true)) None)) (apart-below first 103 (omega (arith, s)))

-- what a second command gives
second-input : HearingLaws → (d : ℕ) (fs : List Frame) (first second : ℕ) → d < 31 → 64 ≤ second
    → input_of d (fs ++ record { attention = true; byte = first; eoi = false } ∷ []) (record { attention = true; byte = second; eoi = false }) ≡ cond (second == 103 && first == 32 + d) (Some (Select true)) None
second-input laws d fs first second s k =
    ap (λ v. cond v (Some (Select false)) (cond (second == 103 && is_called d (fs ++ record { attention = true; byte = first; eoi = false } ∷ [])) (Some (Select true)) None)) (apart second (32 + d) (omega (arith, s, k)))
    ∙ ap (λ v. cond (second == 103 && v) (Some (Select true)) None) (laws.called d fs (record { attention = true; byte = first; eoi = false }))

-- an attention is answered by a present printer
attention-heard : HearingLaws → (present : Present) (d : ℕ) (items : List Item) (first : ℕ) (second : Option ℕ) → IsItem (Attention first second) → is_present present d ≡ true → IsHeard present d items
    → IsHeard present d (items ++ Attention first second ∷ [])
attention-heard laws present d items first None i p h =
    let fs = answered_frames present items in
    let f : Frame = record { attention = true; byte = first; eoi = false } in
    let frames : answered_frames present (items ++ Attention first None ∷ []) ≡ fs ++ f ∷ [] = frames-more present items (Attention first None) ∙ ap (λ v. fs ++ cond v (f ∷ []) []) (present-answers present d p) in
    record {
      same =
          heard-more laws present d items (Attention first None) p
          ∙ ap (λ l. l ++ cond (first == 32 + d) (Select false ∷ []) []) h.same
          ∙ ap (λ l. heard_of d fs ++ l) (selection (first == 32 + d) ∙ ap option_to_list (sym (first-input d fs first (omega (arith, i.1)))))
          ∙ sym (ap (heard_of d) frames ∙ laws.frame d fs f);
      listening = ap (is_listening d) frames ∙ laws.listening d fs f ∙ ap (λ v. cond (first == 63) false (v || first == 32 + d)) h.listening ∙ sym (laws.listener d items (Attention first None));
    }
attention-heard laws present d items first (Some s) i p h =
    let fs = answered_frames present items in
    let f : Frame = record { attention = true; byte = first; eoi = false } in
    let g : Frame = record { attention = true; byte = s; eoi = false } in
    let small = device-small present d p in
    let above : 64 ≤ s = (second-in s i.2).0 in
    let frames : answered_frames present (items ++ Attention first (Some s) ∷ []) ≡ (fs ++ f ∷ []) ++ g ∷ [] =
    frames-more present items (Attention first (Some s)) ∙ ap (λ v. fs ++ cond v (f ∷ g ∷ []) []) (present-answers present d p) ∙ sym (append_assoc fs (f ∷ []) (g ∷ [])) in
    let first_at : option_to_list (cond (first == 32 + d) (Some (Select false)) None) ≡ option_to_list (input_of d fs f) = ap option_to_list (sym (first-input d fs first (omega (arith, i.1)))) in
    let second_at : option_to_list (cond (s == 103 && first == 32 + d) (Some (Select true)) None) ≡ option_to_list (input_of d (fs ++ f ∷ []) g) = ap option_to_list (sym (second-input laws d fs first s small above)) in
    record {
      same =
          heard-more laws present d items (Attention first (Some s)) p
          ∙ ap (λ l. l ++ cond (first == 32 + d) (Select false ∷ cond (s == 103) (Select true ∷ []) []) []) h.same
          ∙ ap (λ l. heard_of d fs ++ l) (selections (first == 32 + d) (s == 103) ∙ ap (λ l. l ++ option_to_list (cond (s == 103 && first == 32 + d) (Some (Select true)) None)) first_at ∙ ap (λ l. option_to_list (input_of d fs f) ++ l) second_at)
          ∙ sym (append_assoc (heard_of d fs) (option_to_list (input_of d fs f)) (option_to_list (input_of d (fs ++ f ∷ []) g)))
          ∙ sym (ap (heard_of d) frames ∙ laws.frame d (fs ++ f ∷ []) g ∙ ap (λ l. l ++ option_to_list (input_of d (fs ++ f ∷ []) g)) (laws.frame d fs f));
      listening =
          ap (is_listening d) frames ∙ laws.listening d (fs ++ f ∷ []) g
          ∙ ap (λ v. cond v false (is_listening d (fs ++ f ∷ []) || s == 32 + d)) (apart s 63 (omega (arith, above)))
          ∙ ap (λ v. is_listening d (fs ++ f ∷ []) || v) (apart s (32 + d) (omega (arith, small, above)))
          ∙ or-false (is_listening d (fs ++ f ∷ []))
          ∙ laws.listening d fs f ∙ ap (λ v. cond (first == 63) false (v || first == 32 + d)) h.listening ∙ sym (laws.listener d items (Attention first (Some s)));
    }

-- one item more is heard as its frames
heard-one : HearingLaws → (present : Present) (d : ℕ) (items : List Item) (x : Item) → IsItem x → is_present present d ≡ true → IsHeard present d items → IsHeard present d (items ++ x ∷ [])
heard-one laws present d items (Sent b eoi) i p h = byte-heard laws present d items b eoi p h (is_answered present items (Sent b eoi)) refl
heard-one laws present d items (Attention first second) i p h = attention-heard laws present d items first second i p h

-- items after others are heard as their frames
heard-on : HearingLaws → (present : Present) (d : ℕ) (before xs : List Item) → AreItems xs → is_present present d ≡ true → IsHeard present d before → IsHeard present d (before ++ xs)
heard-on laws present d before [] a p h = subst (λ l. IsHeard present d l) (sym (append-nil before)) h
heard-on laws present d before (x ∷ xs) a p h = subst (λ l. IsHeard present d l) (append_assoc before (x ∷ []) xs) (heard-on laws present d (before ++ x ∷ []) xs a.1 p (heard-one laws present d before x a.0 p h))

-- a device hears of items what it hears of their frames
pub items-heard : HearingLaws → ItemsAreHeardAsFrames
items-heard laws present d items a p = (heard-on laws present d [] items a p (record { same = ap (λ v. cond v [] []) p; listening = refl })).same
