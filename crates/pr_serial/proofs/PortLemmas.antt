-- What the bus without wires keeps of a printer, after one more item.
use Rattle.std.proofs.Common.{◌≡◌, ℕ, ◌+◌, ◌==◌, Bool, false, cond, ◌||◌, Option, Some, None, length, List, [], ◌∷◌, ◌++◌, refl, sym, ap, ◌∙◌, append_assoc, length-append, arith}
use Rattle.std.proofs.lemmas.List.{take-append-le}
use Rattle.std.proofs.Math.Bool.{or-false}
use Rattle.pr_serial.specs.declared.Present.{Present}
use Rattle.pr_serial.specs.declared.Item.{Item}
use Rattle.pr_serial.specs.declared.Item.TheVariants.{Attention, Sent}
use Rattle.pr_serial.specs.declared.port.PrinterPort.{PrinterPort}
use Rattle.pr_page.specs.declared.input.Input.{Input}
use Rattle.pr_serial.specs.Answers.{is_listener}
use Rattle.pr_serial.specs.Heard.{is_present, inputs_at, heard_by}
use Rattle.pr_serial.specs.HeardSinceMark.{items_before, IsReached}
use Rattle.pr_serial.specs.Hearing.{Hears, IsSamePort}
use Rattle.pr_serial.proofs.AnswerLemmas.{is_listener-push}
use Rattle.pr_serial.proofs.HeardLemmas.{heard_by-push}

-- one more item leaves those before the mark
pub before_push : (mark : Option ℕ) (items : List Item) (item : Item) → IsReached mark items → items_before mark (items ++ item ∷ []) ≡ items_before mark items
before_push None items item within = refl
before_push (Some n) items item within = rw take-append-le

-- what is heard since the mark grows as what is heard does
grown : (present : Present) (number : ℕ) (mark : Option ℕ) (old items : List Item) (item : Item) (before after : List Input) → IsReached mark old → items ≡ old ++ item ∷ []
    → heard_by present number (items_before mark old) ++ before ≡ heard_by present number old
    → after ≡ before ++ cond (is_present present number) (inputs_at number old item) []
    → heard_by present number (items_before mark items) ++ after ≡ heard_by present number items
grown present number mark old items item before after within sent was is =
    ap (λ xs. heard_by present number xs ++ after) (ap (items_before mark) sent ∙ before_push mark old item within)
    ∙ ap (λ xs. heard_by present number (items_before mark old) ++ xs) is
    ∙ sym (append_assoc (heard_by present number (items_before mark old)) before (cond (is_present present number) (inputs_at number old item) []))
    ∙ ap (λ xs. xs ++ cond (is_present present number) (inputs_at number old item) []) was
    ∙ sym (ap (heard_by present number) sent ∙ heard_by-push present number old item)

-- a printer that only got room
pub hears_same : (present : Present) (number : ℕ) (mark : Option ℕ) (items : List Item) (before after : PrinterPort) → IsSamePort before after → Hears present number mark items before → Hears present number mark items after
hears_same present number mark items before after same h = record {
  device = same.device ∙ h.device;
  present_is = same.present ∙ h.present_is;
  listens = same.listens ∙ h.listens;
  inputs = ap (λ xs. heard_by present number (items_before mark items) ++ xs) same.inputs ∙ h.inputs;
}

-- a printer after one more attention
pub hears_attention : (present : Present) (number : ℕ) (mark : Option ℕ) (old items : List Item) (first : ℕ) (second : Option ℕ) (before after : PrinterPort)
    → IsReached mark old
    → Hears present number mark old before
    → items ≡ old ++ Attention first second ∷ []
    → after.device ≡ before.device
    → after.present ≡ before.present
    → after.listens ≡ cond (first == 63) false (before.listens || first == 32 + before.device)
    → after.inputs.items ≡ before.inputs.items ++ cond before.present (inputs_at before.device old (Attention first second)) []
    → Hears present number mark items after
hears_attention present number mark old items first second before after within h sent device there listens heard = record {
  device = device ∙ h.device;
  present_is = there ∙ h.present_is;
  listens = listens ∙ ap (λ d. cond (first == 63) false (before.listens || first == 32 + d)) h.device ∙ ap (λ b. cond (first == 63) false (b || first == 32 + number)) h.listens ∙ sym (ap (is_listener number) sent ∙ is_listener-push number old (Attention first second));
  inputs = grown present number mark old items (Attention first second) before.inputs.items after.inputs.items within sent h.inputs
      (heard
      ∙ ap (λ b. before.inputs.items ++ cond b (inputs_at before.device old (Attention first second)) []) h.present_is
      ∙ ap (λ d. before.inputs.items ++ cond (is_present present number) (inputs_at d old (Attention first second)) []) h.device);
}

-- a printer after one more byte
pub hears_byte : (present : Present) (number : ℕ) (mark : Option ℕ) (old items : List Item) (b : ℕ) (eoi : Bool) (before after : PrinterPort)
    → IsReached mark old
    → Hears present number mark old before
    → items ≡ old ++ Sent b eoi ∷ []
    → after.device ≡ before.device
    → after.present ≡ before.present
    → after.listens ≡ before.listens
    → ((items : List Item) (eoi : Bool) → before.listens ≡ is_listener before.device items → after.inputs.items ≡ before.inputs.items ++ cond before.present (inputs_at before.device items (Sent b eoi)) [])
    → Hears present number mark items after
hears_byte present number mark old items b eoi before after within h sent device there listens heard = record {
  device = device ∙ h.device;
  present_is = there ∙ h.present_is;
  listens = listens ∙ h.listens ∙ sym (ap (is_listener number) sent ∙ is_listener-push number old (Sent b eoi) ∙ or-false (is_listener number old));
  inputs = grown present number mark old items (Sent b eoi) before.inputs.items after.inputs.items within sent h.inputs
      (heard old eoi (h.listens ∙ ap (λ d. is_listener d old) (sym h.device))
      ∙ ap (λ b'. before.inputs.items ++ cond b' (inputs_at before.device old (Sent b eoi)) []) h.present_is
      ∙ ap (λ d. before.inputs.items ++ cond (is_present present number) (inputs_at d old (Sent b eoi)) []) h.device);
}

-- the mark is still not past the items
pub reached_push : (mark : Option ℕ) (old items : List Item) (item : Item) → items ≡ old ++ item ∷ [] → IsReached mark old → IsReached mark items
reached_push None old items item sent within = tt
reached_push (Some n) old items item sent within = omega (arith, within, ap length sent, length-append old (item ∷ []))
