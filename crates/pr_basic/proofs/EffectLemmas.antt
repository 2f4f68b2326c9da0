-- The effect of a statement, by the calls that it makes.
use Rattle.std.proofs.Common.{◌≡◌, ℕ, ◌<◌, Bool, true, false, cond, nat_lt, ◌==◌, Option, Some, None, is_some, List, [], ◌∷◌, ◌++◌, length, map, refl, sym, ap, subst, ◌∙◌, append-nil}
use Rattle.std.proofs.lemmas.Bool.{lt-ltb}
use Rattle.pr_serial.specs.Elements.{Element, Byte}
use Rattle.pr_serial.specs.Items.{items_of}
use Rattle.pr_serial.specs.Answers.{is_lacking}
use Rattle.pr_channels.specs.declared.file.File.{File}
use Rattle.pr_channels.specs.declared.faults.Stop.{Stop}
use Rattle.pr_channels.specs.declared.faults.Stop.TheVariants.{FileNotOpen, DeviceNotPresent}
use Rattle.pr_channels.specs.Seen.{Seen}
use Rattle.pr_channels.specs.Calls.{adding, chkout_of, clrchn_of}
use Rattle.pr_channels.specs.Commands.{listen_to, unlisten}
use Rattle.pr_basic.specs.Text.{Text}
use Rattle.pr_basic.specs.declared.statement.Statement.{Statement}
use Rattle.pr_basic.specs.declared.statement.Statement.TheVariants.{Print, Rem}
use Rattle.pr_basic.specs.Statements.{Setting, Effect, printed_bytes, stopping, commanding, unlistening, opening, effect_of}
use Rattle.pr_basic.specs.Runs.{status_of, found_of}
use Rattle.pr_basic.specs.Performing.{Gives, printing, IsWorking, Performs, with_effect, setting_of, seems_missing, effect_on, effect_in}
use Rattle.pr_basic.specs.declared.session.StatusMode.{StatusMode}
use Rattle.pr_basic.specs.StatementLaws.{EffectsByStatus}
use Rattle.pr_basic.proofs.PrintingLemmas.{AddingLaws, printing_on_bus}

-- an effect with the status found is its elements added, and what else it changes
pub effect_adding : (e : Effect) (old : Seen) → IsWorking old
    → with_effect old.status e old ≡ record (adding e.elements old) { files = e.after.files; output = e.after.output; screen = old.screen ++ e.screen }
effect_adding e old working =
    ap (λ (n : ℕ). record old {
      elements = old.elements ++ e.elements;
      sent = items_of (old.elements ++ e.elements);
      status = cond (is_lacking old.present n (items_of (old.elements ++ e.elements))) 128 old.status;
      files = e.after.files;
      output = e.after.output;
      screen = old.screen ++ e.screen;
    }) (ap length (sym working.in_step))

-- the status after LISTEN, as the channels and as the statement have it
listen_status : (file : File) (old : Seen) → IsWorking old → (adding (listen_to file ∷ []) old).status ≡ status_of old.present old.status old.elements (old.elements ++ listen_to file ∷ [])
listen_status file old working = ap (λ n. cond (is_lacking old.present n (items_of (old.elements ++ listen_to file ∷ []))) 128 old.status) (ap length working.in_step)

-- what CMD gives if the LISTEN is answered, and if it is not
commanding_goes : (file : File) (old : Seen) (channel number : ℕ) (line : Text) (b : Bool) → IsWorking old → ((adding (listen_to file ∷ []) old).status == 128) ≡ b
    → commanding (seems_missing old.present old.status old.elements) (setting_of old channel) number line (Some file)
    ≡ cond b (stopping DeviceNotPresent (listen_to file ∷ []) (setting_of old channel)) (record { elements = listen_to file ∷ map Byte (printed_bytes line number); screen = []; stop = None; after = record { files = old.files; channel = number; output = file.device } })
commanding_goes file old channel number line b working is =
    ap (λ t. cond t (stopping DeviceNotPresent (listen_to file ∷ []) (setting_of old channel)) (record { elements = listen_to file ∷ map Byte (printed_bytes line number); screen = []; stop = None; after = record { files = old.files; channel = number; output = file.device } }))
    (ap (λ n. n == 128) (sym (listen_status file old working)) ∙ is)

-- CHKOUT by whether the status is 128 after the LISTEN
chkout_goes : (file : File) (old : Seen) (b : Bool) → ((adding (listen_to file ∷ []) old).status == 128) ≡ b
    → chkout_of (Some file) old ≡ cond b (adding (listen_to file ∷ []) old, Some DeviceNotPresent) (record (adding (listen_to file ∷ []) old) { output = file.device }, None)
chkout_goes file old b is = ap (λ t. cond t (adding (listen_to file ∷ []) old, Some DeviceNotPresent) (record (adding (listen_to file ∷ []) old) { output = file.device }, None)) is

-- the line after a LISTEN that is answered
pub record Commanded (old new : Seen) (e : Effect) : Type 0 where
  pub goes_on : e.stop ≡ None
  pub gives : new ≡ with_effect old.status e old
  pub output : e.after.output ≡ new.output

-- a list after a LISTEN, by whether the status is 128 after it
commanded_at : AddingLaws → (file : File) (old new : Seen) (channel number : ℕ) (line : Text) (b : Bool) → ((adding (listen_to file ∷ []) old).status == 128) ≡ b → IsWorking old → chkout_of (Some file) old ≡ (new, None) → 3 < new.output
    → Commanded old (printing (printed_bytes line number) new) (commanding (seems_missing old.present old.status old.elements) (setting_of old channel) number line (Some file))
commanded_at laws file old new channel number line true is working gives above =
    let clash : Some DeviceNotPresent ≡ None = ap (λ (p : Seen × Option Stop). p.1) (sym (chkout_goes file old true is) ∙ gives) in
    absurd (cc clash)
commanded_at laws file old new channel number line false is working gives above =
    let bytes = map Byte (printed_bytes line number) in
    let e : Effect = record { elements = listen_to file ∷ map Byte (printed_bytes line number); screen = []; stop = None; after = record { files = old.files; channel = number; output = file.device } } in
    let now : new ≡ record (adding (listen_to file ∷ []) old) { output = file.device } = ap (λ (p : Seen × Option Stop). p.0) (sym gives ∙ chkout_goes file old false is) in
    let printed : printing (printed_bytes line number) new ≡ adding (map Byte (printed_bytes line number)) new = printing_on_bus (printed_bytes line number) new above in
    let whole : printing (printed_bytes line number) new ≡ record (adding (listen_to file ∷ map Byte (printed_bytes line number)) old) { output = file.device } =
    printed
    ∙ ap (λ (s : Seen). adding (map Byte (printed_bytes line number)) s) now
    ∙ ap (λ (s : Seen). record s { output = file.device }) (laws.two_parts (listen_to file ∷ []) (map Byte (printed_bytes line number)) old working.in_step)
    in
    let P : Effect → Type 0 = λ f. Commanded old (printing (printed_bytes line number) new) f in
    subst P (sym (commanding_goes file old channel number line false working is)) (record {
      goes_on = refl;
      gives = whole
          ∙ ap (λ xs. record (adding (listen_to file ∷ map Byte (printed_bytes line number)) old) { output = file.device; screen = xs }) (sym (append-nil old.screen))
          ∙ sym (effect_adding e old working);
      output = sym (ap (λ (s : Seen). s.output) whole);
    })

-- the same for a file that may not be open
pub commanded : AddingLaws → (f : Option File) (old new : Seen) (channel number : ℕ) (line : Text) → IsWorking old → chkout_of f old ≡ (new, None) → 3 < new.output
    → Commanded old (printing (printed_bytes line number) new) (commanding (seems_missing old.present old.status old.elements) (setting_of old channel) number line f)
commanded laws None old new channel number line working gives above =
    let clash : Some FileNotOpen ≡ None = ap (λ (p : Seen × Option Stop). p.1) gives in
    absurd (cc clash)
commanded laws (Some file) old new channel number line working gives above = commanded_at laws file old new channel number line ((adding (listen_to file ∷ []) old).status == 128) refl working gives above

-- UNLISTEN after an effect that went on
pub record Unlistened (old new : Seen) (e : Effect) : Type 0 where
  pub goes_on : (unlistening e).stop ≡ None
  pub gives : clrchn_of new ≡ with_effect old.status (unlistening e) old

-- CLRCHN while a device on the bus is the output device
clrchn_on_bus : (new : Seen) → 3 < new.output → clrchn_of new ≡ record (adding (unlisten ∷ []) new) { output = 3 }
clrchn_on_bus new above = ap (λ t. record (cond t (adding (unlisten ∷ []) new) new) { output = 3 }) (lt-ltb 3 new.output above)

-- CLRCHN after an effect that went on is PRINT#
pub unlistened : AddingLaws → (e : Effect) (old new : Seen) → IsWorking old → Commanded old new e → 3 < new.output → Unlistened old new e
unlistened laws e old new working done above =
    let ends : Effect = record e { elements = e.elements ++ unlisten ∷ []; after = record { files = e.after.files; channel = 0; output = 3 } } in
    let is : unlistening e ≡ record e { elements = e.elements ++ unlisten ∷ []; after = record { files = e.after.files; channel = 0; output = 3 } } = ap (λ s. cond (is_some s) e (record e { elements = e.elements ++ unlisten ∷ []; after = record { files = e.after.files; channel = 0; output = 3 } })) done.goes_on in
    let now : new ≡ record (adding e.elements old) { files = e.after.files; output = e.after.output; screen = old.screen ++ e.screen } = done.gives ∙ effect_adding e old working in
    record {
      goes_on = ap (λ (f : Effect). f.stop) is ∙ done.goes_on;
      gives =
          clrchn_on_bus new above
          ∙ ap (λ (s : Seen). record (adding (unlisten ∷ []) s) { output = 3 }) now
          ∙ ap (λ (s : Seen). record s { files = e.after.files; output = 3; screen = old.screen ++ e.screen }) (laws.two_parts e.elements (unlisten ∷ []) old working.in_step)
          ∙ sym (effect_adding ends old working)
          ∙ ap (λ (f : Effect). with_effect old.status f old) (sym is);
    }

-- the bus still works after CHKOUT of an open file
working_at : (file : File) (old : Seen) (b : Bool) → ((adding (listen_to file ∷ []) old).status == 128) ≡ b → IsWorking old → IsWorking (chkout_of (Some file) old).0
working_at file old true is working =
    let P : Seen × Option Stop → Type 0 = λ p. IsWorking p.0 in
    subst P (sym (chkout_goes file old true is)) (record { works = working.works; in_step = refl })
working_at file old false is working =
    let P : Seen × Option Stop → Type 0 = λ p. IsWorking p.0 in
    subst P (sym (chkout_goes file old false is)) (record { works = working.works; in_step = refl })

-- the same for a file that may not be open
working_from : (f : Option File) (old : Seen) → IsWorking old → IsWorking (chkout_of f old).0
working_from None old working = working
working_from (Some file) old working = working_at file old ((adding (listen_to file ∷ []) old).status == 128) refl working

-- the bus still works after a LISTEN
pub chkout_working : (f : Option File) (old new : Seen) (answer : Option Stop) → IsWorking old → chkout_of f old ≡ (new, answer) → IsWorking new
chkout_working f old new answer working gives =
    let P : Seen × Option Stop → Type 0 = λ p. IsWorking p.0 in
    subst P gives (working_from f old working)

-- an effect that puts nothing on the bus
pub quiet_effect : AddingLaws → (screen : List ℕ) (stop : Option Stop) (after : Setting) (old : Seen) → IsWorking old
    → with_effect old.status (record { elements = []; screen = screen; stop = stop; after = after }) old ≡ record old { files = after.files; output = after.output; screen = old.screen ++ screen }
quiet_effect laws screen stop after old working =
    effect_adding (record { elements = []; screen = screen; stop = stop; after = after }) old working
    ∙ ap (λ (s : Seen). record s { files = after.files; output = after.output; screen = old.screen ++ screen }) (laws.none old working.in_step)

-- OPEN that goes on
pub opened : AddingLaws → (stop : Option Stop) (file : File) (channel : ℕ) (old : Seen) → IsWorking old → stop ≡ None
    → record old { files = old.files ++ file ∷ [] } ≡ with_effect old.status (opening stop file (setting_of old channel)) old
opened laws stop file channel old working none =
    ap (λ xs. record old { files = old.files ++ file ∷ []; screen = xs }) (sym (append-nil old.screen))
    ∙ sym (quiet_effect laws [] None (record { files = old.files ++ file ∷ []; channel = channel; output = old.output }) old working)
    ∙ ap (λ s. with_effect old.status (opening s file (setting_of old channel)) old) (sym none)

-- OPEN that goes on has no stop
opened_stop : (stop : Option Stop) (file : File) (channel : ℕ) (old : Seen) → stop ≡ None → None ≡ (opening stop file (setting_of old channel)).stop
opened_stop stop file channel old none = ap (λ s. (opening s file (setting_of old channel)).stop) (sym none)

-- OPEN that goes on
pub opening_gives : AddingLaws → (stop : Option Stop) (file : File) (channel : ℕ) (old new : Seen) → IsWorking old → stop ≡ None → new ≡ record old { files = old.files ++ file ∷ [] } → Gives old new None (opening stop file (setting_of old channel))
opening_gives laws stop file channel old new working none is = record { stop = opened_stop stop file channel old none; channels = is ∙ opened laws stop file channel old working none }

-- a line printed where the output device is
printed_at : AddingLaws → (b : Bool) (bytes : List ℕ) (channel : ℕ) (old : Seen) → IsWorking old
    → cond b (adding (map Byte bytes) old) (record old { screen = old.screen ++ bytes }) ≡ with_effect old.status (cond b (record { elements = map Byte bytes; screen = []; stop = None; after = setting_of old channel }) (record { elements = []; screen = bytes; stop = None; after = setting_of old channel })) old
printed_at laws true bytes channel old working =
    ap (λ xs. record (adding (map Byte bytes) old) { screen = xs }) (sym (append-nil old.screen))
    ∙ sym (effect_adding (record { elements = map Byte bytes; screen = []; stop = None; after = setting_of old channel }) old working)
printed_at laws false bytes channel old working = sym (quiet_effect laws bytes None (setting_of old channel) old working)

-- PRINT has no stop
print_goes_on : (b : Bool) (bytes : List ℕ) (at : Setting) → let e : Effect = cond b (record { elements = map Byte bytes; screen = []; stop = None; after = at }) (record { elements = []; screen = bytes; stop = None; after = at }) in None ≡ e.stop
print_goes_on true bytes at = refl
print_goes_on false bytes at = refl

-- PRINT
pub print_gives : AddingLaws → (line : Text) (channel : ℕ) (old new : Seen) → IsWorking old → new ≡ printing (printed_bytes line channel) old → Gives old new None (effect_on old old.status channel (Print line))
print_gives laws line channel old new working is = record {
  stop = print_goes_on (nat_lt 3 old.output) (printed_bytes line channel) (setting_of old channel);
  channels = is ∙ printed_at laws (nat_lt 3 old.output) (printed_bytes line channel) channel old working;
}

-- REM
pub rem_gives : AddingLaws → (channel : ℕ) (old : Seen) → IsWorking old → Gives old old None (effect_on old old.status channel Rem)
rem_gives laws channel old working = record {
  stop = refl;
  channels = ap (λ xs. record old { screen = xs }) (sym (append-nil old.screen)) ∙ sym (quiet_effect laws [] None (setting_of old channel) old working);
}

-- PRINT# after its CMD
pub print_to_gives : AddingLaws → (e : Effect) (old new after : Seen) (answer : Option Stop) → IsWorking old → Gives old new answer e → answer ≡ None → 3 < new.output → after ≡ clrchn_of new → Gives old after None (unlistening e)
print_to_gives laws e old new after answer working gives none above is =
    let done : Commanded old new e = record { goes_on = sym gives.stop ∙ none; gives = gives.channels; output = sym (ap (λ (s : Seen). s.output) gives.channels) } in
    let last = unlistened laws e old new working done above in
    record { stop = sym last.goes_on; channels = is ∙ last.gives }

-- the channel number after OPEN, CMD and PRINT#
pub opening_channel : (stop : Option Stop) (file : File) (at : Setting) → (opening stop file at).after.channel ≡ cond (is_some (opening stop file at).stop) 0 at.channel
opening_channel None file at = refl
opening_channel (Some stop) file at = refl

-- the channel number after CMD, by whether it stops
commanding_channel_at : (b : Bool) (es : List Element) (bytes : List ℕ) (at : Setting) (number device : ℕ)
    → let e : Effect = cond b (stopping DeviceNotPresent es at) (record { elements = es ++ map Byte bytes; screen = []; stop = None; after = record { files = at.files; channel = number; output = device } }) in e.after.channel ≡ cond (is_some e.stop) 0 number
commanding_channel_at true es bytes at number device = refl
commanding_channel_at false es bytes at number device = refl

-- the channel number after CMD
pub commanding_channel : (missing : File → Bool) (at : Setting) (number : ℕ) (line : Text) (f : Option File)
    → (commanding missing at number line f).after.channel ≡ cond (is_some (commanding missing at number line f).stop) 0 number
commanding_channel missing at number line None = refl
commanding_channel missing at number line (Some file) = commanding_channel_at (missing file) (listen_to file ∷ []) (printed_bytes line number) at number file.device

-- the channel number after PRINT#, by whether its CMD stops
unlistening_channel_at : (stops : Bool) (e : Effect) (n : ℕ) → is_some e.stop ≡ stops → e.after.channel ≡ cond (is_some e.stop) 0 n
    → let after : Effect = cond stops e (record e { elements = e.elements ++ unlisten ∷ []; after = record { files = e.after.files; channel = 0; output = 3 } }) in after.after.channel ≡ 0
unlistening_channel_at false e n is h = refl
unlistening_channel_at true e n is h = h ∙ ap (λ b. cond b 0 n) is

-- the channel number after PRINT#
pub unlistening_channel : (e : Effect) (n : ℕ) → e.after.channel ≡ cond (is_some e.stop) 0 n → (unlistening e).after.channel ≡ 0
unlistening_channel e n h = unlistening_channel_at (is_some e.stop) e n refl h

-- the channels with another status work as before
pub begun_working : (old mid : Seen) (found : ℕ) → mid ≡ record old { status = found } → (old.failed ≡ false → old.sent ≡ items_of old.elements) → old.failed ≡ false → IsWorking mid
begun_working old mid found is in_step works = subst IsWorking (sym is) (record { works = works; in_step = in_step works })

-- what a statement gives from the status on, with the channel number that it leaves, is what it performs
pub performs_here : (old new : Seen) (number channel : ℕ) (answer : Option Stop) (statement : Statement)
    → Gives old new answer (effect_on old old.status channel statement)
    → (answer ≡ (effect_on old old.status channel statement).stop → number ≡ (effect_on old old.status channel statement).after.channel)
    → Performs old new old.status number answer (effect_on old old.status channel statement)
performs_here old new number channel answer statement gives leaves = record { stop = gives.stop; channel = leaves gives.stop; channels = gives.channels }

-- what a statement performs once the status is the one found
pub performs_from : (old mid new : Seen) (found number channel : ℕ) (answer : Option Stop) (statement : Statement) → mid ≡ record old { status = found }
    → Performs mid new mid.status number answer (effect_on mid mid.status channel statement)
    → Performs old new found number answer (effect_on old found channel statement)
performs_from old mid new found number channel answer statement is performs =
    let P : Seen → Type 0 = λ m. Performs m new m.status number answer (effect_on m m.status channel statement) in
    let begun = subst P is performs in
    record { stop = begun.stop; channel = begun.channel; channels = begun.channels }

-- in a run, the test gives what the definition gives
pub performs_in : EffectsByStatus → (old new : Seen) (mode : StatusMode) (found number channel : ℕ) (answer : Option Stop) (statement : Statement) → found ≡ found_of mode old.present old.elements
    → Performs old new found number answer (effect_on old found channel statement) → Performs old new found number answer (effect_in mode old channel statement)
performs_in same old new mode found number channel answer statement is performs =
    let P : Effect → Type 0 = λ e. Performs old new found number answer e in
    subst P (ap (λ n. effect_on old n channel statement) is ∙ same mode old.present old.elements (setting_of old channel) statement) performs

-- PRINT leaves the channel number, on the bus and on the screen
print_channel_at : (b : Bool) (bytes : List ℕ) (at : Setting) → let e : Effect = cond b (record { elements = map Byte bytes; screen = []; stop = None; after = at }) (record { elements = []; screen = bytes; stop = None; after = at }) in at.channel ≡ e.after.channel
print_channel_at true bytes at = refl
print_channel_at false bytes at = refl

-- PRINT leaves the channel number
pub print_channel : (missing : File → Bool) (at : Setting) (line : Text) → at.channel ≡ (effect_of missing at (Print line)).after.channel
print_channel missing at line = print_channel_at (nat_lt 3 at.output) (printed_bytes line at.channel) at
