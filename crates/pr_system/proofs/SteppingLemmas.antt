-- One statement more, as the run stores it.
use Rattle.std.proofs.Common.{◌≡◌, ℕ, ◌+◌, ◌*◌, ◌≤◌, false, Option, Some, List, ◌++◌, length, take, refl, sym, ap, subst, ◌∙◌, arith, length-append}
use Rattle.std.proofs.Math.Seq.{take-append_seam}
use Rattle.pr_serial.specs.declared.Present.{Present}
use Rattle.pr_serial.specs.declared.Item.{Item}
use Rattle.pr_serial.specs.Elements.{Element}
use Rattle.pr_serial.specs.Items.{items_of}
use Rattle.pr_serial.specs.Heard.{heard_by}
use Rattle.pr_serial.specs.HeardSinceMark.{items_before}
use Rattle.pr_serial.specs.Laws.{ItemsOnlyGrow}
use Rattle.pr_page.specs.declared.input.Input.{Input}
use Rattle.pr_page.specs.declared.state.PrinterState.{PrinterState}
use Rattle.pr_page.specs.Taken.{HasTaken, number_taken}
use Rattle.pr_channels.specs.declared.faults.Stop.{Stop}
use Rattle.pr_channels.specs.Seen.{Seen}
use Rattle.pr_basic.specs.declared.statement.Statement.{Statement}
use Rattle.pr_basic.specs.declared.session.StatusMode.{StatusMode}
use Rattle.pr_basic.specs.Performing.{found_by, effect_on, Performs}
use Rattle.pr_basic.specs.Runs.{found_of}
use Rattle.pr_system.specs.InOrder.{IsFed}
use Rattle.pr_basic.specs.StatementLaws.{StatusFoundNext}

-- what the bus shows of a device, as the channels see the bus: what it heard since the mark, and that this is not much
pub record Shows (present : Present) (device : ℕ) (mark : Option ℕ) (items : List Item) (inputs : List Input) : Type 0 where
  pub heard : heard_by present device (items_before mark items) ++ inputs ≡ heard_by present device items
  pub bounded : length (heard_by present device items) ≤ 2 * length items

-- the same, where the channels show these printers, this mark and these items of the bus
pub shows_as : (device : ℕ) (inputs : List Input) (present present' : Present) (mark mark' : Option ℕ) (items items' : List Item) → present ≡ present' → mark ≡ mark' → items ≡ items'
    → Shows present device mark items inputs → Shows present' device mark' items' inputs
shows_as device inputs present present' mark mark' items items' there marked sent is =
    let F : Present → Type 0 = λ p. Shows p device mark items inputs in
    let G : Option ℕ → Type 0 = λ m. Shows present' device m items inputs in
    let H : List Item → Type 0 = λ xs. Shows present' device mark' xs inputs in
    subst H sent (subst G marked (subst F there is))

-- a printer that is given what it heard since the mark
pub fed_more : (present : Present) (device : ℕ) (mark : Option ℕ) (items : List Item) (inputs : List Input) (old new : PrinterState) → Shows present device mark items inputs → IsFed present device (items_before mark items) old
    → ((before : List Input) → HasTaken before old → HasTaken (before ++ inputs) new) → number_taken new ≡ number_taken old + length inputs → IsFed present device items new
fed_more present device mark items inputs old new is fed taken count =
    let P : List Input → Type 0 = λ xs. HasTaken xs new in
    let before = heard_by present device (items_before mark items) in
    record {
      taken = subst P is.heard (taken before fed.taken);
      count = count ∙ ap (λ n. n + length inputs) fed.count ∙ sym (length-append before inputs) ∙ ap length is.heard;
    }

-- this many inputs can be given
pub room_to_feed : (present : Present) (device : ℕ) (mark : Option ℕ) (items : List Item) (inputs : List Input) (old : PrinterState) → Shows present device mark items inputs → IsFed present device (items_before mark items) old
    → 2 * length items ≤ 4294967296 → number_taken old + length inputs ≤ 4294967296
room_to_feed present device mark items inputs old is fed few =
    omega (arith, few, fed.count, ap length is.heard, length-append (heard_by present device (items_before mark items)) inputs, is.bounded)

-- what performing a statement leaves, after the mark was set
pub record Advanced (old new : Seen) (mode : StatusMode) : Type 0 where
  pub more : List Element
  pub elements : new.elements ≡ old.elements ++ more
  pub sent : new.sent ≡ items_of new.elements
  pub mark : new.mark ≡ Some (length (items_of old.elements))
  pub present : new.present ≡ old.present
  pub works : new.failed ≡ false
  pub found : found_by mode new.status ≡ found_of mode new.present new.elements

-- a statement that was performed after a mark brings the run on by one step
pub advanced : StatusFoundNext → (old mid new : Seen) (mode : StatusMode) (channel number : ℕ) (answer : Option Stop) (statement : Statement)
    → old.failed ≡ false → old.sent ≡ items_of old.elements → found_by mode old.status ≡ found_of mode old.present old.elements
    → mid ≡ record old { mark = Some (length old.sent) }
    → (mid.failed ≡ false → Performs mid new (found_by mode mid.status) number answer (effect_on mid (found_by mode mid.status) channel statement))
    → Advanced old new mode
advanced next old mid new mode channel number answer statement works in_step found is performs =
    let P : Seen → Type 0 = λ m. m.failed ≡ false → Performs m new (found_by mode m.status) number answer (effect_on m (found_by mode m.status) channel statement) in
    let done = subst P is performs works in
    let e = effect_on old (found_by mode old.status) channel statement in
    let Q : Seen → Type 0 = λ s. Advanced old s mode in
    subst Q (sym done.channels) (record {
      more = e.elements;
      elements = refl;
      sent = refl;
      mark = ap (λ xs. Some (length xs)) in_step;
      present = refl;
      works = works;
      found = next mode old.present (found_by mode old.status) old.elements e.elements found;
    })

-- a printer that had taken what it heard before the statement has taken what it heard before the mark
pub fed_before : ItemsOnlyGrow → (old new : Seen) (mode : StatusMode) (device : ℕ) (printer : PrinterState) → old.sent ≡ items_of old.elements → Advanced old new mode → IsFed old.present device old.sent printer → IsFed new.present device (items_before new.mark new.sent) printer
fed_before grow old new mode device printer in_step a fed =
    let grown = grow old.elements a.more in
    let sent : new.sent ≡ items_of old.elements ++ grown.0 = a.sent ∙ ap items_of a.elements ∙ grown.1 in
    let front : items_before new.mark new.sent ≡ old.sent =
    ap (λ m. items_before m new.sent) a.mark
    ∙ ap (take (length (items_of old.elements))) sent
    ∙ take-append_seam (items_of old.elements) grown.0
    ∙ sym in_step in
    let P : Present → Type 0 = λ p. IsFed p device old.sent printer in
    let Q : List Item → Type 0 = λ xs. IsFed new.present device xs printer in
    subst Q (sym front) (subst P (sym a.present) fed)
