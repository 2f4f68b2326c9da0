-- Linking words, for proofs: a run of which no call was refused. No reader needs to believe them.
use Rattle.std.specs.Prelude.{◌≡◌, ◌≤◌, ℕ, ◌*◌, false, List, length}
use Rattle.pr_serial.specs.declared.Present.{Present}
use Rattle.pr_serial.specs.declared.Item.{Item}
use Rattle.pr_serial.specs.Items.{items_of}
use Rattle.pr_serial.specs.Heard.{heard_by}
use Rattle.pr_page.specs.declared.state.PrinterState.{PrinterState}
use Rattle.pr_page.specs.Taken.{HasTaken, number_taken}
use Rattle.pr_channels.specs.Seen.{Seen}
use Rattle.pr_basic.specs.declared.session.StatusMode.{StatusMode}
use Rattle.pr_basic.specs.Performing.{found_by}
use Rattle.pr_basic.specs.Runs.{found_of}

-- the printer has taken just what the device heard of the items
pub record IsFed (present : Present) (device : ℕ) (items : List Item) (printer : PrinterState) : Type 0 where
  pub taken : HasTaken (heard_by present device items) printer
  pub count : number_taken printer ≡ length (heard_by present device items)

-- the bus works, the items are those of the elements, the status is the run's, each printer has taken what it heard, and there are at most
-- 262 items for each statement
pub record IsInOrder (seen : Seen) (mode : StatusMode) (four five : PrinterState) (statuses : List ℕ) : Type 0 where
  pub works : seen.failed ≡ false
  pub in_step : seen.sent ≡ items_of seen.elements
  pub found : found_by mode seen.status ≡ found_of mode seen.present seen.elements
  pub fed_four : IsFed seen.present 4 seen.sent four
  pub fed_five : IsFed seen.present 5 seen.sent five
  pub room : length seen.sent ≤ 262 * length statuses
