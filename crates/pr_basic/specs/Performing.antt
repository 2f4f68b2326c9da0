-- Words of calls: what a statement and its parts do to the channels. Who uses `perform` by itself believes them; what a run gives is
-- defined without them.
use Rattle.std.specs.Prelude.{◌≡◌, ◌≤◌, ℕ, ◌+◌, ◌==◌, Bool, false, nat_lt, Option, Result, OnOk, List, [], ◌∷◌, ◌++◌, length, map, if◌then◌else◌}
use Rattle.pr_serial.specs.declared.Present.{Present}
use Rattle.pr_serial.specs.Elements.{Element, Byte}
use Rattle.pr_serial.specs.Items.{items_of}
use Rattle.pr_channels.specs.declared.file.File.{File}
use Rattle.pr_channels.specs.declared.faults.Stop.{Stop}
use Rattle.pr_channels.specs.Commands.{listen_to}
use Rattle.pr_channels.specs.Files.{file_at}
use Rattle.pr_channels.specs.Seen.{Seen, KeepsBus}
use Rattle.pr_channels.specs.Calls.{adding}
use Rattle.pr_basic.specs.declared.session.StatusMode.{StatusMode}
use Rattle.pr_basic.specs.declared.session.StatusMode.TheVariants.{Each, Kept}
use Rattle.pr_basic.specs.Text.{Text}
use Rattle.pr_basic.specs.declared.statement.Statement.{Statement}
use Rattle.pr_basic.specs.Statements.{Setting, Effect, is_missing, commanding, effect_of}
use Rattle.pr_basic.specs.Runs.{status_of}

-- what comes before a statement, as the channels and the channel number show it
abbrev pub setting_of : Seen → ℕ → Setting
setting_of seen channel = record { files = seen.files; channel = channel; output = seen.output }

-- the status that a statement finds where this one was left: 0, unless the status is kept
abbrev pub found_by : StatusMode → ℕ → ℕ
found_by Each left = 0
found_by Kept left = left

-- the machine's test for a missing device: after LISTEN to it the status is 128
abbrev pub seems_missing : Present → ℕ → List Element → File → Bool
seems_missing present found before file = status_of present found before (before ++ listen_to file ∷ []) == 128

-- what a statement gives on these channels by that test, with the status found and the channel number
abbrev pub effect_on : Seen → ℕ → ℕ → Statement → Effect
effect_on seen found channel statement =
    effect_of (seems_missing seen.present found seen.elements) (setting_of seen channel) statement

-- what it gives in a run, as the definition says which device is missing
abbrev pub effect_in : StatusMode → Seen → ℕ → Statement → Effect
effect_in mode seen channel statement =
    effect_of (is_missing mode seen.present seen.elements) (setting_of seen channel) statement

-- what CMD gives on these channels, with their status and the channel number
abbrev pub commanding_on : Seen → ℕ → ℕ → Text → Effect
commanding_on seen channel number line =
    let missing = seems_missing seen.present seen.status seen.elements in
    commanding missing (setting_of seen channel) number line (file_at seen.files number)

-- the channels, once a statement has given this, with the status found
abbrev pub with_effect : ℕ → Effect → Seen → Seen
with_effect found e old = record old {
  elements = old.elements ++ e.elements;
  sent = items_of (old.elements ++ e.elements);
  status = status_of old.present found old.elements (old.elements ++ e.elements);
  files = e.after.files;
  output = e.after.output;
  screen = old.screen ++ e.screen;
}

-- the effect's stop is answered, and the channels are those that it leaves
pub record Gives (old new : Seen) (answer : Option Stop) (e : Effect) : Type 0 where
  pub stop : answer ≡ e.stop
  pub channels : new ≡ with_effect old.status e old

-- the same for a statement that finds this status, with the channel number that it leaves
pub record Performs (old new : Seen) (found number : ℕ) (answer : Option Stop) (e : Effect) : Type 0 where
  pub stop : answer ≡ e.stop
  pub channel : number ≡ e.after.channel
  pub channels : new ≡ with_effect found e old

-- bytes printed to the output device
abbrev pub printing : List ℕ → Seen → Seen
printing bytes old =
    if nat_lt 3 old.output then adding (map Byte bytes) old else record old { screen = old.screen ++ bytes }

-- the bus works, and its items are those of the elements
pub record IsWorking (seen : Seen) : Type 0 where
  pub works : seen.failed ≡ false
  pub in_step : seen.sent ≡ items_of seen.elements

-- all but the screen's list is as before
abbrev pub ChangesScreenAlone : Seen → Seen → Type 0
ChangesScreenAlone old new = new ≡ record old { screen = new.screen }

-- at most this many items are sent, and the bus has the same printers, delays and mark; unless memory
-- was refused, it has failed only if it had before
pub record SendsAtMost {X E : Type 0} (count : ℕ) (result : Result X E) (old new : Seen) : Type 0 where
  pub failed : OnOk result (new.failed ≡ old.failed)
  pub room : length new.sent ≤ length old.sent + count
  pub keeps : KeepsBus old new
