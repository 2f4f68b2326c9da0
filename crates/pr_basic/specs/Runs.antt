-- Trusted: what a list of statements gives and sends.
use Rattle.std.specs.Prelude.{ℕ, ◌+◌, if◌then◌else◌, Option, Some, None, List, [], ◌∷◌, ◌++◌, length}
use Rattle.pr_serial.specs.declared.Present.{Present}
use Rattle.pr_serial.specs.declared.Item.{Item}
use Rattle.pr_serial.specs.Elements.{Element}
use Rattle.pr_serial.specs.Items.{items_of}
use Rattle.pr_serial.specs.Answers.{is_lacking}
use Rattle.pr_channels.specs.declared.faults.Stop.{Stop}
use Rattle.pr_basic.specs.declared.statement.Statement.{Statement}
use Rattle.pr_basic.specs.declared.session.StatusMode.{StatusMode}
use Rattle.pr_basic.specs.declared.session.StatusMode.TheVariants.{Each, Kept}
use Rattle.pr_basic.specs.Statements.{Setting, Effect, at_first, is_missing, effect_of}

-- a run: all its elements, a status for each statement performed, the stop with its statement's
-- number, and the screen's bytes
pub record Run : Type 0 where
  pub elements : List Element
  pub statuses : List ℕ
  pub stop : Option (ℕ × Stop)
  pub screen : List ℕ

-- the status before a statement: 0, or in the kept mode 128 if an item before it was not answered
abbrev pub found_of : StatusMode → Present → List Element → ℕ
found_of Each present before = 0
found_of Kept present before = if is_lacking present 0 (items_of before) then 128 else 0

-- the status once the elements `before` have become `all`: 128 if one of the new items is not
-- answered, else the status found
abbrev pub status_of : Present → ℕ → List Element → List Element → ℕ
status_of present found before all =
    if is_lacking present (length (items_of before)) (items_of all) then 128 else found

-- a run that begins with a statement's effect and its status, and goes on with `rest` unless the effect is a stop
abbrev pub run_after : ℕ → List Element → ℕ → Effect → Option Stop → Run → Run
run_after place before status e None rest =
    record rest { statuses = status ∷ rest.statuses; screen = e.screen ++ rest.screen }
run_after place before status e (Some stop) rest =
    let all = before ++ e.elements in
    record { elements = all; statuses = status ∷ []; stop = Some (place, stop); screen = e.screen }

-- the run of statements from this place on, after these elements
abbrev pub run_from : StatusMode → Present → ℕ → List Element → Setting → List Statement → Run
run_from mode present place before at [] =
    record { elements = before; statuses = []; stop = None; screen = [] }
run_from mode present place before at (statement ∷ statements) =
    let e = effect_of (is_missing mode present before) at statement in
    let all = before ++ e.elements in
    let rest = run_from mode present (place + 1) all e.after statements in
    run_after place before (status_of present (found_of mode present before) before all) e e.stop rest

-- a whole run: no file is open, the channel number is 0, and the screen is the output device
abbrev pub run_of : StatusMode → Present → List Statement → Run
run_of mode present statements = run_from mode present 1 [] at_first statements

-- the items that a run sends
abbrev pub items_sent : StatusMode → Present → List Statement → List Item
items_sent mode present statements = items_of (run_of mode present statements).elements
