-- Linking words, for proofs: the printers of the talker as those of the timed trace. No reader needs to believe them.
use Rattle.std.specs.Prelude.{◌≡◌, Bool, cond, List, [], ◌∷◌, map}
use Rattle.pr_wire.specs.Choices.{left}
use Rattle.pr_bus.specs.declared.printer.TimedPrinter.{TimedPrinter}
use Rattle.pr_bus.specs.Timed as all
use Rattle.pr_bus.specs.Timed.{taking}

-- the printer, if it is present
abbrev pub printer_list : TimedPrinter → List all.TimedPrinter
printer_list p = cond p.present (record { device = p.device; numbers = left p.choices } ∷ []) []

-- the printer, if it is present and listens
abbrev pub heeding : TimedPrinter → List all.TimedPrinter
heeding p = cond p.listens (printer_list p) []

-- the printer after a data byte, whose numbers it takes if it listens
abbrev pub after_byte : Bool → TimedPrinter → List all.TimedPrinter
after_byte eoi p = map (λ (q : all.TimedPrinter). cond p.listens (taking (cond eoi 4 3) q) q) (printer_list p)

-- the printer after ATN's release
abbrev pub after_freed : TimedPrinter → List all.TimedPrinter
after_freed p = map (λ (q : all.TimedPrinter). cond p.listens q (taking 1 q)) (printer_list p)

-- it is the printer that it was, with its numbers
pub record IsSamePrinter (p q : TimedPrinter) : Type 0 where
  pub device : q.device ≡ p.device
  pub present : q.present ≡ p.present
  pub numbers : q.choices.numbers ≡ p.choices.numbers
