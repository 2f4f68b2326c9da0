-- Linking words: what ties a printer to the inputs that it has taken. The clauses of `Printer` say all that a caller needs of them. No reader needs to believe them.
use Rattle.std.specs.Prelude.{◌≡◌, ℕ, List}
use Rattle.pr_page.specs.Steps.{start, state_after}
use Rattle.pr_page.specs.declared.input.Input.{Input}
use Rattle.pr_page.specs.declared.state.PrinterState.{PrinterState}

-- the printer has taken these inputs, in this order, and no others
pub record HasTaken (inputs : List Input) (printer : PrinterState) : Type 0 where
  pub kept : printer ≡ state_after start inputs

-- how many inputs the printer has taken
abbrev pub number_taken : PrinterState → ℕ
number_taken printer = printer.taken
