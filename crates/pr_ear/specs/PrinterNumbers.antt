-- Linking words: how a printer's head is held in numbers. No reader needs to believe them; that a head comes back from its numbers is
-- proved (`PrintersComeBack`). All numbers are those of some head.
use Rattle.std.specs.Prelude.{◌≡◌, ℕ, ◌≤◌, ◌^◌, Bool, true, false, ◌==◌, min, if◌then◌else◌, Option, Some, None}
use Rattle.pr_page.specs.declared.head.Head.{Head}
use Rattle.pr_page.specs.declared.pending.Pending.{Pending}
use Rattle.pr_page.specs.declared.pending.Pending.TheVariants.{Idle, ColumnCode, ColumnTens, RepeatCode, RepeatCount, EscapeCode, AddressCode, AddressHigh}
use Rattle.pr_ear.specs.declared.printer_numbers.WirePrinter.{WirePrinter}
use Rattle.pr_ear.specs.Hearing.{bit_of}

-- the overriding set as a number, and by its number
abbrev pub override_number : Option Bool → ℕ
override_number None = 0
override_number (Some false) = 1
override_number (Some true) = 2

abbrev pub override_by : ℕ → Option Bool
override_by n = if n == 1 then Some false else (if n == 2 then Some true else None)

-- what is pending as numbers, and by its numbers
abbrev pub pending_number : Pending → ℕ
pending_number Idle = 0
pending_number ColumnCode = 1
pending_number (ColumnTens tens) = 2
pending_number RepeatCode = 3
pending_number (RepeatCount count) = 4
pending_number EscapeCode = 5
pending_number AddressCode = 6
pending_number (AddressHigh high) = 7

abbrev pub parameter_of : Pending → ℕ
parameter_of Idle = 0
parameter_of ColumnCode = 0
parameter_of (ColumnTens tens) = tens
parameter_of RepeatCode = 0
parameter_of (RepeatCount count) = count
parameter_of EscapeCode = 0
parameter_of AddressCode = 0
parameter_of (AddressHigh high) = high

abbrev pub pending_by : (number parameter : ℕ) → Pending
pending_by n p =
    if n == 1 then ColumnCode
    else (if n == 2 then ColumnTens p
    else (if n == 3 then RepeatCode
    else (if n == 4 then RepeatCount p
    else (if n == 5 then EscapeCode
    else (if n == 6 then AddressCode
    else (if n == 7 then AddressHigh p else Idle))))))

-- the numbers of a head
abbrev pub stored : Head → WirePrinter
stored h = record {
  y = h.carriage.y;
  x = h.carriage.position;
  graphic = bit_of h.settings.graphic;
  wide = bit_of h.settings.wide;
  reverse = bit_of h.settings.reverse;
  override_set = override_number h.settings.override_set;
  lower = bit_of h.lower;
  pending = pending_number h.pending;
  parameter = parameter_of h.pending;
}

-- a head by its numbers
abbrev pub head_by : WirePrinter → Head
head_by w = record {
  settings = record {
    graphic = w.graphic == 1;
    wide = w.wide == 1;
    reverse = w.reverse == 1;
    override_set = override_by w.override_set;
  };
  lower = w.lower == 1;
  pending = pending_by w.pending w.parameter;
  carriage = record { y = min w.y (2 ^ 63); position = min w.x 480 };
}

-- what is stored is what is restored
abbrev pub PrintersComeBack : Type 0
PrintersComeBack =
    (head : Head) → head.carriage.y ≤ 2 ^ 63 → head.carriage.position ≤ 480 → head_by (stored head) ≡ head
