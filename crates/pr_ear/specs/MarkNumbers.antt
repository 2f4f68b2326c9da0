-- Trusted: a mark on the paper as numbers, and the mark that numbers mean. All numbers mean some mark.
use Rattle.std.specs.Prelude.{ℕ, ◌==◌, if◌then◌else◌}
use Rattle.pr_page.specs.declared.carriage.MarkOnPaper.{MarkOnPaper}
use Rattle.pr_page.specs.declared.paper.Mark.{Mark}
use Rattle.pr_page.specs.declared.paper.Mark.TheVariants.{Cell, Dots}
use Rattle.pr_ear.specs.declared.printer_numbers.WireMark.{WireMark}
use Rattle.pr_ear.specs.Hearing.{bit_of}

-- a mark in a row at y, from x on, as numbers
abbrev pub numbers_at : (y x : ℕ) → Mark → WireMark
numbers_at y x (Cell code lower reverse wide) =
    record { y = y; x = x; kind = 0; value = code; lower = bit_of lower; reverse = bit_of reverse; wide = bit_of wide }
numbers_at y x (Dots dots) = record { y = y; x = x; kind = 1; value = dots; lower = 0; reverse = 0; wide = 0 }

-- a mark on the paper as numbers
abbrev pub mark_numbers : MarkOnPaper → WireMark
mark_numbers m = numbers_at m.y m.x m.mark

-- a mark by its numbers
abbrev pub mark_by : WireMark → MarkOnPaper
mark_by w = record {
  y = w.y;
  x = w.x;
  mark = if w.kind == 1 then Dots w.value else Cell w.value (w.lower == 1) (w.reverse == 1) (w.wide == 1);
}
