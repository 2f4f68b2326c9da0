use Rattle.std.proofs.Common.{◌≡◌, ◌+◌, ◌^◌, ◌<◌, ◌≤◌, ◌++◌, List, length, map, take}
use Rattle.pr_page.specs.declared.carriage.MarkOnPaper.{MarkOnPaper}
use Rattle.pr_page.specs.declared.input.Input.{Input}
use Rattle.pr_page.specs.declared.input.Input.TheVariants.{Byte}
use Rattle.pr_ear.specs.Printing.{HasPrinted, IsLaid}
use Rattle.pr_ear.proofs.printing.print_bytes.Given as goal

-- the bytes so far were taken, and their marks are in the buffer
abbrev pub invariant-loop-byte : goal.invariant-loop-byte
invariant-loop-byte l = record {
  printed : (inputs : List Input) (marks : List MarkOnPaper) → length inputs + length l.bytes < 2 ^ 58 → HasPrinted inputs marks l.initial.printer
      → (made : List MarkOnPaper) × HasPrinted (inputs ++ map Byte (take l.byte-index l.bytes)) (marks ++ made) l.printer
      × IsLaid made l.initial.out l.out × (l.run.marks ≡ length made);
  taken : l.run.taken ≡ l.byte-index;
  room : l.run.marks ≤ length l.initial.out;
}
