use Rattle.std.proofs.Common.{◌≡◌, length, refl, ◌∙◌, arith}
use Rattle.pr_page.specs.Marks.{marks_made}
use Rattle.pr_page.specs.declared.input.Input.TheVariants.{Byte}
use Rattle.pr_ear.specs.PrinterNumbers.{stored}
use Rattle.pr_ear.proofs.Printers.{in_mode, mode-same, plain-more, printed-more}
use Rattle.pr_ear.proofs.printing.print_in_mode.Goals as goal

pub returns-then-out-at-clause-printed : goal.returns-then-out-at-clause-printed
returns-then-out-at-clause-printed c =
    let count : c.from-count.result ≡ length (marks_made c.take-made.result) = c.from-count.ensures ∙ c.len.ensures in
    λ inputs marks laid first few h at is_laid.
    let old = in_mode c.restore-head.result c.args.graphic in
    let is = mode-same c.args.printer.now c.restore-head.result c.args.graphic c.restore-head.ensures.value c.requires.mode in (
      marks_made c.take-made.result,
      record {
        printer = stored c.take-made.new.self;
        printed =
            printed-more inputs marks (Byte c.args.byte) c.args.printer.now (stored c.take-made.new.self) old c.take-made.new.self
            (marks_made c.take-made.result) few h is refl c.take-made.ensures.made;
      },
      count,
      omega (arith, c.if-out-at.true, at, c.requires.room),
      refl,
      refl,
    )

pub returns-clause-printed : goal.returns-clause-printed
returns-clause-printed c =
    let count : c.from-count.result ≡ length (marks_made c.take-made.result) = c.from-count.ensures ∙ c.len.ensures in
    λ inputs marks laid first few h at is_laid.
    let old = in_mode c.restore-head.result c.args.graphic in
    let is = mode-same c.args.printer.now c.restore-head.result c.args.graphic c.restore-head.ensures.value c.requires.mode in (
      marks_made c.take-made.result,
      plain-more inputs marks c.args.byte c.args.printer.now old c.take-made.new.self (marks_made c.take-made.result) few h
          is c.requires.idle c.requires.plain c.take-made.ensures.made,
      c.put.ensures.laid laid first at is_laid,
      count,
    )
