use Rattle.std.proofs.Common.{◌≡◌, ◌≤◌, Some, arith, drop, length, length-drop, refl, sym, ◌∙◌}
use Rattle.std.proofs.lemmas.List.{take_rest}
use Rattle.pr_wire.specs.TextSteps.{ended_line_in}
use Rattle.pr_wire.proofs.FrameText.{more_lines}
use Rattle.pr_wire.proofs.first_lines.FirstLines.read_to.Goals as goal

pub loop-self-preserved : goal.loop-self-preserved
loop-self-preserved c =
    let old = c.loop-self.self in
    let text = c.args.text.now in
    let line = c.in-Some.line in
    let read : ended_line_in (drop old.len text) ≡ Some line = rw take_rest at (sym c.read_next.ensures.line ∙ c.in-Some.is) in
    let within : line.len ≤ length (drop old.len text) = rw take_rest at c.in-Some.ensures.within in
    record {
      lines = λ h. more_lines text old _ line (omega (arith, c.loop-self-test.true, c.requires.few)) read refl refl refl (c.loop-self.invariant.lines h);
      few = omega (arith, c.loop-self-test.true);
      within = omega (arith, within, length-drop old.len text, c.loop-self.invariant.within);
      bytes = omega (arith, c.in-Some.ensures.some, c.loop-self.invariant.bytes);
    }
