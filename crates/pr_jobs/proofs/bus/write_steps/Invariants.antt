use Rattle.std.proofs.Common.{◌≡◌, ◌+◌, ℕ, List, Option, None, false, true, drop, length}
use Rattle.std.specs.Io.KnownBytes.{Appends}
use Rattle.pr_serial.specs.Items.{items_of}
use Rattle.pr_system.specs.RunningState.{trace_so_far}
use Rattle.pr_system.specs.StepByStep.{stepped_through}
use Rattle.pr_capture.specs.declared.format.OutputFormat.{OutputFormat}
use Rattle.pr_jobs.specs.Traced.{text_so_far, HasWritten, WritesOn}
use Rattle.pr_jobs.proofs.bus.write_steps.Given as goal

-- the steps of what is left lead where all steps lead, and the trace so far was written, and flushed
abbrev pub invariant-loop-statement : goal.invariant-loop-statement
invariant-loop-statement g l = record {
  steps : stepped_through l.running (drop l.statement-index l.statements) ≡ stepped_through l.fn.running l.statements;
  going : l.running.stop ≡ None;
  count : length l.running.statuses ≡ length l.fn.running.statuses + l.statement-index;
  sent : l.running.items ≡ items_of l.running.elements;
  works : l.running.failed ≡ false;
  wrote : (f : OutputFormat) (start : Option (List ℕ)) → HasWritten f (trace_so_far l.fn.running) l.fn.writer
      → Appends start (g.W.Write.contents l.fn.output.inner) (text_so_far f (trace_so_far l.fn.running)) → Appends start (g.W.Write.contents l.output.inner) (text_so_far f (trace_so_far l.running));
  written : WritesOn l.fn.running l.running l.fn.writer l.writer;
  fresh : l.output.failed ≡ false;
  flushed : l.fn.output.flushed ≡ true → l.output.flushed ≡ true;
}
