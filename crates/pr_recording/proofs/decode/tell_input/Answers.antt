use Rattle.std.proofs.Common.{◌≡◌, ap, arith, false, length, refl, rules, true}
use Rattle.pr_jobs.specs.Inputs.{edges_read}
use Rattle.pr_jobs.specs.InputReads.{StopsWell}
use Rattle.pr_recording.specs.Narrated.{NarratesMore}
use Rattle.pr_jobs.specs.declared.fault.CliFault.TheVariants.{NoMemory}
use Rattle.pr_recording.proofs.Answering.{HasWritten, at_first, at_last_block, failed_read, last_refusal, left_unread, left_unwritten, no_write, partly, reading_fault, refused, tells_no_memory, told_written, unwritten, writes_more, writes_none, writing_fault}
use Rattle.pr_recording.proofs.Coming.{Laws}
use Rattle.pr_recording.proofs.ReadInto.{taken_all, taken_before, taken_none}
use Rattle.pr_recording.proofs.decode.tell_input.Goals as goal

pub returns-in_err-report-clause-told : goal.returns-in_err-report-clause-told
returns-in_err-report-clause-told g c =
    at_first c.read_edges_come_first.ensures.some c.args.wording c.args.limit c.args.is_checked (g.R.Read.remaining c.args.input.now.inner) (g.W.Write.contents c.args.output.now.inner) c.args.trace c.from_residual.result c.from_residual.ensures.1

pub pieces-init : goal.pieces-init
pieces-init g c = record {
  read = taken_none c.args.limit (g.R.Read.remaining c.args.input.now.inner) c.args.trace c.new-reader.result
      (HasWritten c.args.trace.source c.args.wording (g.W.Write.contents c.args.output.now.inner) (g.W.Write.contents c.args.output.now.inner) c.in_ok-report.report)
      (c.new-reader.ensures.read (g.R.Read.remaining c.args.input.now.inner)) c.new-reader.ensures.edges
      (writes_none c.args.trace.source c.args.wording (g.W.Write.contents c.args.output.now.inner) c.in_ok-report.report c.in_ok-report.ensures.narrated);
  faultless = c.new-reader.ensures.open;
  lines = c.new-reader.ensures.lines;
  load = omega (arith, c.in_ok-report.ensures.load, c.new-reader.ensures.left);
  fresh = c.requires.fresh.0;
  clean = c.requires.fresh.1;
  room = search rules;
}

pub returns-in_err-read_block-clause-told : goal.returns-in_err-read_block-clause-told
returns-in_err-read_block-clause-told g c =
    let laws : Laws = record { more = c.readings_add_up.ensures.more; cut = c.readings_add_up.ensures.cut; given = c.readings_add_up.ensures.given } in
    unwritten laws c.read_edges_come_first.ensures.first c.args.wording c.args.limit c.args.is_checked (g.R.Read.remaining c.args.input.now.inner) (g.R.Read.remaining c.pieces.input.inner) (g.W.Write.contents c.args.output.now.inner)
    (g.W.Write.contents c.pieces.output.inner) c.args.trace c.pieces.reader c.pieces.report c.from_residual-in_err-read_block.result c.in_err-read_block.field-0.0 c.pieces.invariant.read
    c.from_residual-in_err-read_block.ensures.1 c.in_err-read_block.ensures.own (λ is. c.in_err-read_block.ensures.large (rw is refl))

pub returns-in_err-read_block-clause-own : goal.returns-in_err-read_block-clause-own
returns-in_err-read_block-clause-own g c =
    reading_fault c.args.is_checked c.from_residual-in_err-read_block.result c.in_err-read_block.field-0.0 c.from_residual-in_err-read_block.ensures.1 c.in_err-read_block.ensures.own

pub returns-in_err-end_input-clause-told : goal.returns-in_err-end_input-clause-told
returns-in_err-end_input-clause-told g c =
    let laws : Laws = record { more = c.readings_add_up.ensures.more; cut = c.readings_add_up.ensures.cut; given = c.readings_add_up.ensures.given } in
    refused laws c.read_edges_come_first.ensures.first c.args.wording c.args.limit c.args.is_checked (g.R.Read.remaining c.args.input.now.inner) (g.R.Read.remaining c.pieces.input.inner) (g.W.Write.contents c.args.output.now.inner)
    (g.W.Write.contents c.pieces.output.inner) c.args.trace c.pieces.reader c.pieces.report c.from_residual-in_err-end_input.result c.pieces.invariant.read c.from_residual-in_err-end_input.ensures.1

pub returns-in_err-take_all-clause-told : goal.returns-in_err-take_all-clause-told
returns-in_err-take_all-clause-told g c =
    let laws : Laws = record { more = c.readings_add_up.ensures.more; cut = c.readings_add_up.ensures.cut; given = c.readings_add_up.ensures.given } in
    refused laws c.read_edges_come_first.ensures.first c.args.wording c.args.limit c.args.is_checked (g.R.Read.remaining c.args.input.now.inner) (g.R.Read.remaining c.pieces.input.inner) (g.W.Write.contents c.args.output.now.inner)
    (g.W.Write.contents c.pieces.output.inner) c.args.trace c.pieces.reader c.pieces.report c.from_residual-in_err-take_all.result c.pieces.invariant.read c.from_residual-in_err-take_all.ensures.1

pub write_end-requires-clause-refused : goal.write_end-requires-clause-refused
write_end-requires-clause-refused g c =
    let start = g.R.Read.remaining c.args.input.now.inner in
    let now = g.R.Read.remaining c.read_block.new.input.inner in
    let old = g.W.Write.contents c.args.output.now.inner in
    let mid = g.W.Write.contents c.pieces.output.inner in
    let before = taken_before c.args.limit start (g.R.Read.remaining c.pieces.input.inner) now c.args.trace c.pieces.reader c.read_block.new.self (HasWritten c.args.trace.source c.args.wording old mid c.pieces.report) c.pieces.invariant.read c.in_ok-read_block.ensures.read in
    no_write c.args.is_checked c.in_ok-end_input.field-0.refused (last_refusal c.args.wording c.args.limit c.args.is_checked start now old mid c.args.trace c.read_block.new.self c.pieces.report c.in_ok-end_input.field-0 before c.in_ok-end_input.ensures)

pub returns-then-not-branch-clause-told : goal.returns-then-not-branch-clause-told
returns-then-not-branch-clause-told g c =
    let ended : c.in_ok-read_block.field-0 ≡ false = search rules in
    (at_last_block c.args.wording c.args.limit c.args.is_checked (g.R.Read.remaining c.args.input.now.inner) (g.R.Read.remaining c.pieces.input.inner) (g.R.Read.remaining c.read_block.new.input.inner)
    (g.W.Write.contents c.args.output.now.inner) (g.W.Write.contents c.pieces.output.inner) (g.W.Write.contents c.write_end.new.output.inner) c.args.trace c.pieces.reader c.read_block.new.self c.pieces.report c.in_ok-end_input.field-0
    c.write_end.result c.in_ok-read_block.field-0 c.pieces.invariant.read c.in_ok-read_block.ensures.read ended c.in_ok-read_block.ensures.stops c.in_ok-end_input.ensures c.write_end.ensures.written).told

pub returns-then-not-branch-clause-at_end : goal.returns-then-not-branch-clause-at_end
returns-then-not-branch-clause-at_end g c =
    let ended : c.in_ok-read_block.field-0 ≡ false = search rules in
    (at_last_block c.args.wording c.args.limit c.args.is_checked (g.R.Read.remaining c.args.input.now.inner) (g.R.Read.remaining c.pieces.input.inner) (g.R.Read.remaining c.read_block.new.input.inner)
    (g.W.Write.contents c.args.output.now.inner) (g.W.Write.contents c.pieces.output.inner) (g.W.Write.contents c.write_end.new.output.inner) c.args.trace c.pieces.reader c.read_block.new.self c.pieces.report c.in_ok-end_input.field-0
    c.write_end.result c.in_ok-read_block.field-0 c.pieces.invariant.read c.in_ok-read_block.ensures.read ended c.in_ok-read_block.ensures.stops c.in_ok-end_input.ensures c.write_end.ensures.written).at_end

pub returns-then-not-branch-clause-own : goal.returns-then-not-branch-clause-own
returns-then-not-branch-clause-own g c =
    let ended : c.in_ok-read_block.field-0 ≡ false = search rules in
    (at_last_block c.args.wording c.args.limit c.args.is_checked (g.R.Read.remaining c.args.input.now.inner) (g.R.Read.remaining c.pieces.input.inner) (g.R.Read.remaining c.read_block.new.input.inner)
    (g.W.Write.contents c.args.output.now.inner) (g.W.Write.contents c.pieces.output.inner) (g.W.Write.contents c.write_end.new.output.inner) c.args.trace c.pieces.reader c.read_block.new.self c.pieces.report c.in_ok-end_input.field-0
    c.write_end.result c.in_ok-read_block.field-0 c.pieces.invariant.read c.in_ok-read_block.ensures.read ended c.in_ok-read_block.ensures.stops c.in_ok-end_input.ensures c.write_end.ensures.written).own

pub returns-then-not-branch-clause-does : goal.returns-then-not-branch-clause-does
returns-then-not-branch-clause-does g c =
    let ended : c.in_ok-read_block.field-0 ≡ false = search rules in
    let unfailed : c.read_block.new.input.failed ≡ false = search rules in
    let last = at_last_block c.args.wording c.args.limit c.args.is_checked (g.R.Read.remaining c.args.input.now.inner) (g.R.Read.remaining c.pieces.input.inner) (g.R.Read.remaining c.read_block.new.input.inner)
    (g.W.Write.contents c.args.output.now.inner) (g.W.Write.contents c.pieces.output.inner) (g.W.Write.contents c.write_end.new.output.inner) c.args.trace c.pieces.reader c.read_block.new.self c.pieces.report c.in_ok-end_input.field-0
    c.write_end.result c.in_ok-read_block.field-0 c.pieces.invariant.read c.in_ok-read_block.ensures.read ended c.in_ok-read_block.ensures.stops c.in_ok-end_input.ensures c.write_end.ensures.written in
    (search rules, (λ k. absurd (last.reading k), λ k. absurd (cc (k, unfailed))), search rules)

pub pieces-preserved : goal.pieces-preserved
pieces-preserved g c =
    let start = g.R.Read.remaining c.args.input.now.inner in
    let now = g.R.Read.remaining c.read_block.new.input.inner in
    let old = g.W.Write.contents c.args.output.now.inner in
    let mid = g.W.Write.contents c.pieces.output.inner in
    let going : c.in_ok-read_block.field-0 ≡ true = search rules in
    let stops : StopsWell true now c.read_block.new.self = rw going at c.in_ok-read_block.ensures.stops in
    let takes : NarratesMore (edges_read c.read_block.new.self) c.pieces.report c.take_all.new.self = rw c.edges.ensures at c.in_ok-take_all.ensures.narrated in
    let before = taken_before c.args.limit start (g.R.Read.remaining c.pieces.input.inner) now c.args.trace c.pieces.reader c.read_block.new.self (HasWritten c.args.trace.source c.args.wording old mid c.pieces.report) c.pieces.invariant.read c.in_ok-read_block.ensures.read in
    let told = taken_all c.args.limit start now c.args.trace c.read_block.new.self (HasWritten c.args.trace.source c.args.wording old mid c.pieces.report) (HasWritten c.args.trace.source c.args.wording old mid c.take_all.new.self) before
    (λ edges. writes_more c.args.trace.source c.args.wording old mid c.pieces.report c.take_all.new.self (edges_read c.read_block.new.self) edges takes) in
    record {
      read = told_written c.args.wording c.args.limit start now old mid (g.W.Write.contents c.write_lines.new.output.inner) c.args.trace c.read_block.new.self c.take_all.new.self c.write_lines.new.report told
          c.in_ok-write_lines.ensures.ok c.in_ok-write_lines.ensures.given;
      faultless = stops;
      lines = omega (arith, c.in_ok-read_block.ensures.lines, c.pieces.invariant.lines);
      load = omega (arith, c.in_ok-write_lines.ensures.count, c.in_ok-take_all.ensures.load, c.in_ok-read_block.ensures.few, c.pieces.invariant.load, ap length c.edges.ensures);
      fresh = search rules;
      clean = search rules;
      room = omega (arith, c.in_ok-read_block.ensures.room, c.pieces.invariant.room);
    }

pub returns-in_err-write_lines-clause-told : goal.returns-in_err-write_lines-clause-told
returns-in_err-write_lines-clause-told g c =
    let laws : Laws = record { more = c.readings_add_up.ensures.more; cut = c.readings_add_up.ensures.cut; given = c.readings_add_up.ensures.given } in
    let start = g.R.Read.remaining c.args.input.now.inner in
    let now = g.R.Read.remaining c.read_block.new.input.inner in
    let old = g.W.Write.contents c.args.output.now.inner in
    let mid = g.W.Write.contents c.pieces.output.inner in
    let takes : NarratesMore (edges_read c.read_block.new.self) c.pieces.report c.take_all.new.self = rw c.edges.ensures at c.in_ok-take_all.ensures.narrated in
    let before = taken_before c.args.limit start (g.R.Read.remaining c.pieces.input.inner) now c.args.trace c.pieces.reader c.read_block.new.self (HasWritten c.args.trace.source c.args.wording old mid c.pieces.report) c.pieces.invariant.read c.in_ok-read_block.ensures.read in
    let told = taken_all c.args.limit start now c.args.trace c.read_block.new.self (HasWritten c.args.trace.source c.args.wording old mid c.pieces.report) (HasWritten c.args.trace.source c.args.wording old mid c.take_all.new.self) before
    (λ edges. writes_more c.args.trace.source c.args.wording old mid c.pieces.report c.take_all.new.self (edges_read c.read_block.new.self) edges takes) in
    partly laws c.read_edges_come_first.ensures.first c.args.wording c.args.limit c.args.is_checked start now old mid (g.W.Write.contents c.write_lines.new.output.inner) c.args.trace c.read_block.new.self c.take_all.new.self
    c.from_residual-in_err-write_lines.result c.in_err-write_lines.field-0.0 told c.from_residual-in_err-write_lines.ensures.1 c.in_err-write_lines.ensures.own c.in_err-write_lines.ensures.err

pub returns-in_err-read_block-clause-does : goal.returns-in_err-read_block-clause-does
returns-in_err-read_block-clause-does g c =
    (search rules, failed_read c.from_residual-in_err-read_block.result c.read_block.result c.in_err-read_block.field-0.0 _ c.from_residual-in_err-read_block.ensures.1 c.in_err-read_block.was c.read_block.ensures.failed, search rules)

pub returns-in_err-take_all-clause-own : goal.returns-in_err-take_all-clause-own
returns-in_err-take_all-clause-own g c =
    reading_fault c.args.is_checked c.from_residual-in_err-take_all.result NoMemory c.from_residual-in_err-take_all.ensures.1 tt

pub returns-in_err-report-clause-own : goal.returns-in_err-report-clause-own
returns-in_err-report-clause-own g c = reading_fault c.args.is_checked c.from_residual.result NoMemory c.from_residual.ensures.1 tt

pub returns-in_err-end_input-clause-own : goal.returns-in_err-end_input-clause-own
returns-in_err-end_input-clause-own g c =
    reading_fault c.args.is_checked c.from_residual-in_err-end_input.result NoMemory c.from_residual-in_err-end_input.ensures.1 tt

pub returns-in_err-write_lines-clause-own : goal.returns-in_err-write_lines-clause-own
returns-in_err-write_lines-clause-own g c =
    writing_fault c.args.is_checked c.from_residual-in_err-write_lines.result c.in_err-write_lines.field-0.0 c.from_residual-in_err-write_lines.ensures.1 c.in_err-write_lines.ensures.own

pub returns-in_err-report-clause-at_end : goal.returns-in_err-report-clause-at_end
returns-in_err-report-clause-at_end g c =
    left_unread c.args.is_checked (g.R.Read.remaining c.args.input.now.inner) c.from_residual.result NoMemory c.from_residual.ensures.1 tt

pub returns-in_err-read_block-clause-at_end : goal.returns-in_err-read_block-clause-at_end
returns-in_err-read_block-clause-at_end g c =
    left_unread c.args.is_checked (g.R.Read.remaining c.read_block.new.input.inner) c.from_residual-in_err-read_block.result c.in_err-read_block.field-0.0 c.from_residual-in_err-read_block.ensures.1
    c.in_err-read_block.ensures.own

pub returns-in_err-take_all-clause-at_end : goal.returns-in_err-take_all-clause-at_end
returns-in_err-take_all-clause-at_end g c =
    left_unread c.args.is_checked (g.R.Read.remaining c.read_block.new.input.inner) c.from_residual-in_err-take_all.result NoMemory c.from_residual-in_err-take_all.ensures.1 tt

pub returns-in_err-end_input-clause-at_end : goal.returns-in_err-end_input-clause-at_end
returns-in_err-end_input-clause-at_end g c =
    left_unread c.args.is_checked (g.R.Read.remaining c.read_block.new.input.inner) c.from_residual-in_err-end_input.result NoMemory c.from_residual-in_err-end_input.ensures.1 tt

pub returns-in_err-write_lines-clause-at_end : goal.returns-in_err-write_lines-clause-at_end
returns-in_err-write_lines-clause-at_end g c =
    left_unwritten c.args.is_checked (g.R.Read.remaining c.read_block.new.input.inner) c.from_residual-in_err-write_lines.result c.in_err-write_lines.field-0.0 c.from_residual-in_err-write_lines.ensures.1
    c.in_err-write_lines.ensures.own

pub returns-in_err-take_all-clause-does : goal.returns-in_err-take_all-clause-does
returns-in_err-take_all-clause-does g c =
    tells_no_memory c.read_block.new.input c.pieces.output c.from_residual-in_err-take_all.result c.from_residual-in_err-take_all.ensures.1 (λ h. absurd (cc (c.in_ok-read_block.ensures.failed.1 h)))
    c.pieces.invariant.clean
