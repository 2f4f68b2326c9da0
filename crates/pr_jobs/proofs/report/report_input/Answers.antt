use Rattle.std.proofs.Common.{◌≡◌, ap, arith, false, length, refl, rules, true}
use Rattle.pr_jobs.specs.Inputs.{edges_read}
use Rattle.pr_jobs.specs.InputReads.{StopsWell}
use Rattle.pr_jobs.specs.Reported.{HasCounted, CountsMore}
use Rattle.pr_jobs.specs.declared.fault.CliFault.TheVariants.{NoMemory}
use Rattle.pr_jobs.proofs.InputLemmas.{all_taken, before_taken}
use Rattle.pr_jobs.proofs.ReportLemmas.{ends_well, gives_none}
use Rattle.pr_jobs.proofs.report.report_input.Goals as goal

pub returns-in_err-read_block-clause-report : goal.returns-in_err-read_block-clause-report
returns-in_err-read_block-clause-report g c =
    gives_none _ _ (g.R.Read.remaining c.pieces.input.inner) _ _ c.pieces.reader (λ edges. HasCounted c.args.trace.source c.args.report edges c.pieces.frames) c.from_residual.result c.in_err-read_block.field-0.0 c.pieces.invariant.read
    c.from_residual.ensures.1 c.in_err-read_block.ensures.own (λ is. c.in_err-read_block.ensures.large (rw is refl))

pub returns-in_err-take_all-clause-report : goal.returns-in_err-take_all-clause-report
returns-in_err-take_all-clause-report g c =
    gives_none _ _ (g.R.Read.remaining c.pieces.input.inner) _ _ c.pieces.reader (λ edges. HasCounted c.args.trace.source c.args.report edges c.pieces.frames) c.from_residual-in_err-take_all.result NoMemory c.pieces.invariant.read
    c.from_residual-in_err-take_all.ensures.1 tt (λ is. absurd (cc))

pub returns-then-not-branch-clause-report : goal.returns-then-not-branch-clause-report
returns-then-not-branch-clause-report g c =
    let start = g.R.Read.remaining c.args.input.now.inner in
    let now = g.R.Read.remaining c.read_block.new.input.inner in
    let ended : c.in_ok-read_block.field-0 ≡ false = search rules in
    let stops : StopsWell false now c.read_block.new.self = rw ended at c.in_ok-read_block.ensures.stops in
    (ends_well c.args.limit start now c.args.trace c.args.report c.read_block.new.self c.pieces.frames c.in_ok-last_report.field-0
    (before_taken c.args.limit start (g.R.Read.remaining c.pieces.input.inner) now c.args.trace c.pieces.reader c.read_block.new.self (λ edges. HasCounted c.args.trace.source c.args.report edges c.pieces.frames) c.pieces.invariant.read c.in_ok-read_block.ensures.read)
    stops c.in_ok-last_report.ensures).gives

pub returns-then-not-branch-clause-at_end : goal.returns-then-not-branch-clause-at_end
returns-then-not-branch-clause-at_end g c =
    let start = g.R.Read.remaining c.args.input.now.inner in
    let now = g.R.Read.remaining c.read_block.new.input.inner in
    let ended : c.in_ok-read_block.field-0 ≡ false = search rules in
    let stops : StopsWell false now c.read_block.new.self = rw ended at c.in_ok-read_block.ensures.stops in
    (ends_well c.args.limit start now c.args.trace c.args.report c.read_block.new.self c.pieces.frames c.in_ok-last_report.field-0
    (before_taken c.args.limit start (g.R.Read.remaining c.pieces.input.inner) now c.args.trace c.pieces.reader c.read_block.new.self (λ edges. HasCounted c.args.trace.source c.args.report edges c.pieces.frames) c.pieces.invariant.read c.in_ok-read_block.ensures.read)
    stops c.in_ok-last_report.ensures).at_end

pub returns-then-not-branch-clause-refused : goal.returns-then-not-branch-clause-refused
returns-then-not-branch-clause-refused g c =
    let start = g.R.Read.remaining c.args.input.now.inner in
    let now = g.R.Read.remaining c.read_block.new.input.inner in
    let ended : c.in_ok-read_block.field-0 ≡ false = search rules in
    let stops : StopsWell false now c.read_block.new.self = rw ended at c.in_ok-read_block.ensures.stops in
    (ends_well c.args.limit start now c.args.trace c.args.report c.read_block.new.self c.pieces.frames c.in_ok-last_report.field-0
    (before_taken c.args.limit start (g.R.Read.remaining c.pieces.input.inner) now c.args.trace c.pieces.reader c.read_block.new.self (λ edges. HasCounted c.args.trace.source c.args.report edges c.pieces.frames) c.pieces.invariant.read c.in_ok-read_block.ensures.read)
    stops c.in_ok-last_report.ensures).refused

pub pieces-preserved : goal.pieces-preserved
pieces-preserved g c =
    let start = g.R.Read.remaining c.args.input.now.inner in
    let now = g.R.Read.remaining c.read_block.new.input.inner in
    let going : c.in_ok-read_block.field-0 ≡ true = search rules in
    let stops : StopsWell true now c.read_block.new.self = rw going at c.in_ok-read_block.ensures.stops in
    let takes : CountsMore (edges_read c.read_block.new.self) c.pieces.frames c.take_all.new.self = rw c.edges.ensures at c.in_ok-take_all.ensures.counted in
    record {
      read = all_taken c.args.limit start now c.args.trace c.read_block.new.self (λ edges. HasCounted c.args.trace.source c.args.report edges c.pieces.frames) (λ edges. HasCounted c.args.trace.source c.args.report edges c.take_all.new.self)
          (before_taken c.args.limit start (g.R.Read.remaining c.pieces.input.inner) now c.args.trace c.pieces.reader c.read_block.new.self (λ edges. HasCounted c.args.trace.source c.args.report edges c.pieces.frames) c.pieces.invariant.read c.in_ok-read_block.ensures.read)
          (λ given h. takes c.args.trace.source c.args.report given h);
      faultless = stops;
      lines = omega (arith, c.in_ok-read_block.ensures.lines, c.pieces.invariant.lines);
      edges = omega (arith, c.in_ok-take_all.ensures.count, c.in_ok-read_block.ensures.few, c.pieces.invariant.edges, ap length c.edges.ensures);
      fresh = search rules;
      room = omega (arith, c.in_ok-read_block.ensures.room, c.pieces.invariant.room);
    }
