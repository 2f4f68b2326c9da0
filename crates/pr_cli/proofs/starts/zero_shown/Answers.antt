use Rattle.std.proofs.Common.{◌∷◌, ◌++◌, [], Ok, true, false}
use Rattle.pr_cli.specs.StartSteps.{FindsSample}
use Rattle.pr_cli.proofs.FirstRows.{zero_later, zero_refused, zero_shown}
use Rattle.pr_cli.proofs.starts.zero_shown.Goals as goal

pub returns-in_ok-zero_behind-in-Ok-true-clause-zero : goal.returns-in_ok-zero_behind-in-Ok-true-clause-zero
returns-in_ok-zero_behind-in-Ok-true-clause-zero c =
    let found : FindsSample (c.args.line.now ++ 10 ∷ []) (Ok true) c.args.reader.now c.has_sample.new.reader = rw c.in-Ok-true.field-0-test at c.in-Ok-true.ensures.found in
    zero_shown c.args.trace c.args.front.now c.args.line.now c.in_ok-zero_behind-in-Ok-true.field-0 c.args.reader.now c.has_sample.new.reader found c.in_ok-zero_behind-in-Ok-true.ensures

pub returns-in-Ok-false-clause-zero : goal.returns-in-Ok-false-clause-zero
returns-in-Ok-false-clause-zero c =
    let found : FindsSample (c.args.line.now ++ 10 ∷ []) (Ok false) c.args.reader.now c.has_sample.new.reader = rw c.in-Ok-false.field-0-test at c.in-Ok-false.ensures.found in
    zero_later c.args.trace c.args.front.now c.args.line.now c.args.reader.now c.has_sample.new.reader found

pub returns-in_ok-check_memory-in-Err-clause-zero : goal.returns-in_ok-check_memory-in-Err-clause-zero
returns-in_ok-check_memory-in-Err-clause-zero c =
    zero_refused c.args.trace c.args.front.now c.args.line.now c.in-Err.fault c.args.reader.now c.has_sample.new.reader c.in_ok-check_memory-in-Err.ensures c.in-Err.ensures.found
