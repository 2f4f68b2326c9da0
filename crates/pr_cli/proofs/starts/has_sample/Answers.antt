use Rattle.std.proofs.Common.{◌∷◌, [], Ok, true, false}
use Rattle.pr_cli.proofs.FirstRows.{found_first, found_then, refused_first, refused_on}
use Rattle.pr_cli.specs.StartSteps.{FindsSample}
use Rattle.pr_cli.proofs.starts.has_sample.Goals as goal

pub returns-in_err-find_sample-clause-found : goal.returns-in_err-find_sample-clause-found
returns-in_err-find_sample-clause-found c =
    refused_on _ c.in_err-find_sample.field-0.0 c.from_residual.result c.args.reader.now c.find_sample.new.reader c.from_residual.ensures.1
    (refused_first c.args.line.now (10 ∷ []) c.in_err-find_sample.field-0.0 c.args.reader.now c.find_sample.new.reader c.in_err-find_sample.ensures.found)

pub returns-then-branch-clause-found : goal.returns-then-branch-clause-found
returns-then-branch-clause-found c =
    let found : FindsSample c.args.line.now (Ok true) c.args.reader.now c.find_sample.new.reader = rw c.if-branch.true at c.in_ok-find_sample.ensures.found in
    found_first c.args.line.now (10 ∷ []) c.args.reader.now c.find_sample.new.reader found

pub returns-clause-found : goal.returns-clause-found
returns-clause-found c =
    let first : FindsSample c.args.line.now (Ok false) c.args.reader.now c.find_sample.new.reader = rw c.if-branch.false at c.in_ok-find_sample.ensures.found in
    found_then c.args.line.now (10 ∷ []) c.find_sample-2.result c.args.reader.now c.find_sample.new.reader c.find_sample-2.new.reader first c.find_sample-2.ensures.found
