use Rattle.std.proofs.Common.{◌≡◌, ◌≤◌, arith, rules, take, length, length-take}
use Rattle.pr_jobs.proofs.CheckLemmas.{read_more}
use Rattle.pr_jobs.proofs.check.check_input.Goals as goal

pub pieces-preserved : goal.pieces-preserved
pieces-preserved g c =
    let block = take c.in-Ok.n c.read.new.buf in
    let within : c.in-Ok.n ≤ length c.read.new.buf = search (rules, c.in-Ok.ensures.bound) in
    let count : length block ≡ c.in-Ok.n = omega (arith, length-take c.in-Ok.n c.read.new.buf) in
    record {
      read = read_more _ _ (g.R.Read.remaining c.pieces.input.inner) _ _ _ _ _ _ c.in-Ok.n block c.pieces.invariant.read c.in-Ok.ensures.bytes.0 count c.if-n-left.false c.in_ok-check_block-in-Ok.ensures.told;
      few = omega (arith, c.pieces.invariant.few, c.in_ok-check_block-in-Ok.ensures.count, count);
      fresh = search rules;
    }
