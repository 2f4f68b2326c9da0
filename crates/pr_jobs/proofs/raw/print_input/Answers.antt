use Rattle.std.proofs.Common.{◌≡◌, ◌≤◌, [], arith, rules, take, length, length-take}
use Rattle.pr_jobs.proofs.RawLemmas.{none_printed, print_more}
use Rattle.pr_jobs.proofs.raw.print_input.Goals as goal

pub pieces-init : goal.pieces-init
pieces-init g c = record {
  printed = none_printed _ (g.R.Read.remaining c.args.input.now.inner) _ _ (c.in_ok-take.ensures.ok [] c.new-printer.ensures.inputs);
  count = omega (arith, c.in_ok-take.ensures.count, c.new-printer.ensures.count);
  fresh = c.requires.fresh;
}

pub pieces-preserved : goal.pieces-preserved
pieces-preserved g c =
    let block = take c.in-Ok.n c.read.new.buf in
    let within : c.in-Ok.n ≤ length c.read.new.buf = search (rules, c.in-Ok.ensures.bound) in
    let count : length block ≡ c.in-Ok.n = omega (arith, length-take c.in-Ok.n c.read.new.buf) in
    record {
      printed = print_more _ _ (g.R.Read.remaining c.pieces.input.inner) _ _ _ _ _ c.in-Ok.n block c.pieces.invariant.printed c.in-Ok.ensures.bytes.0 count c.if-n-left.false c.in_ok-take_bytes-in-Ok.ensures.taken;
      count = omega (arith, c.pieces.invariant.count, c.in_ok-take_bytes-in-Ok.ensures.count, count);
      fresh = search rules;
    }
