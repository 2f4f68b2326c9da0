use Rattle.std.proofs.Common.{arith, length, decimal, ap, length-append}
use Rattle.std.proofs.lemmas.Fmt.{length-decimal-le}
use Rattle.pr_jobs.proofs.short_text.numbers_between.Goals as goal

pub new-requires : goal.new-requires
new-requires c = omega (arith, length-decimal-le 3 c.loop-n.n (omega arith) (omega arith) (omega arith), c.as_slice.ensures.len, c.in_ok-extend_from_slice-2.ensures.len, c.in_ok-extend_from_slice.ensures.len, c.clear.ensures.len, ap length c.in_ok-push_small.ensures, length-append c.extend_from_slice.new.self.items (decimal c.loop-n.n))
