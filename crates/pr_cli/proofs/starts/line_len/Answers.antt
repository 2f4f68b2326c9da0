use Rattle.std.proofs.Common.{◌≡◌, arith, length, refl}
use Rattle.std.proofs.lemmas.List.{take_rest}
use Rattle.pr_cli.proofs.FirstRows.{goes_longer, goes_on, inner_grown}
use Rattle.pr_cli.proofs.starts.line_len.Goals as goal

pub blocks-2-preserved : goal.blocks-2-preserved
blocks-2-preserved g c =
    let inv = c.blocks-2.invariant in
    let len : c.len-seen.result ≡ length c.blocks-2.first.items = omega (arith, c.len-seen.ensures, c.blocks-2.first.ok.0) in
    let none = rw (c.as_slice.ensures.value, take_rest) at (c.in_default.ensures.none refl) in
    record {
      from = omega (arith, len, inv.from, inv.seen);
      seen = omega (arith, len, goes_longer c.blocks-2.first.items c.read_more.new.first.items c.in_ok-read_more.ensures.on);
      inner = inner_grown c.args.from c.blocks-2.seen c.len-seen.result c.blocks-2.first.items c.read_more.new.first.items len inv.from inv.seen inv.inner none c.in_ok-read_more.ensures.on;
      on = goes_on c.args.first.now.items c.blocks-2.first.items c.read_more.new.first.items inv.on c.in_ok-read_more.ensures.on;
      more = λ whole h. c.in_ok-read_more.ensures.more whole (inv.more whole h);
    }
