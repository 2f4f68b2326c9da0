use Rattle.std.proofs.Common.{refl}
use Rattle.pr_page.proofs.Striking.{length_both}
use Rattle.pr_page.proofs.carriage.Made.len.Goals as goal

pub returns : goal.returns
returns c =
    let made = c.args.self.now in
    rw (c.from.ensures, c.from-2.ensures, length_both made.y made.x made.count made.next_y made.next_count made.mark) refl
