use Rattle.std.proofs.Common.{◌+◌, ◌-◌, ◌<◌, ◌≤◌, sym, arith}
use Rattle.pr_page.proofs.Striking.{get_here, get_next, get_none}
use Rattle.pr_page.proofs.carriage.Made.get.Goals as goal

pub returns-then-index-count : goal.returns-then-index-count
returns-then-index-count c =
    let made = c.args.self.now in
    let less : c.args.index < made.count = omega arith in
    sym (get_here made.y made.x made.count made.next_y made.next_count c.args.index made.mark less)

pub returns-then-index-count-2 : goal.returns-then-index-count-2
returns-then-index-count-2 c =
    let made = c.args.self.now in
    let past : made.count ≤ c.args.index = omega arith in
    let less : c.args.index - made.count < made.next_count = omega arith in
    rw c.from-count.ensures (sym (get_next made.y made.x made.count made.next_y made.next_count c.args.index made.mark past less))

pub returns-else-index-count-2 : goal.returns-else-index-count-2
returns-else-index-count-2 c =
    let made = c.args.self.now in
    let past : made.count + made.next_count ≤ c.args.index = omega arith in
    sym (get_none made.y made.x made.count made.next_y made.next_count c.args.index made.mark past)
