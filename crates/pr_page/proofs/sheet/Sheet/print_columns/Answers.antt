use Rattle.std.proofs.Common.{◌≡◌, ◌+◌, ◌-◌, ◌≤◌, ◌<◌, refl, arith}
use Rattle.pr_page.proofs.Columns.{fits, over_count}
use Rattle.pr_page.proofs.sheet.Sheet.print_columns.Goals as goal

pub returns-then-count-room-clause-ok : goal.returns-then-count-room-clause-ok
returns-then-count-room-clause-ok c =
    let room : c.args.self.now.position + c.args.count ≤ 480 = omega arith in
    rw (fits c.args.self.now c.args.dots c.args.count room, c.in_ok-push_columns.ensures.ok, c.from-count.ensures) refl

pub returns-in-Ok-clause-ok : goal.returns-in-Ok-clause-ok
returns-in-Ok-clause-ok c =
    let s = c.args.self.now in
    let room = 480 - c.args.self.now.position in
    let full : c.args.self.now.position + (480 - c.args.self.now.position) ≡ 480 = omega arith in
    let parts : (480 - c.args.self.now.position) + (c.args.count - (480 - c.args.self.now.position)) ≡ c.args.count = omega arith in
    let some : 0 < c.args.count - (480 - c.args.self.now.position) = omega arith in
    let small : c.args.count - (480 - c.args.self.now.position) ≤ 480 = omega arith in
    let all = over_count s c.args.dots c.args.count room (c.args.count - room) full parts some small in
    rw (all, c.in-Ok.ensures.ok, c.in_ok-push_columns-3.ensures.ok, c.in_ok-push_columns-2.ensures.ok, c.new-next.ensures, c.from-count.ensures) refl
