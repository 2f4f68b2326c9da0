use Rattle.std.proofs.Common.{◌≡◌, ◌+◌, ◌-◌, ◌≤◌, ◌<◌, ap, arith}
use Rattle.pr_page.specs.declared.carriage.Carriage.{Carriage}
use Rattle.pr_page.proofs.Striking.{fits-makes, over-makes}
use Rattle.pr_page.proofs.carriage.Carriage.print_columns.Goals as goal

pub returns-then-from-room-clause-made : goal.returns-then-from-room-clause-made
returns-then-from-room-clause-made c =
    let old = c.args.self.now in
    let at : old.position + c.from-then-from-room.result ≡ old.position + c.args.count = omega arith in
    let room : old.position + c.args.count ≤ 480 = omega arith in
    fits-makes old c.args.dots c.args.count (old.position + c.from-then-from-room.result) at room

pub returns-clause-made : goal.returns-clause-made
returns-clause-made c =
    let old = c.args.self.now in
    let full : old.position + (480 - old.position) ≡ 480 = omega arith in
    let parts : (480 - old.position) + (c.args.count - (480 - old.position)) ≡ c.args.count = omega arith in
    let some : 0 < c.args.count - (480 - old.position) = omega arith in
    let small : c.args.count - (480 - old.position) ≤ 480 = omega arith in
    let y : c.end_line.new.self.y ≡ old.y + 14 = ap (λ (carriage : Carriage). carriage.y) c.end_line.ensures in
    over-makes old c.args.dots c.args.count (480 - old.position) (c.args.count - (480 - old.position)) c.end_line.new.self.y c.from-self.result full parts some small y c.from-self.ensures
