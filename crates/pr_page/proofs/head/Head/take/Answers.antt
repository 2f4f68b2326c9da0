use Rattle.std.proofs.Common.{◌≤◌, ◌+◌, [], sym, subst, arith}
use Rattle.pr_page.specs.Marks.{marks_made}
use Rattle.pr_page.specs.Striking.{StepsWith}
use Rattle.pr_page.specs.declared.head.Head.{Head}
use Rattle.pr_page.proofs.Making.{HasMade-push, steps-select}
use Rattle.pr_page.proofs.head.Head.take.Goals as goal

pub returns-in-Select-clause-made : goal.returns-in-Select-clause-made
returns-in-Select-clause-made c =
    let old = c.args.self.now in
    let new : Head = record { settings = old.settings; lower = c.in-Select.lower; pending = old.pending; carriage = old.carriage } in
    let stays : old.carriage.y ≤ old.carriage.y + 21 = omega arith in
    λ inputs marks h.
    HasMade-push inputs marks c.args.input old new (marks_made c.nothing.result)
    (subst (λ more. StepsWith c.args.input old new more) (sym c.nothing.ensures.none)
    (subst (λ input. StepsWith input old new []) (sym c.in-Select.is) (steps-select c.in-Select.lower old)))
    (c.requires.position, stays) h

pub returns-in-Byte-clause-made : goal.returns-in-Byte-clause-made
returns-in-Byte-clause-made c =
    let old = c.args.self.now in
    λ inputs marks h.
    HasMade-push inputs marks c.args.input old c.take_byte.new.self (marks_made c.take_byte.result)
    (subst (λ input. StepsWith input old c.take_byte.new.self (marks_made c.take_byte.result)) (sym c.in-Byte.is) c.take_byte.ensures.prints)
    c.take_byte.ensures.within h
