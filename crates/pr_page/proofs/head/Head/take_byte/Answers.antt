use Rattle.std.proofs.Common.{subst}
use Rattle.pr_page.specs.Marks.{marks_made}
use Rattle.pr_page.specs.Striking.{Makes}
use Rattle.pr_page.proofs.Making.{steps-byte}
use Rattle.pr_page.proofs.head.Head.take_byte.Goals as goal

pub returns-clause-prints : goal.returns-clause-prints
returns-clause-prints c =
    let old = c.args.self.now in
    let made = marks_made c.perform-made.result in
    steps-byte c.args.b old c.after_byte-self.result c.after-self.result c.perform-made.new.self made c.after_byte-self.ensures c.after-self.ensures
    (subst (λ acts. Makes old.carriage acts c.perform-made.new.self made) c.of_byte-work.ensures.acts c.perform-made.ensures.made)
