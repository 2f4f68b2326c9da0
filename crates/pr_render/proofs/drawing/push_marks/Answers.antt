use Rattle.std.proofs.Common.{cond, []}
use Rattle.pr_render.specs.Svg.{marks_of}
use Rattle.pr_render.proofs.Defining.{two-papers}
use Rattle.pr_render.proofs.drawing.push_marks.Goals as goal

pub returns : goal.returns
returns c =
    two-papers c.args.shapes.now c.args.text.now.items c.define_paper.new.text.items c.define_paper-2.new.text.items c.in_ok-defined.defined
    c.define_paper.new.self c.define_paper-2.new.self (cond c.args.drawn.four (marks_of c.args.outcome.now.paper4) [])
    (cond c.args.drawn.five (marks_of c.args.outcome.now.paper5) []) c.in_ok-defined.ensures c.in_ok-define_paper.ensures
    c.in_ok-define_paper-2.ensures
