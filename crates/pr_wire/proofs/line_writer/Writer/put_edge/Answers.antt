use Rattle.std.proofs.Common.{arith, ap, ◌++◌, ◌∙◌, sym, take}
use Rattle.pr_wire.proofs.TextLaws.{written_short, written_long}
use Rattle.pr_wire.proofs.line_writer.Writer.put_edge.Goals as goal

pub returns-then-edge-lt-TAILS-clause-text : goal.returns-then-edge-lt-TAILS-clause-text
returns-then-edge-lt-TAILS-clause-text c =
    let e = written_short (take c.args.at c.args.block.now) (take c.put-end.result c.put-end.new.block) c.args.edge (c.put-end.ensures.text ∙ ap (λ v. take c.args.at c.args.block.now ++ v) c.new.ensures) in
    c.put.ensures.text ∙ (ap (λ v. take c.put-end.result c.put-end.new.block ++ v) c.levels_line.ensures ∙ sym e)

pub returns-clause-text : goal.returns-clause-text
returns-clause-text c =
    let e = written_long (take c.args.at c.args.block.now) (take c.put-end-2.result c.put-end-2.new.block) c.args.edge (omega arith) (omega arith) (c.put-end-2.ensures.text ∙ ap (λ v. take c.args.at c.args.block.now ++ v) c.keep.ensures) in
    c.put-2.ensures.text ∙ (ap (λ v. take c.put-end-2.result c.put-end-2.new.block ++ v) c.tail_line.ensures ∙ sym e)
