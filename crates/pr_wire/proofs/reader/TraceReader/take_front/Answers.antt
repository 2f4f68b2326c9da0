use Rattle.std.proofs.Common.{refl, sym, ap, ◌∙◌, [], ◌∷◌, None}
use Rattle.pr_wire.specs.TraceReads.{FaultsIn}
use Rattle.pr_wire.proofs.ReadLaws.{faulty_front, first_byte, handed_on, read_byte, reads_alike, faults_alike, reads_same}
use Rattle.pr_wire.proofs.reader.TraceReader.take_front.Goals as goal

pub returns-in_err-edge-clause-refused : goal.returns-in_err-edge-clause-refused
returns-in_err-edge-clause-refused c =
    let kept = c.take_line.ensures.stays c.in_default.is in
    handed_on c.from_residual.result c.in_err-edge.field-0.0 (FaultsIn c.args.block.now c.args.self.now) c.from_residual.ensures.1
    (faults_alike c.args.block.now c.args.self.now c.take_line.new.self c.in_err-edge.field-0.0 kept.0 kept.1
    (faulty_front c.take_line.new.self 1 _ c.args.block.now c.in_err-edge.field-0.0 (sym (first_byte c.args.block.now _ c.requires.some ∙ ap (λ b. b ∷ []) c.if-block-eq10.true)) c.in_err-edge.ensures.refused))

pub returns-clause-read : goal.returns-clause-read
returns-clause-read c =
    let kept = c.take_line.ensures.stays c.in_default.is in
    reads_alike _ None c.args.self.now c.take_line.new.self _ kept.0 kept.1
    (reads_same _ _ None _ _ (sym (first_byte c.args.block.now _ c.requires.some)) (read_byte c.take_line.new.self _ _ c.if-block-eq10.false c.after-self.ensures refl))
