use Rattle.std.proofs.Common.{ap, ◌∙◌, ◌++◌, ◌∷◌, []}
use Rattle.pr_serial.specs.declared.Item.TheVariants.{Sent}
use Rattle.pr_serial.proofs.PortLemmas.{hears_same, hears_byte, reached_push}
use Rattle.pr_serial.proofs.direct.DirectSerial.send.Goals as goal

pub invariant_of-self-2 : goal.invariant_of-self-2
invariant_of-self-2 c =
    let inside = c.self.inside in
    let sent = c.push_reserved.ensures.items ∙ ap (λ xs. xs ++ Sent c.args.byte c.args.eoi ∷ []) c.make_room.ensures.items in
    let four = hears_same inside.present 4 inside.mark _ _ _ c.make_room.ensures.four c.self.invariant.0 in
    let five = hears_same inside.present 5 inside.mark _ _ _ c.make_room.ensures.five c.self.invariant.1 in (
      hears_byte inside.present 4 inside.mark _ _ c.args.byte c.args.eoi _ _ c.self.invariant.2 four sent c.byte.ensures.device c.byte.ensures.present c.byte.ensures.listens c.byte.ensures.inputs,
      hears_byte inside.present 5 inside.mark _ _ c.args.byte c.args.eoi _ _ c.self.invariant.2 five sent c.byte-2.ensures.device c.byte-2.ensures.present c.byte-2.ensures.listens c.byte-2.ensures.inputs,
      reached_push inside.mark _ _ (Sent c.args.byte c.args.eoi) sent c.self.invariant.2,
    )
