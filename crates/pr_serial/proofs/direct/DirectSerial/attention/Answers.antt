use Rattle.std.proofs.Common.{ap, ◌∙◌, ◌++◌, ◌∷◌, []}
use Rattle.pr_serial.specs.declared.Item.TheVariants.{Attention}
use Rattle.pr_serial.proofs.PortLemmas.{hears_same, hears_attention, reached_push}
use Rattle.pr_serial.proofs.direct.DirectSerial.attention.Goals as goal

pub invariant_of-self-2 : goal.invariant_of-self-2
invariant_of-self-2 c =
    let inside = c.self.inside in
    let sent = c.push_reserved.ensures.items ∙ ap (λ xs. xs ++ Attention c.args.first c.args.second ∷ []) c.make_room.ensures.items in
    let four = hears_same inside.present 4 inside.mark _ _ _ c.make_room.ensures.four c.self.invariant.0 in
    let five = hears_same inside.present 5 inside.mark _ _ _ c.make_room.ensures.five c.self.invariant.1 in (
      hears_attention inside.present 4 inside.mark _ _ c.args.first c.args.second _ _ c.self.invariant.2 four sent c.attention.ensures.device c.attention.ensures.present c.attention.ensures.listens (c.attention.ensures.inputs inside.items.items),
      hears_attention inside.present 5 inside.mark _ _ c.args.first c.args.second _ _ c.self.invariant.2 five sent c.attention-2.ensures.device c.attention-2.ensures.present c.attention-2.ensures.listens (c.attention-2.ensures.inputs inside.items.items),
      reached_push inside.mark _ _ (Attention c.args.first c.args.second) sent c.self.invariant.2,
    )
