use Rattle.std.proofs.Common.{Some, ap, ◌∙◌}
use Rattle.pr_receiver.specs.Steps.{input_by, kept_by}
use Rattle.pr_receiver.proofs.Taken.{kept-push}
use Rattle.pr_receiver.proofs.listener.Listener.hear.Goals as goal

pub returns : goal.returns
returns c = record {
  heard = λ before h. (
    c.step.ensures.input ∙ ap (λ l. input_by l c.args.frame) h,
    c.step.ensures.kept ∙ (ap (λ l. kept_by l c.args.frame) h ∙ kept-push _ before (Some c.args.frame)),
  );
}
