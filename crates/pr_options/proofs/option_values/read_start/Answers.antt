use Rattle.std.proofs.Common.{sym, ◌∙◌, ap}
use Rattle.std.specs.List.{list_all}
use Rattle.pr_base.specs.Digits.{is_digit}
use Rattle.pr_options.proofs.DelayLemmas.{start_given}
use Rattle.pr_options.proofs.option_values.read_start.Goals as goal

pub returns : goal.returns
returns c =
    start_given c.args.text.now c.parse.result c.ok.result c.ok.ensures.value
    (sym (ap (list_all is_digit) c.as_bytes.ensures.value) ∙ (sym c.all_digits.ensures ∙ c.if-not-all_digits.false)) c.parse.ensures.value.0
