use Rattle.std.proofs.Common.{sym, ◌∙◌, arith, ap}
use Rattle.std.specs.List.{list_all}
use Rattle.pr_base.specs.Digits.{is_digit}
use Rattle.pr_options.proofs.DelayLemmas.{number_given}
use Rattle.pr_options.proofs.delays.read_number.Goals as goal

pub returns : goal.returns
returns c =
    number_given c.args.word.now c.parse.result c.ok.result c.ok.ensures.value (omega arith)
    (sym (ap (list_all is_digit) c.as_bytes.ensures.value) ∙ (sym c.all_digits.ensures ∙ c.if-not-all_digits.false)) c.parse.ensures.value.0
