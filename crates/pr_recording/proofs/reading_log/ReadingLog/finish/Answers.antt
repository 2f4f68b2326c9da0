use Rattle.std.proofs.Common.{List, ℕ, ◌++◌, ap, sym, ◌∙◌}
use Rattle.pr_recording.specs.Narrated.{bounds_in}
use Rattle.pr_recording.proofs.Accounting.{accounts_end, last_in_json, last_in_lines}
use Rattle.pr_recording.proofs.reading_log.ReadingLog.finish.Goals as goal

pub returns-in-Lines : goal.returns-in-Lines
returns-in-Lines c = λ w edges given written odd h.
    accounts_end w c.args.self given written c.push_summing_up.new.text.items _ h
    (c.in_ok-push_summing_up-in-Lines.ensures (bounds_in w) given h.surveyed
    ∙ ap (λ (z : List ℕ). c.args.self.lines.items ++ z)
    (last_in_lines w _ c.args.trace c.args.fault edges given c.args.odd (sym h.wording ∙ c.in-Lines.is) odd))

pub returns : goal.returns
returns c = λ w edges given written odd h.
    accounts_end w c.args.self given written c.push_json_verdict.new.text.items _ h
    (c.in_ok-push_json_verdict-in-Json.ensures
    ∙ ap (λ (z : List ℕ). c.args.self.lines.items ++ z) (last_in_json w c.args.trace c.args.fault edges given (sym h.wording ∙ c.in-Json.is)))
