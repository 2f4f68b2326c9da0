use Rattle.std.proofs.Common.{ap, ◌∙◌}
use Rattle.pr_report.specs.Steps.{counted}
use Rattle.pr_report.specs.Summary.{is_command, is_data_byte, is_frame, is_incomplete, is_unacknowledged}
use Rattle.pr_report.proofs.Sums.{counted-more}
use Rattle.pr_report.proofs.counts.Counts.with.Goals as goal

pub returns : goal.returns
returns c = λ rs few h.
    let r = c.args.reading.now in
    let old = c.args.self in
    record {
      frames = counted-more is_frame rs r old.frames c.counted-frames.result few h.frames (c.counted-frames.ensures ∙ ap (λ b. counted b old.frames) c.is_frame.ensures);
      commands = counted-more is_command rs r old.commands c.counted-commands.result few h.commands (c.counted-commands.ensures ∙ ap (λ b. counted b old.commands) c.is_command.ensures);
      data_bytes = counted-more is_data_byte rs r old.data_bytes c.counted-data_bytes.result few h.data_bytes (c.counted-data_bytes.ensures ∙ ap (λ b. counted b old.data_bytes) c.is_data_byte.ensures);
      unacknowledged = counted-more is_unacknowledged rs r old.unacknowledged c.counted-unacknowledged.result few h.unacknowledged (c.counted-unacknowledged.ensures ∙ ap (λ b. counted b old.unacknowledged) c.is_unacknowledged.ensures);
      incomplete = counted-more is_incomplete rs r old.incomplete c.counted-incomplete.result few h.incomplete (c.counted-incomplete.ensures ∙ ap (λ b. counted b old.incomplete) c.is_incomplete.ensures);
    }
