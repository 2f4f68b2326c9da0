use Rattle.pr_recording.proofs.Answering.{checked, own_checked, tells_without}
use Rattle.pr_recording.proofs.checked.check_json_over.Goals as goal

pub returns-clause-check : goal.returns-clause-check
returns-clause-check g c =
    rw c.without_odd.ensures (checked (g.R.Read.remaining c.args.input.now.inner) (g.W.Write.contents c.args.output.now.inner) (g.W.Write.contents c.tell_input.new.output.inner) c.args.trace c.tell_input.result c.tell_input.ensures.told)

pub returns-clause-at_end : goal.returns-clause-at_end
returns-clause-at_end g c = rw c.without_odd.ensures c.tell_input.ensures.at_end

pub returns-clause-does : goal.returns-clause-does
returns-clause-does g c =
    rw c.without_odd.ensures (own_checked c.tell_input.result c.tell_input.ensures.own, tells_without c.tell_input.new.input c.tell_input.new.output c.tell_input.result c.tell_input.ensures.does)
