use Rattle.pr_bus.proofs.TimedLawful.{timed-spells}
use Rattle.pr_bus.proofs.laws.timed_traces_spell.Goals as goal

pub returns : goal.returns
returns c = timed-spells c.items_make_listeners.ensures
