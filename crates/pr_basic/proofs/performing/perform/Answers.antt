use Rattle.pr_basic.specs.Performing.{found_by}
use Rattle.pr_basic.proofs.EffectLemmas.{begun_working, performs_from, performs_in}
use Rattle.pr_basic.proofs.performing.perform.Goals as goal

pub returns-clause-ok : goal.returns-clause-ok
returns-clause-ok g c works =
    let old = c.args.channels.now in
    let mid = c.begin.new.channels in
    let found = found_by c.args.session.now.mode old.status in
    let working = begun_working old mid found c.begin.ensures.status c.begin.ensures.in_step works in
    performs_from old mid c.perform_begun.new.channels found c.in_ok-stop.channel c.args.session.now.channel c.in_ok-stop.stop c.args.statement.now c.begin.ensures.status (c.in_ok-stop.ensures.ok working)

pub returns-clause-in_run : goal.returns-clause-in_run
returns-clause-in_run g c works is =
    let mode = c.args.session.now.mode in
    performs_in c.stops_are_exact.ensures.effects c.args.channels.now c.perform_begun.new.channels mode (found_by mode c.args.channels.now.status) c.in_ok-stop.channel c.args.session.now.channel c.in_ok-stop.stop c.args.statement.now is
    (returns-clause-ok g c works)
