use Rattle.std.proofs.Common.{ap, is_some}
use Rattle.pr_basic.proofs.EffectLemmas.{print_to_gives}
use Rattle.pr_basic.proofs.PrintingLemmas.{laws_of}
use Rattle.pr_basic.proofs.performing.print_to.Goals as goal

pub returns-clause-ok : goal.returns-clause-ok
returns-clause-ok g c working channel =
    print_to_gives (laws_of c.elements_add_up.ensures.two_parts c.elements_add_up.ensures.none) _ c.args.channels.now c.command.new.channels c.clrchn.new.self _ working (c.in_ok-stop.ensures.ok working channel) c.in_default.is (c.in_ok-stop.ensures.bus (ap is_some c.in_default.is)) c.in_ok-clrchn.ensures.ok
