use Rattle.std.proofs.Common.{None, sym, ◌∙◌}
use Rattle.pr_channels.specs.Files.{file_at}
use Rattle.pr_basic.proofs.EffectLemmas.{chkout_working, commanded}
use Rattle.pr_basic.proofs.PrintingLemmas.{laws_of}
use Rattle.pr_basic.proofs.performing.command.Goals as goal

pub returns-in_ok-print_line-in-Ok-clause-ok : goal.returns-in_ok-print_line-in-Ok-clause-ok
returns-in_ok-print_line-in-Ok-clause-ok g c working channel =
    let old = c.args.channels.now in
    let file = file_at old.files c.args.file in
    let gives = c.in-Ok.ensures.ok in
    let printed = c.in_ok-print_line-in-Ok.ensures.ok (chkout_working file old c.chkout.new.self None working gives) in
    let done = commanded (laws_of c.elements_add_up.ensures.two_parts c.elements_add_up.ensures.none) file old c.chkout.new.self channel c.args.file c.args.line.now working gives c.in-Ok.ensures.bus in
    record { stop = sym done.goes_on; channels = printed ∙ done.gives }
