use Rattle.std.proofs.Common.{◌≡◌, false, refl, rules, sym, true, ◌∙◌}
use Rattle.std.specs.Prelude.{is_some}
use Rattle.pr_recording.proofs.Taping.{ends_at_stop, ends_whole, not_some}
use Rattle.pr_recording.proofs.tape.Tape.finish.Goals as goal

pub returns-then-is_some : goal.returns-then-is_some
returns-then-is_some g c =
    let some : is_some c.stop_at-stop.result ≡ true = search rules in
    ends_at_stop g.T.Takes.takes c.readings_add_up.ensures.given c.args.self c.args.own c.stop_at-stop.result c.args.taker.now _ (g.met.T.Takes.takes_none c.args.taker.now) c.stop_at-stop.ensures some refl

pub returns : goal.returns
returns g c =
    let none : is_some c.stop_at-stop.result ≡ false = search rules in
    ends_whole g.T.Takes.takes c.args.self c.args.own c.in_ok-has_byte.has_byte c.args.taker.now c.finish.new.taker _ (sym c.stop_at-stop.ensures ∙ not_some c.stop_at-stop.result none) refl
    c.in_ok-has_byte.ensures c.oddities-odd-2.ensures
