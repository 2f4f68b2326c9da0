use Rattle.std.proofs.Common.{◌≡◌, ℕ, ◌+◌, ◌-◌, ap, arith, length, subst}
use Rattle.pr_jobs.specs.Inputs.{edges_read}
use Rattle.pr_recording.specs.Taped.{EndsInput, TapesMore}
use Rattle.pr_recording.proofs.Noting.{if_ok}
use Rattle.pr_recording.proofs.ReadInto.{ends_input}
use Rattle.pr_recording.proofs.blocks.end_input.Goals as goal

pub take_all-requires-clause-room : goal.take_all-requires-clause-room
take_all-requires-clause-room g c =
    let len = length c.as_slice.result.now in
    let all = length (edges_read c.args.reader) in
    let P : ℕ → Type 0 = λ n. g.T.Takes.may_take n c.args.taker.now in
    let fits : all + 19 ≡ (all + 19 - len) + len = omega (arith, c.in_ok-last.ensures.few, ap length c.as_slice.ensures.value) in
    g.met.T.Takes.takes_fewer (all + 19 - len) len c.args.taker.now (subst P fits c.requires.room)

pub finish-requires-2 : goal.finish-requires-2
finish-requires-2 g c =
    let len = length c.as_slice.result.now in
    let all = length (edges_read c.args.reader) in
    let P : ℕ → Type 0 = λ n. g.T.Takes.may_take n c.args.taker.now in
    let fits : all + 19 ≡ (all + 18 - len) + (len + 1) = omega (arith, c.in_ok-last.ensures.few, ap length c.as_slice.ensures.value) in
    record { room = c.in_ok-take_all.ensures.room 1 (g.met.T.Takes.takes_fewer (all + 18 - len) (len + 1) c.args.taker.now (subst P fits c.requires.room)) }

pub returns : goal.returns
returns g c =
    let takes = g.T.Takes.takes in
    let tapes : TapesMore takes c.in_ok-last.last.edges.items c.args.tape c.take_all.new.self c.args.taker.now c.take_all.new.taker = rw c.as_slice.ensures.value at c.in_ok-take_all.ensures.taped in
    if_ok c.finish-2.result _ (λ end. EndsInput takes c.args.reader c.args.tape c.args.taker.now c.finish-2.new.taker end) c.finish-2.ensures
    (λ end ends. ends_input takes g.met.T.Takes.takes_both c.args.reader c.in_ok-last.last c.args.tape c.take_all.new.self _ _ _ end c.in_ok-last.ensures.ends tapes ends)
