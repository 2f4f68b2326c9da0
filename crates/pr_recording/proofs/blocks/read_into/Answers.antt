use Rattle.std.proofs.Common.{◌≡◌, ℕ, ◌+◌, ◌-◌, ap, arith, false, length, refl, rules, subst, sym, true}
use Rattle.pr_jobs.specs.Inputs.{bytes_left, edges_read}
use Rattle.pr_jobs.specs.InputReads.{StopsWell}
use Rattle.pr_recording.specs.Taped.{HasTakenTo, TapesMore}
use Rattle.pr_recording.proofs.ReadInto.{reads_last, reads_none, taken_all, taken_before, taken_none, takes_more, takes_no_edge}
use Rattle.pr_recording.proofs.blocks.read_into.Goals as goal

pub pieces-init : goal.pieces-init
pieces-init g c =
    let takes = g.T.Takes.takes in
    let taker = c.args.taker.now in
    let P : ℕ → Type 0 = λ n. g.T.Takes.may_take (n + 19) taker in
    record {
      read = taken_none c.args.limit (g.R.Read.remaining c.args.input.now.inner) c.args.trace c.new-reader.result (HasTakenTo takes taker taker c.new-tape.result)
          (c.new-reader.ensures.read (g.R.Read.remaining c.args.input.now.inner)) c.new-reader.ensures.edges
          (takes_no_edge takes taker c.new-tape.result (g.met.T.Takes.takes_none taker) c.new-tape.ensures.taped);
      faultless = c.new-reader.ensures.open;
      lines = c.new-reader.ensures.lines;
      edges = omega (arith, c.new-tape.ensures.edges, c.new-reader.ensures.left);
      room = subst P (sym c.new-reader.ensures.left) c.requires.room;
      fresh = c.requires.fresh;
      block = search rules;
    }

pub returns-in_err-read_block-clause-read : goal.returns-in_err-read_block-clause-read
returns-in_err-read_block-clause-read g c =
    reads_none g.T.Takes.takes _ _ (g.R.Read.remaining c.pieces.input.inner) _ c.pieces.reader (HasTakenTo g.T.Takes.takes c.args.taker.now c.pieces.taker c.pieces.tape) _ _ c.from_residual.result c.in_err-read_block.field-0.0
    c.pieces.invariant.read c.from_residual.ensures.1 c.in_err-read_block.ensures.own (λ is. c.in_err-read_block.ensures.large (rw is refl))

pub returns-in_err-end_input-clause-read : goal.returns-in_err-end_input-clause-read
returns-in_err-end_input-clause-read g c =
    reads_none g.T.Takes.takes _ _ (g.R.Read.remaining c.pieces.input.inner) _ c.pieces.reader (HasTakenTo g.T.Takes.takes c.args.taker.now c.pieces.taker c.pieces.tape) _ _ c.from_residual-in_err-end_input.result _
    c.pieces.invariant.read c.from_residual-in_err-end_input.ensures.1 tt (λ is. absurd (cc))

pub returns-in_err-take_all-clause-read : goal.returns-in_err-take_all-clause-read
returns-in_err-take_all-clause-read g c =
    reads_none g.T.Takes.takes _ _ (g.R.Read.remaining c.pieces.input.inner) _ c.pieces.reader (HasTakenTo g.T.Takes.takes c.args.taker.now c.pieces.taker c.pieces.tape) _ _ c.from_residual-in_err-take_all.result _
    c.pieces.invariant.read c.from_residual-in_err-take_all.ensures.1 tt (λ is. absurd (cc))

pub end_input-requires-clause-room : goal.end_input-requires-clause-room
end_input-requires-clause-room g c =
    let len = length (edges_read c.read_block.new.self) in
    let left = bytes_left c.pieces.reader in
    let P : ℕ → Type 0 = λ n. g.T.Takes.may_take n c.pieces.taker in
    let fits : left + 19 ≡ (left - len) + (len + 19) = omega (arith, c.in_ok-read_block.ensures.few) in
    g.met.T.Takes.takes_fewer (left - len) (len + 19) c.pieces.taker (subst P fits c.pieces.invariant.room)

pub returns-then-not-branch : goal.returns-then-not-branch
returns-then-not-branch g c =
    let start = g.R.Read.remaining c.args.input.now.inner in
    let now = g.R.Read.remaining c.read_block.new.input.inner in
    let claim = HasTakenTo g.T.Takes.takes c.args.taker.now c.pieces.taker c.pieces.tape in
    let ended : c.in_ok-read_block.field-0 ≡ false = search rules in
    let stops : StopsWell false now c.read_block.new.self = rw ended at c.in_ok-read_block.ensures.stops in
    let before = taken_before c.args.limit start (g.R.Read.remaining c.pieces.input.inner) now c.args.trace c.pieces.reader c.read_block.new.self claim c.pieces.invariant.read c.in_ok-read_block.ensures.read in
    let last = reads_last g.T.Takes.takes c.args.limit start now c.args.trace c.read_block.new.self c.pieces.tape c.args.taker.now c.pieces.taker _ c.in_ok-end_input.field-0 before stops c.in_ok-end_input.ensures in
    record { read = last.read; at_end = last.at_end; stop = last.stop; own = tt; failed = search rules }

pub take_all-requires-clause-room : goal.take_all-requires-clause-room
take_all-requires-clause-room g c =
    let len = length c.edges.result.now in
    let left = bytes_left c.pieces.reader in
    let P : ℕ → Type 0 = λ n. g.T.Takes.may_take n c.pieces.taker in
    let fits : left + 19 ≡ (left + 19 - len) + len = omega (arith, c.in_ok-read_block.ensures.few, ap length c.edges.ensures) in
    g.met.T.Takes.takes_fewer (left + 19 - len) len c.pieces.taker (subst P fits c.pieces.invariant.room)

pub pieces-preserved : goal.pieces-preserved
pieces-preserved g c =
    let takes = g.T.Takes.takes in
    let start = g.R.Read.remaining c.args.input.now.inner in
    let now = g.R.Read.remaining c.read_block.new.input.inner in
    let claim = HasTakenTo takes c.args.taker.now c.pieces.taker c.pieces.tape in
    let after = HasTakenTo takes c.args.taker.now c.take_all.new.taker c.take_all.new.self in
    let going : c.in_ok-read_block.field-0 ≡ true = search rules in
    let stops : StopsWell true now c.read_block.new.self = rw going at c.in_ok-read_block.ensures.stops in
    let tapes : TapesMore takes (edges_read c.read_block.new.self) c.pieces.tape c.take_all.new.self c.pieces.taker c.take_all.new.taker = rw c.edges.ensures at c.in_ok-take_all.ensures.taped in
    let before = taken_before c.args.limit start (g.R.Read.remaining c.pieces.input.inner) now c.args.trace c.pieces.reader c.read_block.new.self claim c.pieces.invariant.read c.in_ok-read_block.ensures.read in
    let len = length c.edges.result.now in
    let left = bytes_left c.pieces.reader in
    let rest = bytes_left c.read_block.new.self in
    let P : ℕ → Type 0 = λ n. g.T.Takes.may_take n c.pieces.taker in
    let fits : left + 19 ≡ (left - (len + rest)) + (len + (rest + 19)) = omega (arith, c.in_ok-read_block.ensures.few, ap length c.edges.ensures) in
    record {
      read = taken_all c.args.limit start now c.args.trace c.read_block.new.self claim after before
          (takes_more takes g.met.T.Takes.takes_both c.args.taker.now c.pieces.taker c.take_all.new.taker c.pieces.tape c.take_all.new.self _ tapes);
      faultless = stops;
      lines = omega (arith, c.in_ok-read_block.ensures.lines, c.pieces.invariant.lines);
      edges = omega (arith, c.in_ok-take_all.ensures.edges, c.in_ok-read_block.ensures.few, c.pieces.invariant.edges, ap length c.edges.ensures);
      room = c.in_ok-take_all.ensures.room (rest + 19) (g.met.T.Takes.takes_fewer (left - (len + rest)) (len + (rest + 19)) c.pieces.taker (subst P fits c.pieces.invariant.room));
      fresh = search rules;
      block = omega (arith, c.in_ok-read_block.ensures.room, c.pieces.invariant.block);
    }
