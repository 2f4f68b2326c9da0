use Rattle.std.proofs.Common.{◌≡◌, ℕ, ◌+◌, ◌-◌, arith, length, length-drop, refl, subst}
use Rattle.std.proofs.lemmas.List.{take_rest}
use Rattle.pr_recording.proofs.Taping.{reads_front, reads_no_more, reads_none}
use Rattle.pr_recording.proofs.tape.Head.read_all.Goals as goal

pub loop-len-init : goal.loop-len-init
loop-len-init g c = record {
  read = reads_none g.T.Takes.takes _ _ _ (g.met.T.Takes.takes_none c.args.taker.now) refl;
  within = omega arith;
  room = λ n h. let P : ℕ → Type 0 = λ k. g.T.Takes.may_take k c.args.taker.now in let same : 0 + n ≡ n = omega arith in subst P same h;
}

pub read_front-requires-clause-room : goal.read_front-requires-clause-room
read_front-requires-clause-room g c =
    let len = c.loop-len.len in
    let all = length c.args.edges.now in
    let P : ℕ → Type 0 = λ n. g.T.Takes.may_take n c.args.taker.now in
    let Q : ℕ → Type 0 = λ n. g.T.Takes.may_take n c.loop-len.taker in
    let whole : all ≡ len + (all - len) = omega (arith, c.loop-len.invariant.within) in
    let one : all - len ≡ (all - len - 1) + 1 = omega (arith, c.loop-len-test.true) in
    g.met.T.Takes.takes_fewer (all - len - 1) 1 c.loop-len.taker (subst Q one (c.loop-len.invariant.room (all - len) (subst P whole c.requires.room)))

pub loop-len-preserved : goal.loop-len-preserved
loop-len-preserved g c =
    let inv = c.loop-len.invariant in
    let more = c.in_ok-more.more in
    let front = rw take_rest at c.in_ok-more.ensures.read in
    let within = rw take_rest at c.in_ok-more.ensures.within in
    let P : ℕ → Type 0 = λ n. g.T.Takes.may_take n c.args.taker.now in
    record {
      read = reads_front g.T.Takes.takes g.met.T.Takes.takes_both c.loop-len.len more c.args.edges.now _ _ _ _ _ _ inv.read front;
      within = omega (arith, within, length-drop c.loop-len.len c.args.edges.now, c.loop-len-test.true);
      room = λ n h.
          let both : (c.loop-len.len + more) + n ≡ c.loop-len.len + (more + n) = omega arith in
          c.in_ok-more.ensures.room n (inv.room (more + n) (subst P both h));
    }

pub returns-then-more-eq0-clause-read : goal.returns-then-more-eq0-clause-read
returns-then-more-eq0-clause-read g c =
    let front = rw take_rest at c.in_ok-more.ensures.read in
    reads_no_more g.T.Takes.takes g.met.T.Takes.takes_both c.loop-len.len c.in_ok-more.more c.args.edges.now _ _ _ _ _ _ c.if-more-eq0.true c.loop-len.invariant.read front

pub returns-then-more-eq0-clause-back : goal.returns-then-more-eq0-clause-back
returns-then-more-eq0-clause-back g c = λ _. let back = rw take_rest at c.in_ok-more.ensures.back in back c.if-more-eq0.true

pub returns-clause-back : goal.returns-clause-back
returns-clause-back g c = λ less. absurd (omega (arith, less, c.loop-len-test.false))
