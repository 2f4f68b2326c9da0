use Rattle.std.proofs.Common.{◌≡◌, ℕ, ◌+◌, ◌-◌, arith, false, length, refl, rules, subst, true}
use Rattle.std.specs.Prelude.{is_some}
use Rattle.pr_recording.specs.declared.tape.Tape.{Tape}
use Rattle.pr_recording.proofs.Taping.{not_some, tapes_all, tapes_back, tapes_stopped}
use Rattle.pr_recording.proofs.tape.Tape.take_all.Goals as goal

pub returns-then-is_some-clause-taped : goal.returns-then-is_some-clause-taped
returns-then-is_some-clause-taped g c =
    let some : is_some c.args.self.now.back ≡ true = search rules in
    tapes_stopped g.T.Takes.takes c.args.self.now c.args.taker.now c.args.edges.now (g.met.T.Takes.takes_none c.args.taker.now) some

pub returns-then-len-edges-clause-taped : goal.returns-then-len-edges-clause-taped
returns-then-len-edges-clause-taped g c =
    let none : is_some c.args.self.now.back ≡ false = search rules in
    let still = not_some c.args.self.now.back none in
    tapes_all g.T.Takes.takes c.args.self.now _ _ _ c.in_ok-len.len c.args.edges.now (omega (arith, c.if-len-edges.true)) still still c.in_ok-len.ensures.read c.take_all.ensures refl

pub returns-clause-taped : goal.returns-clause-taped
returns-clause-taped g c =
    let none : is_some c.args.self.now.back ≡ false = search rules in
    let old = c.args.self.now in
    let still = not_some old.back none in
    let n = c.in_ok-len.len in
    let mid : Tape = record { head = c.read_all.new.self; lines = c.take_all.new.self; taken = old.taken + n; back = old.back } in
    tapes_back g.T.Takes.takes old mid _ _ _ n c.args.edges.now c.in_ok-len.ensures.within still still c.in_ok-len.ensures.read c.take_all.ensures refl
    (c.in_ok-len.ensures.back (omega (arith, c.in_ok-len.ensures.within, c.if-len-edges.false))) refl

pub returns-clause-room : goal.returns-clause-room
returns-clause-room g c = λ n h.
    let all = length c.args.edges.now in
    let len = c.in_ok-len.len in
    let P : ℕ → Type 0 = λ k. g.T.Takes.may_take k c.args.taker.now in
    let whole : all + n ≡ (all - len) + (len + n) = omega (arith, c.in_ok-len.ensures.within) in
    c.in_ok-len.ensures.room n (g.met.T.Takes.takes_fewer (all - len) (len + n) c.args.taker.now (subst P whole h))
