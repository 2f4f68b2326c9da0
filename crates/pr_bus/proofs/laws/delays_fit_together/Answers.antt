use Rattle.std.proofs.Common.{arith}
use Rattle.pr_wire.specs.declared.delay.Kind.TheVariants.{Bb, Aw, Ne, R, Cr, At, Ye, Ei, F, Dr}
use Rattle.pr_bus.proofs.laws.delays_fit_together.Goals as goal

pub returns-clause-eoi : goal.returns-clause-eoi
returns-clause-eoi c = λ computer printer i j.
    let law = c.delays_within_bounds.ensures in
    let a = law Ne computer i in let b = law Ye printer j in
    omega (arith, a.to, b.from)

pub returns-clause-acknowledged : goal.returns-clause-acknowledged
returns-clause-acknowledged c = λ computer printer i j.
    let law = c.delays_within_bounds.ensures in
    let f = law F printer j in let bb = law Bb computer i in let r = law R computer i in let aw = law Aw computer i in
    (omega (arith, f.to, bb.from), omega (arith, f.to, r.from), omega (arith, f.to, aw.from))

pub returns-clause-released : goal.returns-clause-released
returns-clause-released c = λ computer printer i j.
    let law = c.delays_within_bounds.ensures in
    let dr = law Dr printer j in let bb = law Bb computer i in let cr = law Cr computer i in
    (omega (arith, dr.to, bb.from), omega (arith, dr.to, cr.from))

pub returns-clause-overlap : goal.returns-clause-overlap
returns-clause-overlap c = λ one other i j k.
    let law = c.delays_within_bounds.ensures in
    let a = law Ye one i in let b = law Ye other j in let e = law Ei other k in
    omega (arith, a.to, b.from, e.from)

pub returns-clause-look : goal.returns-clause-look
returns-clause-look c = λ computer printer i j.
    let law = c.delays_within_bounds.ensures in
    let at = law At printer j in let aw = law Aw computer i in
    omega (arith, at.to, aw.from)
