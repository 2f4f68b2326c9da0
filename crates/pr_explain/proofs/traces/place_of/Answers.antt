use Rattle.pr_explain.proofs.EdgeLemmas.{place_cut, place_whole}
use Rattle.pr_explain.proofs.traces.place_of.Goals as goal

pub returns-in-None : goal.returns-in-None
returns-in-None c = λ edges h. place_whole edges c.args.fault c.place_in.result c.in-None.is (c.place_in.ensures edges h)

pub returns-in-Some : goal.returns-in-Some
returns-in-Some c = λ edges h.
    place_cut edges c.args.fault c.in-Some.fault c.own_line.result c.place_in-in-Some.result c.in-Some.is c.own_line.ensures (c.place_in-in-Some.ensures edges h)
