use Rattle.pr_explain.proofs.OddLemmas.{lines_none, lines_told}
use Rattle.pr_explain.proofs.oddities.odd_lines.Goals as goal

pub returns-in-Some : goal.returns-in-Some
returns-in-Some c = lines_none c.args.input c.args.edges.now c.args.own c.place_read.result _ _ c.in-Some.is c.place_read.ensures search

pub returns-in_ok-push_oddities-in-None : goal.returns-in_ok-push_oddities-in-None
returns-in_ok-push_oddities-in-None c = lines_told c.args.input c.args.edges.now c.args.own c.place_read.result c.oddities_of.result _ _ c.in-None.is c.place_read.ensures c.oddities_of.ensures c.new-text.ensures.items c.in_ok-push_oddities-in-None.ensures
