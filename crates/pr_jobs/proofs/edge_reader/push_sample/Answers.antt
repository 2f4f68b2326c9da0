use Rattle.std.proofs.Common.{◌≡◌, ◌++◌, ◌∷◌, [], None, Some, ap, ◌∙◌}
use Rattle.pr_jobs.specs.InputReads.{MakesMore}
use Rattle.pr_jobs.proofs.InputLemmas.{adds_edge, adds_no_edge}
use Rattle.pr_jobs.proofs.edge_reader.push_sample.Goals as goal

pub returns-in_ok-reserve-clause-known : goal.returns-in_ok-reserve-clause-known
returns-in_ok-reserve-clause-known c =
    let edge = c.in-Some-known.edge in
    let makes : MakesMore c.in-Some.sample c.args.maker.now (Some edge) c.take.new.self = rw c.in-Some-known.is at c.in_ok-known.ensures in
    let items : c.push_reserved.new.self.items ≡ c.args.edges.now.items ++ edge ∷ [] = c.push_reserved.ensures.items ∙ ap (λ l. l ++ edge ∷ []) c.reserve.ensures.items in
    adds_edge c.args.sample c.in-Some.sample edge c.args.edges.now.items _ c.args.maker.now c.take.new.self c.in-Some.is makes items

pub returns-in_default-known-clause-known : goal.returns-in_default-known-clause-known
returns-in_default-known-clause-known c =
    let makes : MakesMore c.in-Some.sample c.args.maker.now None c.take.new.self = rw c.in_default-known.is at c.in_ok-known.ensures in
    adds_no_edge c.args.sample c.in-Some.sample c.args.edges.now.items c.args.maker.now c.take.new.self c.in-Some.is makes
