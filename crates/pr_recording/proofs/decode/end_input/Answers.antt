use Rattle.pr_recording.specs.Narrated.{EndsEdges, EndsNarrated, HasNarrated, NarratesMore}
use Rattle.pr_recording.proofs.Noting.{if_ok, reading_ends}
use Rattle.pr_recording.proofs.decode.end_input.Goals as goal

pub returns : goal.returns
returns c =
    let takes : NarratesMore c.in_ok-last.last.edges.items c.args.report c.take_all.new.self = rw c.as_slice.ensures.value at c.in_ok-take_all.ensures.narrated in
    if_ok c.finish-2.result _ (λ ended. EndsNarrated c.args.trace c.args.is_checked c.args.reader c.args.report ended) c.finish-2.ensures
    (λ ended ends w written. reading_ends c.args.reader c.in_ok-last.last (λ edges. HasNarrated c.args.trace.source w edges written c.args.report) (λ edges own. EndsEdges c.args.trace w c.args.is_checked edges written own ended) c.in_ok-last.ensures.ends
    (λ given h. ends w _ written (takes c.args.trace.source w given written h)))
