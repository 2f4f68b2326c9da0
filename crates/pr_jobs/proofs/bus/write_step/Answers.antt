use Rattle.pr_system.specs.RunningState.{stepped_by, trace_so_far}
use Rattle.pr_jobs.specs.Traced.{edges_in, format_of, last_of, text_so_far}
use Rattle.pr_jobs.proofs.TraceSteps.{added_edges, front_more, front_longer, whole_front, memory_front, fault_front, joined, one_grows, so_far_more}
use Rattle.pr_jobs.proofs.bus.write_step.Goals as goal

pub returns-in_err-stop-clause-edges : goal.returns-in_err-stop-clause-edges
returns-in_err-stop-clause-edges g c = λ f start w h.
    let run = c.args.running.now in
    let next = stepped_by run c.args.statement.now in
    let grown = one_grows c.steps_make_the_run.ensures.grow run c.args.statement.now c.requires.sent in
    let now = g.W.Write.contents c.args.output.now.inner in
    memory_front c.from_residual.result (text_so_far f (trace_so_far next)) start now c.from_residual.ensures.1
    (front_longer start now (text_so_far f (trace_so_far run)) _ (text_so_far f (trace_so_far next)) (so_far_more c.vcd_adds_up.ensures f (trace_so_far run) grown.0 (trace_so_far next) grown.1) (whole_front start now _ h))

pub returns-in_err-write_edges-clause-edges : goal.returns-in_err-write_edges-clause-edges
returns-in_err-write_edges-clause-edges g c = λ f start w h.
    let run = c.args.running.now in
    let next = stepped_by run c.args.statement.now in
    let edges = c.edges.result.now in
    let old = g.W.Write.contents c.args.output.now.inner in
    let new = g.W.Write.contents c.write_edges.new.output.inner in
    let text = edges_in (format_of c.args.writer.now) (last_of c.args.writer.now) edges in
    fault_front c.in_err-write_edges.field-0.0 c.from_residual-in_err-write_edges.result text (text_so_far f (trace_so_far next)) start old new c.from_residual-in_err-write_edges.ensures.1 c.in_err-write_edges.ensures.text
    (λ k. front_more start old new (text_so_far f (trace_so_far run)) text (text_so_far f (trace_so_far next))
    (added_edges c.vcd_adds_up.ensures f c.args.writer.now (trace_so_far run) edges (trace_so_far next)
    (joined c.steps_make_the_run.ensures.edges run c.step.new.self c.args.statement.now edges c.requires.sent c.in_ok-stop.ensures.ok c.edges.ensures.edges) w) h k)
