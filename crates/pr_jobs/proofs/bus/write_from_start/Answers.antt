use Rattle.std.proofs.Common.{◌∙◌, None}
use Rattle.pr_system.specs.RunningState.{trace_so_far}
use Rattle.pr_system.specs.StepByStep.{stepped_through}
use Rattle.pr_jobs.specs.Bus.{trace_in}
use Rattle.pr_jobs.specs.Traced.{edges_in, end_in, format_of, last_in, last_of, text_so_far}
use Rattle.pr_jobs.proofs.TraceSteps.{appends_more, begun_text, ended_text, fault_front, first_edges, first_written, front_longer, front_more, front_of_whole, head_front, memory_front, no_ending, none_front, whole_front, whole_text}
use Rattle.pr_jobs.proofs.bus.write_from_start.Goals as goal

pub returns-in_err-trace_head-clause-trace : goal.returns-in_err-trace_head-clause-trace
returns-in_err-trace_head-clause-trace g c =
    let f = c.args.format in
    let all = trace_so_far (stepped_through c.args.running.now c.args.statements.now) in
    let old = g.W.Write.contents c.args.output.now.inner in
    record {
      text = memory_front c.from_residual.result (trace_in f all) old old c.from_residual.ensures.1 (none_front old _);
      ending = no_ending c.from_residual.result _ _ c.from_residual.ensures.1;
    }

pub returns-in_err-write_some-clause-trace : goal.returns-in_err-write_some-clause-trace
returns-in_err-write_some-clause-trace g c =
    let f = c.args.format in
    let all = trace_so_far (stepped_through c.args.running.now c.args.statements.now) in
    let old = g.W.Write.contents c.args.output.now.inner in
    let after_head = g.W.Write.contents c.write_some.new.output.inner in
    let head = c.deref.result.now in
    let head_is = c.deref.ensures.value ∙ c.in_ok-trace_head.ensures in
    record {
      text = fault_front c.in_err-write_some.field-0.0 c.from_residual-in_err-write_some.result head (trace_in f all) old old after_head c.from_residual-in_err-write_some.ensures.1 c.in_err-write_some.ensures.text (head_front f all old after_head head head_is);
      ending = no_ending c.from_residual-in_err-write_some.result _ _ c.from_residual-in_err-write_some.ensures.1;
    }

pub returns-in_err-write_edges-clause-trace : goal.returns-in_err-write_edges-clause-trace
returns-in_err-write_edges-clause-trace g c =
    let f = c.args.format in
    let all = trace_so_far (stepped_through c.args.running.now c.args.statements.now) in
    let old = g.W.Write.contents c.args.output.now.inner in
    let after_head = g.W.Write.contents c.write_some.new.output.inner in
    let head = c.deref.result.now in
    let head_is = c.deref.ensures.value ∙ c.in_ok-trace_head.ensures in
    let adds = c.vcd_adds_up.ensures in
    let run = c.args.running.now in
    let first = trace_so_far run in
    let edges = c.edges.result.now in
    let same = first_edges run edges c.requires.none c.edges.ensures.edges in
    let writer = c.new-writer.result in
    let begun = c.new-writer.ensures in
    let text = edges_in (format_of writer) (last_of writer) edges in
    let after_edges = g.W.Write.contents c.write_edges.new.output.inner in
    let is = begun_text f writer edges first head same head_is begun.format begun.last in
    let grown = c.steps_make_the_run.ensures.grow run c.args.statements.now c.requires.sent in
    record {
      text = fault_front c.in_err-write_edges.field-0.0 c.from_residual-in_err-write_edges.result text (trace_in f all) old after_head after_edges c.from_residual-in_err-write_edges.ensures.1 c.in_err-write_edges.ensures.text
          (λ k. front_of_whole adds f first grown.0 all old after_edges grown.1 (front_more old after_head after_edges head text (text_so_far f first) is c.in_ok-write_some.ensures.text k));
      ending = no_ending c.from_residual-in_err-write_edges.result _ _ c.from_residual-in_err-write_edges.ensures.1;
    }

pub returns-in_err-ending-clause-trace : goal.returns-in_err-ending-clause-trace
returns-in_err-ending-clause-trace g c =
    let f = c.args.format in
    let all = trace_so_far (stepped_through c.args.running.now c.args.statements.now) in
    let old = g.W.Write.contents c.args.output.now.inner in
    let first = first_written c.vcd_adds_up.ensures f c.new-writer.result c.write_edges.new.writer c.edges.result.now (trace_so_far c.args.running.now) c.deref.result.now old (g.W.Write.contents c.write_some.new.output.inner)
    (g.W.Write.contents c.write_edges.new.output.inner) (first_edges c.args.running.now c.edges.result.now c.requires.none c.edges.ensures.edges) (c.deref.ensures.value ∙ c.in_ok-trace_head.ensures) c.new-writer.ensures.format
    c.new-writer.ensures.last c.in_ok-write_some.ensures.text c.in_ok-write_edges.ensures.text c.in_ok-write_edges.ensures.format c.in_ok-write_edges.ensures.last in
    let after_steps = g.W.Write.contents c.write_steps.new.output.inner in
    let end = end_in f (last_in f None all) in
    record {
      text = fault_front c.in_err-ending.field-0.0 c.from_residual-in_err-ending.result (text_so_far f all) (trace_in f all) old old after_steps c.from_residual-in_err-ending.ensures.1 (c.in_err-ending.ensures.edges f old first.0 first.1)
          (front_longer old after_steps (text_so_far f all) end (trace_in f all) (whole_text f all));
      ending = no_ending c.from_residual-in_err-ending.result _ _ c.from_residual-in_err-ending.ensures.1;
    }

pub returns-in_err-end-clause-trace : goal.returns-in_err-end-clause-trace
returns-in_err-end-clause-trace g c =
    let f = c.args.format in
    let all = trace_so_far (stepped_through c.args.running.now c.args.statements.now) in
    let old = g.W.Write.contents c.args.output.now.inner in
    let first = first_written c.vcd_adds_up.ensures f c.new-writer.result c.write_edges.new.writer c.edges.result.now (trace_so_far c.args.running.now) c.deref.result.now old (g.W.Write.contents c.write_some.new.output.inner)
    (g.W.Write.contents c.write_edges.new.output.inner) (first_edges c.args.running.now c.edges.result.now c.requires.none c.edges.ensures.edges) (c.deref.ensures.value ∙ c.in_ok-trace_head.ensures) c.new-writer.ensures.format
    c.new-writer.ensures.last c.in_ok-write_some.ensures.text c.in_ok-write_edges.ensures.text c.in_ok-write_edges.ensures.format c.in_ok-write_edges.ensures.last in
    let after_steps = g.W.Write.contents c.write_steps.new.output.inner in
    let end = end_in f (last_in f None all) in
    record {
      text = memory_front c.from_residual-in_err-end.result (trace_in f all) old after_steps c.from_residual-in_err-end.ensures.1
          (front_longer old after_steps (text_so_far f all) end (trace_in f all) (whole_text f all) (whole_front old after_steps _ (c.in_ok-ending.ensures.edges f old first.0 first.1)));
      ending = no_ending c.from_residual-in_err-end.result _ _ c.from_residual-in_err-end.ensures.1;
    }

pub returns-in_err-write_some-2-clause-trace : goal.returns-in_err-write_some-2-clause-trace
returns-in_err-write_some-2-clause-trace g c =
    let f = c.args.format in
    let all = trace_so_far (stepped_through c.args.running.now c.args.statements.now) in
    let old = g.W.Write.contents c.args.output.now.inner in
    let first = first_written c.vcd_adds_up.ensures f c.new-writer.result c.write_edges.new.writer c.edges.result.now (trace_so_far c.args.running.now) c.deref.result.now old (g.W.Write.contents c.write_some.new.output.inner)
    (g.W.Write.contents c.write_edges.new.output.inner) (first_edges c.args.running.now c.edges.result.now c.requires.none c.edges.ensures.edges) (c.deref.ensures.value ∙ c.in_ok-trace_head.ensures) c.new-writer.ensures.format
    c.new-writer.ensures.last c.in_ok-write_some.ensures.text c.in_ok-write_edges.ensures.text c.in_ok-write_edges.ensures.format c.in_ok-write_edges.ensures.last in
    let after_steps = g.W.Write.contents c.write_steps.new.output.inner in
    let told = c.in_ok-ending.ensures.edges f old first.0 first.1 in
    let ended = ended_text f c.write_steps.new.writer all c.deref-2.result.now (c.in_ok-ending.ensures.written f first.0) (c.deref-2.ensures.value ∙ c.in_ok-end.ensures) in
    let new = g.W.Write.contents c.write_some-2.new.output.inner in
    record {
      text = fault_front c.in_err-write_some-2.field-0.0 c.from_residual-in_err-write_some-2.result c.deref-2.result.now (trace_in f all) old after_steps new c.from_residual-in_err-write_some-2.ensures.1 c.in_err-write_some-2.ensures.text
          (front_more old after_steps new (text_so_far f all) c.deref-2.result.now (trace_in f all) ended told);
      ending = no_ending c.from_residual-in_err-write_some-2.result _ _ c.from_residual-in_err-write_some-2.ensures.1;
    }

pub returns-clause-trace : goal.returns-clause-trace
returns-clause-trace g c =
    let f = c.args.format in
    let all = trace_so_far (stepped_through c.args.running.now c.args.statements.now) in
    let old = g.W.Write.contents c.args.output.now.inner in
    let first = first_written c.vcd_adds_up.ensures f c.new-writer.result c.write_edges.new.writer c.edges.result.now (trace_so_far c.args.running.now) c.deref.result.now old (g.W.Write.contents c.write_some.new.output.inner)
    (g.W.Write.contents c.write_edges.new.output.inner) (first_edges c.args.running.now c.edges.result.now c.requires.none c.edges.ensures.edges) (c.deref.ensures.value ∙ c.in_ok-trace_head.ensures) c.new-writer.ensures.format
    c.new-writer.ensures.last c.in_ok-write_some.ensures.text c.in_ok-write_edges.ensures.text c.in_ok-write_edges.ensures.format c.in_ok-write_edges.ensures.last in
    let after_steps = g.W.Write.contents c.write_steps.new.output.inner in
    let told = c.in_ok-ending.ensures.edges f old first.0 first.1 in
    let ended = ended_text f c.write_steps.new.writer all c.deref-2.result.now (c.in_ok-ending.ensures.written f first.0) (c.deref-2.ensures.value ∙ c.in_ok-end.ensures) in
    let new = g.W.Write.contents c.write_some-2.new.output.inner in
    record {
      text = appends_more old after_steps new (text_so_far f all) c.deref-2.result.now (trace_in f all) ended told c.in_ok-write_some-2.ensures.text;
      ending = c.in_ok-ending.ensures.ending;
    }
