use Rattle.std.proofs.Common.{subst, sym}
use Rattle.pr_basic.specs.LineAt.{IsLineAt}
use Rattle.pr_explain.proofs.ScriptLemmas.{numbered_none, numbered_place}
use Rattle.pr_explain.proofs.scripts.explain_numbered.Goals as goal

pub returns-in-Ok-clause-place : goal.returns-in-Ok-clause-place
returns-in-Ok-clause-place c = numbered_none c.args.script.now c.args.number (_, c.in-Ok.ensures.read)

pub returns-clause-place : goal.returns-clause-place
returns-clause-place c = numbered_place c.args.script.now c.place_in-own.result c.numbered-place.result c.args.number
    (record {
      fault = c.in-Err.refused.fault;
      place = c.in-Err.refused.place;
      start = c.line_of-line.result.start;
      line = c.line_of-line.result.bytes.now;
      is_first = c.line_of-line.ensures.first;
      is_line =
          subst (λ number. IsLineAt c.args.script.now c.in-Err.refused.place c.line_of-line.result.start c.line_of-line.result.bytes.now number) (sym c.place_in-own.ensures.line)
          c.line_of-line.ensures.line;
      column = c.place_in-own.ensures.column;
      labelled = c.place_in-own.ensures.label;
    })
    c.numbered-place.ensures
