use Rattle.std.proofs.Common.{◌≡◌, ◌≤◌, ap, ◌∙◌, arith, refl, length, ◌-◌, ◌+◌}
use Rattle.pr_basic.specs.Limits.{statement_limit}
use Rattle.pr_basic.specs.ReadingScripts.{lines_statements}
use Rattle.pr_basic.specs.Reads.{with_front}
use Rattle.pr_basic.proofs.ScriptLaws.{line_taken, script_ends, script_fails, start_moved}
use Rattle.pr_basic.proofs.ScriptsAgree.{script_sound}
use Rattle.pr_basic.proofs.ReadScript.{one_list, only_memory, refused}
use Rattle.pr_basic.proofs.script.read_script_at.Goals as goal

pub loop-rest-preserved : goal.loop-rest-preserved
loop-rest-preserved c =
    let start = length c.args.bytes.now - length c.loop-rest.rest.now in
    let within : length c.loop-rest.rest.now ≤ length c.args.bytes.now = omega (arith, c.loop-rest.invariant.count) in
    record {
      read =
          c.loop-rest.invariant.read
          ∙ (ap (λ ls. with_front c.loop-rest.statements.items (lines_statements (c.loop-rest.number + 1) start (statement_limit - length c.loop-rest.statements.items) ls)) c.cut_line.ensures.lines
          ∙ (line_taken _ _ _ start _ _ c.in_default.ensures.reads
          ∙ ap (with_front c.read_line.new.statements.items) (start_moved _ start _ _ c.cut_line.result.0.now c.loop-rest.rest.now c.cut_line.result.1.now within refl c.cut_line.ensures.size)));
      few = c.in_default.ensures.few;
      count = omega (arith, c.loop-rest.invariant.count, c.cut_line.ensures.less);
    }

pub returns-in-Err-clause-refused : goal.returns-in-Err-clause-refused
returns-in-Err-clause-refused c =
    rw c.at.ensures (refused _ _ _ _ (script_fails _ _ _ _ _ _ _ _ _ _ c.loop-rest.invariant.read c.cut_line.ensures.lines c.in-Err.ensures.reads))

pub returns-in-Err-clause-complete : goal.returns-in-Err-clause-complete
returns-in-Err-clause-complete c ss h =
    rw c.at.ensures (only_memory _ _ _ _ ss (script_fails _ _ _ _ _ _ _ _ _ _ c.loop-rest.invariant.read c.cut_line.ensures.lines c.in-Err.ensures.reads) h)

pub returns-clause-read : goal.returns-clause-read
returns-clause-read c = script_sound _ _ (c.loop-rest.invariant.read ∙ script_ends _ _ _ _ _ (grind arith))

pub returns-clause-complete : goal.returns-clause-complete
returns-clause-complete c ss h =
    let empty : length c.loop-rest.rest.now ≡ 0 = grind arith in
    one_list c.args.bytes.now c.loop-rest.statements.items ss (script_sound _ _ (c.loop-rest.invariant.read ∙ script_ends _ _ _ _ _ empty)) h
