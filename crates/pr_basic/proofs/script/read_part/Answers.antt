use Rattle.std.proofs.Common.{rules, ap, ◌∙◌, sym, ◌++◌, ◌∷◌, [], ◌-◌, length, ◌≡◌, Ok}
use Rattle.std.proofs.lemmas.Result.{err_from_is_err_and}
use Rattle.pr_basic.specs.Grammar.{parts}
use Rattle.pr_basic.specs.Lexemes.{Colon}
use Rattle.pr_basic.specs.Lexing.{here}
use Rattle.pr_basic.specs.Limits.{statement_limit}
use Rattle.pr_basic.specs.ReadingScripts.{behind, counted, statements_in}
use Rattle.pr_basic.specs.Reads.{with_front}
use Rattle.pr_basic.proofs.ScriptLaws.{few_kept, left_on, part_fails, part_taken, still_is}
use Rattle.pr_basic.proofs.script.read_part.Goals as goal

pub returns-in_err-statement-clause-reads : goal.returns-in_err-statement-clause-reads
returns-in_err-statement-clause-reads c =
    let n : c.len.result ≡ length c.args.statements.now.items = search rules in
    let p = err_from_is_err_and c.from_residual.result c.from_residual.ensures.1 in
    rw (p.1, p.2) (part_fails _ _ _ _ _ c.in_err-statement.ensures.on (rw n at c.in_err-statement.ensures.reads))

pub returns-clause-reads : goal.returns-clause-reads
returns-clause-reads c =
    let n : c.len.result ≡ length c.args.statements.now.items = search rules in
    let said : counted (statement_limit - length c.args.statements.now.items) (here c.args.bytes.now) ≡ Ok c.in_ok-statement.statement = rw n at c.in_ok-statement.ensures.reads.0 in
    part_taken _ _ _ _ said c.in_default.ensures.kept
    ∙ (ap (λ ls. with_front c.keep.new.statements.items (behind (here c.args.bytes.now ++ Colon ∷ []) (statements_in (statement_limit - length c.keep.new.statements.items) (parts ls)))) (sym c.in_ok-statement.ensures.reads.1)
    ∙ ap (λ r. with_front c.keep.new.statements.items (behind (here c.args.bytes.now ++ Colon ∷ []) r)) (still_is _ _ _ c.after_colon.ensures.later))

pub returns-clause-few : goal.returns-clause-few
returns-clause-few c =
    let n : c.len.result ≡ length c.args.statements.now.items = search rules in
    let said : counted (statement_limit - length c.args.statements.now.items) (here c.args.bytes.now) ≡ Ok c.in_ok-statement.statement = rw n at c.in_ok-statement.ensures.reads.0 in
    few_kept _ _ _ _ c.requires said c.in_default.ensures.kept

pub returns-clause-left : goal.returns-clause-left
returns-clause-left c = left_on _ _ _ c.in_ok-statement.ensures.on c.after_colon.ensures.rest
