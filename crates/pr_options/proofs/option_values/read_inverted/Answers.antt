use Rattle.std.proofs.Common.{◌≡◌, ◌<◌, ◌+◌, ◌++◌, ◌∷◌, [], ◌∙◌, sym, arith, length, drop, lit<, List, ℕ}
use Rattle.std.specs.Prelude.{◌==◌, false}
use Rattle.std.specs.List.{slice_split}
use Rattle.std.proofs.lemmas.Bool.{eqb-false}
use Rattle.std.proofs.lemmas.Iterator.Consumers.{YieldsList-turn, YieldsList-end}
use Rattle.std.proofs.lemmas.Iterator.Splits.{YieldsList-from_str_split}
use Rattle.std.proofs.lemmas.List.{length_push}
use Rattle.pr_options.specs.Options.{with_line}
use Rattle.pr_options.proofs.DelayLemmas.{cut_at}
use Rattle.pr_options.proofs.LineLemmas.{lines_bad, lines_kept, lines_of_text, lines_read}
use Rattle.pr_options.proofs.option_values.read_inverted.Goals as goal

pub loop-name-preserved : goal.loop-name-preserved
loop-name-preserved c =
    let words : List (List ℕ) = slice_split (λ x. x == 44) c.args.text.now in
    let n = length c.loop-name.yielded in
    let t = YieldsList-turn (YieldsList-from_str_split 44 c.args.text.now (lit< tt) (cc) (cc) (cc)) c.loop-name.yielded _ c.loop-name.yielded_by _ _ c.in-Some.name c.in-Some.is c.next.ensures.steps in
    let w = c.in-Some.name.now in
    let more : length (c.loop-name.yielded ++ c.in-Some.name ∷ []) ≡ n + 1 = length_push c.loop-name.yielded c.in-Some.name in
    record {
      can = tt;
      finite = tt;
      lines = rw more (lines_kept c.loop-name.probes c.in-Some-with_line.more (drop n words) (drop (n + 1) words) w _ (cut_at words n w t.0 t.1) (sym c.with_line.ensures ∙ c.in-Some-with_line.is) c.loop-name.invariant.lines);
    }

pub returns-in_default : goal.returns-in_default
returns-in_default c =
    let words : List (List ℕ) = slice_split (λ x. x == 44) c.args.text.now in
    let n = length c.loop-name.yielded in
    let t = YieldsList-turn (YieldsList-from_str_split 44 c.args.text.now (lit< tt) (cc) (cc) (cc)) c.loop-name.yielded _ c.loop-name.yielded_by _ _ c.in-Some.name c.in-Some.is c.next.ensures.steps in
    let w = c.in-Some.name.now in
    let some : 0 < length c.args.text.now = omega (arith, eqb-false (length c.args.text.now) 0 (sym c.is_empty.ensures ∙ c.if-is_empty.false)) in
    lines_bad c.loop-name.probes (drop n words) (drop (n + 1) words) w _ (cut_at words n w t.0 t.1) (sym c.with_line.ensures ∙ c.in_default.is) c.loop-name.invariant.lines
    ∙ lines_of_text c.args.text.now some

pub returns : goal.returns
returns c =
    let words : List (List ℕ) = slice_split (λ x. x == 44) c.args.text.now in
    let t = YieldsList-end (YieldsList-from_str_split 44 c.args.text.now (lit< tt) (cc) (cc) (cc)) c.loop-name.yielded _ c.loop-name.yielded_by _ _ c.in-None.is c.next.ensures.steps in
    let some : 0 < length c.args.text.now = omega (arith, eqb-false (length c.args.text.now) 0 (sym c.is_empty.ensures ∙ c.if-is_empty.false)) in
    lines_read c.loop-name.probes (length c.loop-name.yielded) words _ t.1 c.loop-name.invariant.lines ∙ lines_of_text c.args.text.now some
