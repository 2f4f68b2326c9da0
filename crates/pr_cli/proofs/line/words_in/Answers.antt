use Rattle.std.proofs.Common.{◌≡◌, ◌+◌, ◌++◌, ◌∷◌, [], ◌∙◌, ap, sym, arith, length, lit<, append-nil}
use Rattle.std.specs.Prelude.{map}
use Rattle.std.proofs.lemmas.Iterator.Consumers.{YieldsList-turn, YieldsList-end}
use Rattle.std.proofs.lemmas.Iterator.Splits.{YieldsList-from_str_split}
use Rattle.std.proofs.lemmas.List.{drop_all, length_push}
use Rattle.pr_cli.specs.Words.{words_in}
use Rattle.pr_cli.proofs.CutWords.{one_word}
use Rattle.pr_cli.proofs.line.words_in.Goals as goal

pub loop-word-preserved : goal.loop-word-preserved
loop-word-preserved c =
    let n = length c.loop-word.yielded in
    let t = YieldsList-turn (YieldsList-from_str_split 0 c.args.text.now (lit< tt) (cc) (cc) (cc)) c.loop-word.yielded _ c.loop-word.yielded_by _ _ c.in-Some.word c.in-Some.is c.next.ensures.steps in
    let more : length (c.loop-word.yielded ++ c.in-Some.word ∷ []) ≡ n + 1 = length_push c.loop-word.yielded c.in-Some.word in
    record {
      can = tt;
      finite = tt;
      words = rw (more, c.in_ok-push.ensures.items) (one_word (λ s. s.now) c.loop-word.words.items c.in-Some.word (words_in c.args.text.now) (words_in c.args.text.now) n t.0 t.1 c.loop-word.invariant.words);
    }

pub returns : goal.returns
returns c =
    let t = YieldsList-end (YieldsList-from_str_split 0 c.args.text.now (lit< tt) (cc) (cc) (cc)) c.loop-word.yielded _ c.loop-word.yielded_by _ _ c.in-None.is c.next.ensures.steps in
    sym (ap (λ l. map (λ s. s.now) c.loop-word.words.items ++ l) (drop_all (length c.loop-word.yielded) (words_in c.args.text.now) (omega (arith, t.1))) ∙ append-nil _) ∙ c.loop-word.invariant.words
