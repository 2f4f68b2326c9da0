use Rattle.std.proofs.Common.{◌≡◌, ◌<◌, ◌+◌, ◌++◌, ◌∷◌, [], ◌∙◌, ap, sym, arith, length, drop, lit<, List, ℕ}
use Rattle.std.specs.Prelude.{◌==◌, map}
use Rattle.std.specs.List.{list_all, slice_split}
use Rattle.std.proofs.lemmas.Bool.{eqb-false}
use Rattle.std.proofs.lemmas.Iterator.Consumers.{YieldsList-turn, YieldsList-end}
use Rattle.std.proofs.lemmas.Iterator.Splits.{YieldsList-from_str_split}
use Rattle.std.proofs.lemmas.List.{length_push}
use Rattle.pr_base.specs.Digits.{number_of}
use Rattle.pr_options.specs.DelayLists.{is_raw_number}
use Rattle.pr_options.proofs.DelayLemmas.{IsRead, all_read, cut_at, numbers_kept, words_bad, words_cut, words_kept}
use Rattle.pr_options.proofs.delays.read_list.Goals as goal

pub loop-word-preserved : goal.loop-word-preserved
loop-word-preserved c =
    let words : List (List ℕ) = slice_split (λ x. x == 44) c.args.text.now in
    let n = length c.loop-word.yielded in
    let t = YieldsList-turn (YieldsList-from_str_split 44 c.args.text.now (lit< tt) (cc) (cc) (cc)) c.loop-word.yielded _ c.loop-word.yielded_by _ _ c.in-Some.word c.in-Some.is c.next.ensures.steps in
    let w = c.in-Some.word.now in
    let cut = cut_at words n w t.0 t.1 in
    let more : length (c.loop-word.yielded ++ c.in-Some.word ∷ []) ≡ n + 1 = length_push c.loop-word.yielded c.in-Some.word in
    let inv = c.loop-word.invariant in
    let read = c.in-Some-read_number.ensures in
    record {
      can = tt;
      finite = tt;
      words = rw more (words_kept (drop n words) (drop (n + 1) words) w (list_all is_raw_number words) cut read.0 inv.words);
      numbers = rw (more, c.in_ok-push.ensures.items, read.1) (numbers_kept c.loop-word.numbers.items (map number_of words) (drop n words) (drop (n + 1) words) w cut inv.numbers);
    }

pub returns-in_default-clause-bad : goal.returns-in_default-clause-bad
returns-in_default-clause-bad c = λ e.
    let words : List (List ℕ) = slice_split (λ x. x == 44) c.args.text.now in
    let n = length c.loop-word.yielded in
    let t = YieldsList-turn (YieldsList-from_str_split 44 c.args.text.now (lit< tt) (cc) (cc) (cc)) c.loop-word.yielded _ c.loop-word.yielded_by _ _ c.in-Some.word c.in-Some.is c.next.ensures.steps in
    let w = c.in-Some.word.now in
    let some : 0 < length c.args.text.now = omega (arith, eqb-false (length c.args.text.now) 0 (sym c.is_empty.ensures ∙ c.if-is_empty.false)) in
    ap (list_all is_raw_number) (words_cut c.args.text.now some)
    ∙ words_bad (drop n words) (drop (n + 1) words) w (list_all is_raw_number words) (cut_at words n w t.0 t.1) c.in_default.ensures c.loop-word.invariant.words

-- at the end every word was read
read : (c : goal.After-new-2) → IsRead c.args.text.now c.loop-word.numbers.items
read c =
    let words : List (List ℕ) = slice_split (λ x. x == 44) c.args.text.now in
    let t = YieldsList-end (YieldsList-from_str_split 44 c.args.text.now (lit< tt) (cc) (cc) (cc)) c.loop-word.yielded _ c.loop-word.yielded_by _ _ c.in-None.is c.next.ensures.steps in
    let some : 0 < length c.args.text.now = omega (arith, eqb-false (length c.args.text.now) 0 (sym c.is_empty.ensures ∙ c.if-is_empty.false)) in
    all_read c.args.text.now c.loop-word.numbers.items words (length c.loop-word.yielded) (words_cut c.args.text.now some) t.1 c.loop-word.invariant.words c.loop-word.invariant.numbers

pub returns-clause-list : goal.returns-clause-list
returns-clause-list c = (read c).0

pub returns-clause-numbers : goal.returns-clause-numbers
returns-clause-numbers c = c.new-2.ensures.all ∙ (read c).1

pub returns-clause-left : goal.returns-clause-left
returns-clause-left c = c.new-2.ensures.left ∙ (read c).1
