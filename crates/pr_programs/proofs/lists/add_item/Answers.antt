use Rattle.std.proofs.Common.{[], ◌∷◌, ◌++◌, ◌∙◌, ap, arith, get_or, length-drop, take}
use Rattle.std.specs.Prelude.{codes, decimal}
use Rattle.std.proofs.lemmas.List.{take_rest}
use Rattle.pr_basic.specs.Grammar.{Code, Quote}
use Rattle.pr_programs.proofs.ItemLemmas.{code_first, string_first, three_added}
use Rattle.pr_programs.proofs.lists.add_item.Goals as goal

pub returns-then-count-gt0 : goal.returns-then-count-gt0
returns-then-count-gt0 c =
    rw (take_rest c.args.bytes.now c.held_count-count.result) (record {
      item = Quote (take c.held_count-count.result c.args.bytes.now);
      first = string_first c.args.bytes.now c.held_count-count.result c.held_count-count.ensures.count
          c.if-count-gt0.true;
      is_text = three_added _ (34 ∷ []) _ (34 ∷ []) _ _ _ c.in_ok-push.ensures.items
          c.in_ok-extend_from_slice.ensures.items c.in_ok-push-2.ensures.items;
      less = omega (arith, length-drop c.held_count-count.result c.args.bytes.now, c.held_count-count.ensures.within);
    })

pub returns : goal.returns
returns c =
    rw (take_rest c.args.bytes.now 1) (record {
      item = Code (decimal (get_or c.args.bytes.now 0 0));
      first = code_first c.args.bytes.now c.held_count-count.result c.held_count-count.ensures.count c.requires
          (omega arith);
      is_text = three_added _ (codes "CHR$(") (decimal (get_or c.args.bytes.now 0 0)) (codes ")") _ _ _
          c.in_ok-extend_from_slice-2.ensures.items
          (c.in_ok-add_number.ensures ∙ ap (λ v. c.extend_from_slice-2.new.self.items ++ decimal v) c.from.ensures)
          c.in_ok-push-3.ensures.items;
      less = omega (arith, length-drop 1 c.args.bytes.now);
    })
