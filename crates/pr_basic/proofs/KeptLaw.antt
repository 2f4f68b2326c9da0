-- The status: 128 exactly if an item is not answered, of this statement or, where it is kept, of an earlier one too.
use Rattle.std.proofs.Common.{◌≡◌, ℕ, Bool, true, false, cond, ◌||◌, List, [], ◌∷◌, ◌++◌, length, drop, refl, sym, ap, ◌∙◌}
use Rattle.pr_serial.specs.declared.Present.{Present}
use Rattle.pr_serial.specs.declared.Item.{Item}
use Rattle.pr_serial.specs.Elements.{Element}
use Rattle.pr_serial.specs.Items.{items_of}
use Rattle.pr_serial.specs.Answers.{is_lacking}
use Rattle.pr_serial.specs.Laws.{ItemsOnlyGrow, LackingInTwoParts}
use Rattle.pr_basic.specs.declared.session.StatusMode.{StatusMode}
use Rattle.pr_basic.specs.declared.session.StatusMode.TheVariants.{Each, Kept}
use Rattle.pr_basic.specs.Performing.{found_by}
use Rattle.pr_basic.specs.Runs.{found_of, status_of}
use Rattle.pr_basic.specs.StatementLaws.{is_unanswered_in, sent_in}

-- one status for two parts, the first of which left its status
status_in_one : (first second : Bool) (n : ℕ) → cond second 128 (cond first 128 n) ≡ cond (first || second) 128 n
status_in_one true true n = refl
status_in_one true false n = refl
status_in_one false true n = refl
status_in_one false false n = refl

-- in the kept mode, the status after more elements is that of all items
pub kept_status : ItemsOnlyGrow → LackingInTwoParts → (present : Present) (before es : List Element) → status_of present (found_of Kept present before) before (before ++ es) ≡ found_of Kept present (before ++ es)
kept_status grow two_parts present before es =
    let grown = grow before es in
    ap (λ xs. cond (is_lacking present (length (items_of before)) xs) 128 (cond (is_lacking present 0 (items_of before)) 128 0)) grown.1
    ∙ status_in_one (is_lacking present 0 (items_of before)) (is_lacking present (length (items_of before)) (items_of before ++ grown.0)) 0
    ∙ ap (λ b. cond b 128 0) (sym (two_parts present [] (items_of before) grown.0))
    ∙ ap (λ xs. cond (is_lacking present 0 xs) 128 0) (sym grown.1)

-- so a run finds at each statement what the one before it left
pub found_next : ItemsOnlyGrow → LackingInTwoParts → (mode : StatusMode) (present : Present) (found : ℕ) (before es : List Element) → found ≡ found_of mode present before → found_by mode (status_of present found before (before ++ es)) ≡ found_of mode present (before ++ es)
found_next grow two_parts Each present found before es is = refl
found_next grow two_parts Kept present found before es is = ap (λ n. status_of present n before (before ++ es)) is ∙ kept_status grow two_parts present before es

-- the status in both modes
pub status_exactly : ItemsOnlyGrow → LackingInTwoParts → (mode : StatusMode) (present : Present) (before es : List Element)
    → status_of present (found_of mode present before) before (before ++ es) ≡ cond (is_unanswered_in mode present before (before ++ es)) 128 0
status_exactly grow two_parts Each present before es = refl
status_exactly grow two_parts Kept present before es = kept_status grow two_parts present before es

-- what is after a front
dropped_front : (xs ys : List Item) → drop (length xs) (xs ++ ys) ≡ ys
dropped_front [] ys = refl
dropped_front (x ∷ xs) ys = dropped_front xs ys

-- more elements only send more items
pub sent_after : ItemsOnlyGrow → (before es : List Element) → items_of (before ++ es) ≡ items_of before ++ sent_in before (before ++ es)
sent_after grow before es =
    let grown = grow before es in
    grown.1 ∙ ap (λ xs. items_of before ++ xs) (sym (dropped_front (items_of before) grown.0)) ∙ ap (λ xs. items_of before ++ drop (length (items_of before)) xs) (sym grown.1)
