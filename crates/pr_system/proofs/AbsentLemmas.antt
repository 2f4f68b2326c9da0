-- An absent printer's paper.
use Rattle.std.proofs.Common.{◌≡◌, ℕ, cond, ◌&&◌, ◌||◌, Bool, true, false, List, [], ◌∷◌, refl, sym, ap, ◌∙◌}
use Rattle.std.specs.List.{flat_map}
use Rattle.pr_serial.specs.declared.Present.{Present}
use Rattle.pr_serial.specs.declared.Item.{Item}
use Rattle.pr_page.specs.Before.{with_before}
use Rattle.pr_serial.specs.Heard.{inputs_at, is_present, heard_by}
use Rattle.pr_page.specs.declared.input.Input.{Input}
use Rattle.pr_page.specs.declared.paper.Paper.{Paper}
use Rattle.pr_page.specs.Token.{Column, IsUnfinished}
use Rattle.pr_page.specs.Page.{IsPage}
use Rattle.pr_page.specs.Evaluator.{page_of}
use Rattle.pr_basic.specs.declared.statement.Statement.{Statement}
use Rattle.pr_basic.specs.declared.session.StatusMode.{StatusMode}
use Rattle.pr_basic.specs.Runs.{items_sent}
use Rattle.pr_system.specs.declared.outcome.Outcome.{Outcome}
use Rattle.pr_system.specs.Headline.{IsOutcome, empty_paper}

-- each page is the one that the evaluator computes
abbrev pub OnlyPage : Type 0
OnlyPage = (inputs : List Input) (paper : Paper) → IsPage inputs paper → paper ≡ page_of inputs

-- no command has begun
none_unfinished : IsUnfinished []
none_unfinished = record { token = Column 0 0; next = 16; more = 0 ∷ 0 ∷ []; front = refl }

-- the page of nothing is the empty paper
empty_page : IsPage [] empty_paper
empty_page = record { tokens = []; rest = []; last = []; are_tokens = (refl, none_unfinished); are_lines = (refl, tt); held = refl }

-- an absent device hears nothing
heard_absent : (present : Present) (device : ℕ) (items : List Item) → is_present present device ≡ false → heard_by present device items ≡ []
heard_absent present device items absent = ap (λ b. cond b (flat_map (λ p. inputs_at device p.0 p.1) (with_before [] items)) []) absent

-- so its paper is empty
absent_paper : OnlyPage → (present : Present) (device : ℕ) (items : List Item) (paper : Paper) → is_present present device ≡ false → IsPage (heard_by present device items) paper → paper ≡ empty_paper
absent_paper only present device items paper absent page =
    only _ paper page ∙ ap page_of (heard_absent present device items absent) ∙ sym (only [] empty_paper empty_page)

-- true where both are, of any and false
and_false : (b : Bool) → (b && false) ≡ false
and_false true = refl
and_false false = refl

-- without printer 4 its paper is empty
pub absent_four : OnlyPage → (mode : StatusMode) (present : Present) (statements : List Statement) (outcome : Outcome) → present.four ≡ false → IsOutcome mode present statements outcome → outcome.paper4 ≡ empty_paper
absent_four only mode present statements outcome absent is =
    absent_paper only present 4 (items_sent mode present statements) outcome.paper4 (ap (λ b. (b && true) || (present.five && false)) absent ∙ and_false present.five) is.paper4

-- without printer 5 its paper is empty
pub absent_five : OnlyPage → (mode : StatusMode) (present : Present) (statements : List Statement) (outcome : Outcome) → present.five ≡ false → IsOutcome mode present statements outcome → outcome.paper5 ≡ empty_paper
absent_five only mode present statements outcome absent is =
    absent_paper only present 5 (items_sent mode present statements) outcome.paper5 (ap (λ b. (present.four && false) || (b && true)) absent ∙ ap (λ b. b || false) (and_false present.four)) is.paper5
