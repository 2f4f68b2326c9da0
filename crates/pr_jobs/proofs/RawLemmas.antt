-- The bytes of a printer printed as they are read.
use Rattle.std.proofs.Common.{◌≡◌, ℕ, ◌+◌, ◌-◌, ◌≤◌, Bool, List, [], ◌∷◌, ◌++◌, length, ap, sym, arith, length-append, Option, subst, Ok, IfSome}
use Rattle.std.specs.Prelude.{map}
use Rattle.std.specs.Io.KnownBytes.{Appends, Consumes}
use Rattle.std.proofs.KnownBytes.{Consumes-nil, Consumes-trans}
use Rattle.std.proofs.lemmas.List.{map-append}
use Rattle.pr_page.specs.Taken.{HasTaken}
use Rattle.pr_page.specs.declared.input.Input.{Input}
use Rattle.pr_page.specs.declared.input.Input.TheVariants.{Byte, Select}
use Rattle.pr_page.specs.declared.state.PrinterState.{PrinterState}
use Rattle.pr_dots.specs.declared.character_sets.Shapes.{Shapes}
use Rattle.pr_page.specs.declared.paper.Paper.{Paper}
use Rattle.pr_render.specs.declared.format.Format.{Format}
use Rattle.pr_jobs.specs.Formats.{text_in}
use Rattle.pr_jobs.specs.Printed.{GivesPaper}
use Rattle.pr_jobs.specs.Raw.{AnswersRaw, four_alone, printed_on, raw_inputs, raw_limit}
use Rattle.pr_jobs.specs.Runs.{pages_end}
use Rattle.pr_jobs.specs.declared.run.PagesEnd.{PagesEnd}
use Rattle.pr_jobs.proofs.ReportLemmas.{if_known}

-- the bytes that came from a reader, printed, and how many more may come
pub record HasPrinted (limit : ℕ) (before after : Option (List ℕ)) (lower : Bool) (printer : PrinterState) (left : ℕ) : Type 0 where
  pub bytes : List ℕ
  pub taken : Consumes before after bytes
  pub printed : HasTaken (raw_inputs lower bytes) printer
  pub room : length bytes + left ≡ limit

-- before the first byte the selection is taken
pub none_printed : (limit : ℕ) (a : Option (List ℕ)) (lower : Bool) (p : PrinterState) → HasTaken (Select lower ∷ []) p → HasPrinted limit a a lower p limit
none_printed limit a lower p h = record { bytes = []; taken = Consumes-nil a; printed = h; room = omega arith }

-- the inputs of more bytes
pub inputs_of_more : (lower : Bool) (bytes more : List ℕ) → raw_inputs lower bytes ++ map Byte more ≡ raw_inputs lower (bytes ++ more)
inputs_of_more lower bytes more = ap (λ l. Select lower ∷ l) (sym (map-append Byte bytes more))

-- one block more
pub print_more : (limit : ℕ) (a b d : Option (List ℕ)) (lower : Bool) (p q : PrinterState) (left n : ℕ) (block : List ℕ) → (r : HasPrinted limit a b lower p left)
    → Consumes b d block → length block ≡ n → n ≤ left → ((inputs : List Input) → HasTaken inputs p → HasTaken (inputs ++ map Byte block) q) → HasPrinted limit a d lower q (left - n)
print_more limit a b d lower p q left n block r k l w f = record {
  bytes = r.bytes ++ block;
  taken = Consumes-trans a b d r.bytes block r.taken k;
  printed = subst (λ inputs. HasTaken inputs q) (inputs_of_more lower r.bytes block) (f (raw_inputs lower r.bytes) r.printed);
  room = omega (arith, length-append r.bytes block, r.room);
}

-- the text of a paper was written, and its end is answered
pub written_raw : (shapes : Shapes) (lower : Bool) (format : Format) (start : Option (List ℕ)) (paper : Paper) (text : List ℕ) (end : PagesEnd) (old new : Option (List ℕ))
    → IfSome start (λ bytes. GivesPaper raw_limit lower (Ok paper) bytes) → text_in shapes format four_alone (printed_on paper) ≡ Ok text → end ≡ pages_end (printed_on paper)
    → Appends old new text → IfSome start (λ bytes. AnswersRaw shapes lower format bytes old new (Ok end))
written_raw shapes lower format start paper text end old new given shown ended written =
    if_known start (λ bytes. GivesPaper raw_limit lower (Ok paper) bytes) (λ bytes. AnswersRaw shapes lower format bytes old new (Ok end)) given
    (λ bytes is. (text, is.0, record { paper = paper; is_page = is.1; is_text = shown }, ended, written))
