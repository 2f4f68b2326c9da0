-- The inputs that numbers mean, and those that bytes are.
use Rattle.std.proofs.Common.{◌≡◌, ℕ, ◌<◌, ◌≤◌, Bool, true, false, List, [], ◌∷◌, None, length, refl, ap, sym, subst, arith}
use Rattle.std.proofs.lemmas.Grind.{common_steps}
use Rattle.std.proofs.lemmas.Bool.Decides.{nat_tests}
use Rattle.std.proofs.lemmas.List.Elements.{All-head, All-tail}
use Rattle.std.specs.Prelude.{◌↔◌, map}
use Rattle.std.specs.List.{All, position, position_or_len}
use Rattle.pr_page.specs.Page.{IsPage}
use Rattle.pr_page.specs.declared.input.Input.TheVariants.{Byte, Select}
use Rattle.pr_dots.specs.declared.character_sets.Shapes.{Shapes}
use Rattle.pr_render.specs.declared.format.Format.{Format}
use Rattle.pr_jobs.specs.Raw.{IsRawText, raw_inputs, raw_limit}
use Rattle.pr_exports.specs.Laws.{selection_of}
use Rattle.pr_exports.specs.Printing.{IsPrintedText, input_of, is_no_input}

-- a byte means itself
byte_is : (b : ℕ) → b < 256 → (input_of b ≡ Byte b) × (is_no_input b ≡ false)
byte_is b h = (grind (arith, nat_tests), grind (arith, nat_tests))

-- bytes mean themselves
bytes_are : (bytes : List ℕ) → All (λ b. b < 256) bytes
    → (map input_of bytes ≡ map Byte bytes) × (position_or_len is_no_input bytes ≡ length bytes)
bytes_are [] all = (refl, refl)
bytes_are (b ∷ bs) all =
    let this = byte_is b (All-head (λ b. b < 256) b bs all) in
    let more = bytes_are bs (All-tail (λ b. b < 256) b bs all) in
    (cc (this.0, more.0), grind (arith, common_steps, this.1, more.1))

-- of a selection and bytes no number means no input
none_other : (lower : Bool) (bytes : List ℕ) → All (λ b. b < 256) bytes → position is_no_input (selection_of lower ∷ bytes) ≡ None
none_other true bytes all = rw (bytes_are bytes all).1 (grind (arith, nat_tests))
none_other false bytes all = rw (bytes_are bytes all).1 (grind (arith, nat_tests))

-- a selection and bytes are the inputs of bytes in its set
inputs_are : (lower : Bool) (bytes : List ℕ) → All (λ b. b < 256) bytes → map input_of (selection_of lower ∷ bytes) ≡ raw_inputs lower bytes
inputs_are true bytes all = ap (λ l. Select true ∷ l) (bytes_are bytes all).0
inputs_are false bytes all = ap (λ l. Select false ∷ l) (bytes_are bytes all).0

-- the text of bytes in a set is that of their inputs
pub bytes_are_inputs : (shapes : Shapes) (lower : Bool) (format : Format) (bytes text : List ℕ) → All (λ b. b < 256) bytes
    → (((length bytes ≤ raw_limit) × IsRawText shapes lower format bytes text) ↔ IsPrintedText shapes format (selection_of lower ∷ bytes) text)
bytes_are_inputs shapes lower format bytes text all =
    let same = inputs_are lower bytes all in (
      λ raw. (
        omega (arith, raw.0),
        none_other lower bytes all,
        record {
          paper = raw.1.paper;
          is_page = subst (λ inputs. IsPage inputs raw.1.paper) (sym same) raw.1.is_page;
          is_text = raw.1.is_text;
        },
      ),
      λ printed. (
        omega (arith, printed.0),
        record {
          paper = printed.2.paper;
          is_page = subst (λ inputs. IsPage inputs printed.2.paper) same printed.2.is_page;
          is_text = printed.2.is_text;
        },
      ),
    )
