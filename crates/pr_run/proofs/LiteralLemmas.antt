use Rattle.std.proofs.Common.{◌≡◌, ℕ, ◌-◌, ◌≤◌, ◌==◌, Bool, true, false, length, refl}
use Rattle.std.proofs.Common.{arith, eqb-true, le-leb, Result, Ok, Err}
use Rattle.std.proofs.lemmas.Bool.{agree_below, agree_below_at}
use Rattle.pr_interpreter.specs.declared.constants.Constant.{Constant}
use Rattle.pr_interpreter.specs.declared.constants.Tens.TheVariants.{Times}
use Rattle.pr_interpreter.specs.declared.values.Stop.{Stop}
use Rattle.pr_interpreter.specs.declared.values.Value.TheVariants.{Number}
use Rattle.pr_interpreter.specs.Constants.{error_after, value_of}
use Rattle.pr_interpreter.specs.Evaluation.{after, called, evaluation, give, literal, of_one_argument, string_of_number}
use Rattle.pr_interpreter.specs.Evaluation.{without}
use Rattle.pr_interpreter.specs.Functions.{character, whole_to}
use Rattle.pr_interpreter.specs.Numbers.{Known, aligned, floor, floor_of, order_of}
use Rattle.pr_interpreter.specs.Spans.{answer, bit_length, drop_digits, has_form, in_range, is_in_range, shorten}
use Rattle.pr_interpreter.specs.Values.{calculated}
use Rattle.pr_run.specs.Plain.{CharactersAreConstant, DigitsAreNumbers, StringsAreConstant}

-- ---- digits

abbrev is_whole : ℕ → Result ℕ Stop → Bool
is_whole n (Ok k) = n == k
is_whole n (Err stop) = false

abbrev reads_as : ℕ → Result Known Stop → Bool
reads_as n (Ok k) = is_whole n (whole_to 255 k)
reads_as n (Err stop) = false

abbrev constant : ℕ → Constant
constant n = record { digits = n; more = false; tens = Times 0; roundings = 0; plain = true }

abbrev is_read : ℕ → Bool
is_read n = reads_as n (calculated (value_of (constant n)))

abbrev always : ℕ → Bool
always n = true

-- each number of a byte is read as itself
all_are_read : agree_below is_read always 256 ≡ true
unfolding value_of error_after answer has_form bit_length in_range is_in_range shorten drop_digits whole_to order_of
    aligned floor floor_of lib.Count.count_leading_zeros
all_are_read = refl

from_whole : (n : ℕ) (r : Result ℕ Stop) → is_whole n r ≡ true → r ≡ Ok n
from_whole n (Ok k) e = rw (eqb-true n k e) refl
from_whole n (Err stop) e = absurd (cc)

from_read : (n : ℕ) (r : Result Known Stop) → reads_as n r ≡ true → (k : Known) × (r ≡ Ok k) × (whole_to 255 k ≡ Ok n)
from_read n (Ok k) e = (k, refl, from_whole n (whole_to 255 k) e)
from_read n (Err stop) e = absurd (cc)

read_at : (n : ℕ) → n ≤ 255 → (k : Known) × (calculated (value_of (constant n)) ≡ Ok k) × (whole_to 255 k ≡ Ok n)
read_at n h =
    from_read n (calculated (value_of (constant n)))
    (agree_below_at is_read always 256 n all_are_read (omega (arith, h)))

pub digits_number : DigitsAreNumbers
unfolding evaluation after give
digits_number text place n h =
    let r = read_at n h in
    (Number r.0, (λ s arrays e room. rw (room, r.1) refl), r.2)

-- ---- CHR$

pub character_constant : CharactersAreConstant
unfolding evaluation after give without called of_one_argument string_of_number character
character_constant text place at n h s arrays e room =
    let r = read_at n h in
    rw (room, r.1, r.2) refl

-- ---- strings

pub string_constant : StringsAreConstant
unfolding evaluation after give literal
string_constant text place start end ordered within short s arrays e room =
    rw (e, room, le-leb start end ordered, le-leb end (length text) within, le-leb (end - start) 255 short) refl
