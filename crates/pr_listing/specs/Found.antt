-- Trusted: the form of a listing by its first bytes, where nobody names it.
use Rattle.std.specs.Prelude.{ℕ, ◌+◌, ◌&&◌, ◌||◌, ◌==◌, not, Bool, false, List, Option, length, drop, find, nat_lt, if◌then◌else◌}
use Rattle.std.specs.List.{prefix_len}
use Rattle.std.specs.Option.{option_map_or}
use Rattle.pr_listing.specs.Containers.{address_at, is_p00, is_t64}
use Rattle.pr_listing.specs.Hints.{begins_saved}
use Rattle.pr_listing.specs.Program.{is_not_zero}
use Rattle.pr_listing.specs.declared.form.ListingForm.{ListingForm}
use Rattle.pr_listing.specs.declared.form.ListingForm.TheVariants.{Petcat, Program, Text}

-- bytes begin with a load address and a line of a saved program, with its link, its number, its own
-- bytes and a 0, and the link is the address after that 0
abbrev pub begins_linked : List ℕ → Bool
begins_linked bytes =
    let line = drop 6 bytes in
    let size = prefix_len is_not_zero line in
    nat_lt size (length line) && (address_at 2 bytes == address_at 0 bytes + size + 5)

-- a space, or a byte of a line's end
abbrev pub is_blank : ℕ → Bool
is_blank b = (b == 32) || ((b == 10) || (b == 13))

-- the first byte that is not blank
abbrev pub first_printed : List ℕ → Option ℕ
first_printed bytes = find (λ b. not (is_blank b)) bytes

-- bytes begin with petcat's heading: the first byte that is not blank is `;`
abbrev pub begins_with_heading : List ℕ → Bool
begins_with_heading bytes = option_map_or (λ b. b == 59) (first_printed bytes) false

-- the form: a saved program has the load address $0801, or a first line with a true link, or is in a P00
-- or T64 file; petcat's text has its heading; all else is the text of a script
abbrev pub found_form : List ℕ → ListingForm
found_form bytes =
    if begins_saved bytes || (begins_linked bytes || (is_p00 bytes || is_t64 bytes)) then Program
    else (if begins_with_heading bytes then Petcat else Text)
