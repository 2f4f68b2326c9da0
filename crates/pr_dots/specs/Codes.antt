-- Trusted: the place of a code's character in the printer's tables.
use Rattle.std.specs.Prelude.{ℕ, ◌+◌, ◌-◌, nat_lt, if◌then◌else◌}

-- the code whose character a code prints: 96 to 127 print 192 to 223, 224 to 254 print 160 to 190, and 255 prints 222
abbrev pub printed_as : ℕ → ℕ
printed_as code =
    if nat_lt code 96 then code
    else (if nat_lt code 128 then code + 96
    else (if nat_lt code 224 then code
    else (if nat_lt code 255 then code - 64
    else 222)))

-- the place of such a code in the tables, which have 32 to 95 and then 160 to 223
abbrev pub place_of : ℕ → ℕ
place_of printed = if nat_lt printed 96 then printed - 32 else printed - 96
