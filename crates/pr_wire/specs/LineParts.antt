-- Machine steps: a line of a trace text, byte by byte. No reader needs to believe them.
use Rattle.std.specs.Prelude.{ℕ, ◌+◌, ◌-◌, ◌*◌, ◌==◌, ◌&&◌, Bool, true, false, List, [], ◌∷◌, Option, Some, None, nat_lt, if◌then◌else◌}
use Rattle.pr_wire.specs.declared.Edge.{Edge}
use Rattle.pr_wire.specs.declared.line_part.LinePart.{LinePart}
use Rattle.pr_wire.specs.declared.line_part.LinePart.TheVariants.{Nothing, Time, Space, Atn, Clock, Whole, Returned, Bad}
use Rattle.pr_wire.specs.Levels.{edge_at}
use Rattle.pr_wire.specs.TextSteps.{level_in}
use Rattle.pr_base.specs.Digits.{is_digit}

-- a time with one digit more
abbrev pub time_after : ℕ → ℕ → LinePart
time_after t b = if is_digit b && nat_lt (10 * t + (b - 48)) 18446744073709551616 then Time (10 * t + (b - 48)) else Bad

-- a part with one level more
abbrev pub level_after : LinePart → Bool → LinePart
level_after (Space t) l = Atn t l
level_after (Atn t a) l = Clock t a l
level_after (Clock t a c) l = Whole (edge_at t a c l)
level_after _ l = Bad

-- a part with a byte in which a level is read
abbrev pub level_byte_after : LinePart → Option Bool → LinePart
level_byte_after p (Some l) = level_after p l
level_byte_after p None = Bad

-- a part with one byte more, which is not byte 10
abbrev pub part_after : LinePart → ℕ → LinePart
part_after Nothing b = time_after 0 b
part_after (Time t) b = if b == 32 then Space t else time_after t b
part_after (Space t) b = level_byte_after (Space t) (level_in b)
part_after (Atn t a) b = level_byte_after (Atn t a) (level_in b)
part_after (Clock t a c) b = level_byte_after (Clock t a c) (level_in b)
part_after (Whole e) b = if b == 13 then Returned e else Bad
part_after (Returned e) b = Bad
part_after Bad b = Bad

-- a part with more bytes
abbrev pub part_with : LinePart → List ℕ → LinePart
part_with p [] = p
part_with p (b ∷ bs) = part_with (part_after p b) bs

-- the edge of a line that ends here
abbrev pub edge_of_part : LinePart → Option Edge
edge_of_part (Whole e) = Some e
edge_of_part (Returned e) = Some e
edge_of_part _ = None

abbrev pub is_nothing : LinePart → Bool
is_nothing Nothing = true
is_nothing _ = false
