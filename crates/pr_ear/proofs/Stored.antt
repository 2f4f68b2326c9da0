-- Edges and truth values come back from their numbers.
use Rattle.std.proofs.Common.{◌≡◌, Bool, true, false, refl, ap, ◌∙◌}
use Rattle.std.specs.Prelude.{◌==◌}
use Rattle.pr_wire.specs.declared.Edge.{Edge}
use Rattle.pr_ear.specs.Hearing.{bit_of, edge_of, is_released}
use Rattle.pr_ear.specs.Numbers.{wire_of}

pub bit-back : (b : Bool) → (bit_of b == 1) ≡ b
bit-back true = refl
bit-back false = refl

pub level-back : (b : Bool) → is_released (bit_of b) ≡ b
level-back true = refl
level-back false = refl

pub edge-back : (e : Edge) → edge_of (wire_of e) ≡ e
edge-back e =
    ap (λ b. record { time = e.time; levels = record { atn = b; clock = is_released (bit_of e.levels.clock); line = is_released (bit_of e.levels.line) } }) (level-back e.levels.atn)
    ∙ (ap (λ b. record { time = e.time; levels = record { atn = e.levels.atn; clock = b; line = is_released (bit_of e.levels.line) } }) (level-back e.levels.clock)
    ∙ ap (λ b. record { time = e.time; levels = record { atn = e.levels.atn; clock = e.levels.clock; line = b } }) (level-back e.levels.line))
