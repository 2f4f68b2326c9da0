-- Trusted: how many pulses of a recording's lines are brief, as cross-talk makes them: an edge gives a line the other level, and
-- the next edge, at most one microsecond later, takes it back.
use Rattle.std.specs.Prelude.{ℕ, ◌+◌, ◌-◌, ◌^◌, ◌&&◌, min, cond, Bool, not, nat_le, List, [], ◌∷◌, if◌then◌else◌}
use Rattle.pr_wire.specs.declared.Edge.{Edge}
use Rattle.pr_wire.specs.declared.Levels.{Levels}
use Rattle.pr_wire.specs.Table.{same}

-- a line's level turns, and turns back
abbrev pub turns_back : (before at after : Bool) → Bool
turns_back before at after = not (same at before) && same after before

-- CLOCK is released while ATN is pulled, and the computer looks who answers the call
abbrev pub is_look : (before at : Levels) → Bool
is_look l m = not m.atn && (not l.clock && m.clock)

-- DATA is pulled and released, but at no look. On a lawful bus DATA may be released for a microsecond, and a printer that answers
-- in the microsecond of the look may release DATA one later
abbrev pub is_data_pulse : (before at after : Levels) → Bool
is_data_pulse l m n = l.line && (turns_back l.line m.line n.line && not (is_look l m))

-- how many lines have a pulse from the second of three edges to the third, by their levels
abbrev pub pulses_at : (before at after : Levels) → ℕ
pulses_at l m n =
    cond (turns_back l.atn m.atn n.atn) 1 0 + (cond (turns_back l.clock m.clock n.clock) 1 0 + cond (is_data_pulse l m n) 1 0)

-- how many of them have a brief one
abbrev pub brief_at : (before : Levels) → (edge next : Edge) → ℕ
brief_at l e f = if nat_le (f.time - e.time) 1 then pulses_at l e.levels f.levels else 0

-- how many brief pulses an edge after these levels, and the edges after it, have
abbrev pub brief_after : (before : Levels) → Edge → List Edge → ℕ
brief_after l e [] = 0
brief_after l e (f ∷ es) = brief_at l e f + brief_after e.levels f es

-- how many a recording has; its first edge turns no level
abbrev pub brief_pulses : List Edge → ℕ
brief_pulses [] = 0
brief_pulses (e ∷ es) = brief_after e.levels e es

-- as a count in 64 bits, which stops at its greatest value
abbrev pub brief_count : List Edge → ℕ
brief_count es = min (brief_pulses es) (2 ^ 64 - 1)
