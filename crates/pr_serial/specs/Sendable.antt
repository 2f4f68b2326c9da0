-- Linking words: what a bus may be asked to send. A caller that asks for more is refused by the prover. No reader needs to believe them.
use Rattle.std.specs.Prelude.{ℕ, ◌+◌, ◌≤◌, ◌<◌, ◌⊎◌, Option, Some, None}
use Rattle.pr_base.specs.Bytes as command

-- a secondary address: a number of 0 to 15 selects a channel or closes it
abbrev pub IsSecondary : ℕ → Type 0
IsSecondary s =
    ((command.secondary ≤ s) × (s ≤ command.secondary + 15)) ⊎ ((command.close ≤ s) × (s ≤ command.close + 15))

-- an attention that may be sent: LISTEN or UNLISTEN, and after LISTEN perhaps a secondary address
abbrev pub MaySend : ℕ → Option ℕ → Type 0
MaySend first None = (command.listen ≤ first) × (first ≤ command.unlisten)
MaySend first (Some s) = (command.listen ≤ first) × (first < command.unlisten) × IsSecondary s
