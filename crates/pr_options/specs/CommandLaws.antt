-- Laws: which subcommands there are. `subcommands_are_these` proves them.
use Rattle.std.specs.Prelude.{◌≡◌, ◌⊎◌, IfSome, List, codes}
use Rattle.clap.specs.Words.{Text, subcommand_of}
use Rattle.pr_options.specs.CommandLine.{print1525}

-- one of the subcommands
abbrev pub IsOurs : Text → Type 0
IsOurs name = (name ≡ codes "pages") ⊎
    ((name ≡ codes "bus") ⊎ ((name ≡ codes "check") ⊎ ((name ≡ codes "decode") ⊎ (name ≡ codes "raw"))))

-- words name no other subcommand
abbrev pub NamesOurs : Type 0
NamesOurs = (words : List Text) → IfSome (subcommand_of print1525 words) (λ met. IsOurs met.0)
