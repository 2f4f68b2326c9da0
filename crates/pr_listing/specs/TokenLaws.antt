-- Laws: what follows from the definition of a saved program's tokens. `tokens_are_statements` proves them.
use Rattle.std.specs.Prelude.{◌≡◌, ◌↔◌, ℕ, ◌<◌, List}
use Rattle.std.specs.List.{All}
use Rattle.pr_basic.specs.Grammar.{items_bytes}
use Rattle.pr_basic.specs.declared.statement.Statement.{Statement}
use Rattle.pr_listing.specs.Containers.{program_in}
use Rattle.pr_listing.specs.Forms.{IsListing}
use Rattle.pr_listing.specs.Tokens.{AreProgramStatements, string_items}
use Rattle.pr_listing.specs.declared.form.ListingForm.TheVariants.{Program}

-- a saved program's text is a script of exactly the statements that its tokens are, also in a P00 or T64 file
abbrev pub TokensAreStatements : Type 0
TokensAreStatements =
    (file : List ℕ) (ss : List Statement) → All (λ b. b < 256) file
    → (IsListing Program file ss ↔ AreProgramStatements (program_in file) ss)

-- the items of a string have its bytes
abbrev pub StringsKeepBytes : Type 0
StringsKeepBytes = (s : List ℕ) → All (λ b. b < 256) s → items_bytes (string_items s) ≡ s
