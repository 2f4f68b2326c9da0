-- What is certain of lexemes: no keyword hides another.
use Rattle.std.specs.Prelude.{ℕ, ◌≤◌, ◌≡◌, Some}
use Rattle.pr_listing.specs.Keywords.{keyword_of}
use Rattle.pr_interpreter.specs.Symbols.{typed_token}

-- each keyword that is typed is found as itself
abbrev pub KeywordsAreFound : Type 0
KeywordsAreFound = (token : ℕ) → 128 ≤ token → token ≤ 203 → typed_token (keyword_of token) ≡ Some token
