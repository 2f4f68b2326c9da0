-- Words of calls: bytes that are read after others.
use Rattle.std.specs.Prelude.{ℕ, List, Option}
use Rattle.std.specs.Io.KnownBytes.{Consumes}

-- of whatever bytes the earlier ones were taken, the later ones are taken of them too
abbrev pub ReadsMore : (earlier later : List ℕ) → (old new : Option (List ℕ)) → Type 0
ReadsMore earlier later old new = (whole : Option (List ℕ)) → Consumes whole old earlier → Consumes whole new later
