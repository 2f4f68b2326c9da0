-- Words of calls: a file that is written whole, or not at all.
use Rattle.std.specs.Prelude.{ℕ, List, Option, Some, None}
use Rattle.pr_files.specs.declared.saving.Saving.{Saving}

-- what is known of the bytes of a file that may not be made yet
abbrev pub known_of : {F : Type 0} → (contents : F → Option (List ℕ)) → Option F → Option (List ℕ)
known_of contents None = None
known_of contents (Some file) = contents file

-- the file that is written to, once there is one
abbrev pub written_to : {T F : Type 0} → Saving T F → Option F
written_to s = s.file
