-- Laws: what follows from the definitions. The functions of src/laws.rt prove them, and callers take them from there.
use Rattle.std.specs.Prelude.{◌≡◌, ℕ, Bool, None, List, [], ◌∷◌, ◌++◌, filter}
use Rattle.pr_serial.specs.Elements.{Element}
use Rattle.pr_serial.specs.Items.{items_of}
use Rattle.pr_channels.specs.declared.file.File.{File}
use Rattle.pr_channels.specs.Files.{Files, open_stop}
use Rattle.pr_channels.specs.Table.{IsTable}
use Rattle.pr_channels.specs.Seen.{Seen}
use Rattle.pr_channels.specs.Calls.{adding}

-- elements added one part after another are added at once
abbrev pub AddingInTwoParts : Type 0
AddingInTwoParts = (es fs : List Element) (old : Seen) →
    old.sent ≡ items_of old.elements → adding fs (adding es old) ≡ adding (es ++ fs) old

-- no more elements leave all as it is
abbrev pub AddingNone : Type 0
AddingNone = (old : Seen) → old.sent ≡ items_of old.elements → adding [] old ≡ old

-- one more file against which nothing is makes a file table of a file table
abbrev pub TableWithOneMore : Type 0
TableWithOneMore =
    (files : Files) (file : File) → IsTable files → open_stop files file.number ≡ None → IsTable (files ++ file ∷ [])

-- some of the files of a file table are a file table
abbrev pub TableWithSome : Type 0
TableWithSome = (keep : File → Bool) (files : Files) → IsTable files → IsTable (filter keep files)

-- what may be opened beside the files of a file table may be opened beside some of them
abbrev pub OpenableAmongSome : Type 0
OpenableAmongSome = (keep : File → Bool) (files : Files) (number : ℕ) →
    IsTable files → open_stop files number ≡ None → open_stop (filter keep files) number ≡ None
