-- Trusted: the commands on the bus for a file.
use Rattle.std.specs.Prelude.{ℕ, ◌+◌, Option, Some, None, is_some, List, [], ◌∷◌, if◌then◌else◌}
use Rattle.pr_base.specs.Bytes as command
use Rattle.pr_serial.specs.Elements.{Element, Attention}
use Rattle.pr_channels.specs.declared.file.File.{File}

-- a second command: a base and the secondary address, if there is one
abbrev pub second_from : ℕ → Option ℕ → Option ℕ
second_from base None = None
second_from base (Some s) = Some (base + s)

-- LISTEN to the file's device, with its secondary address
abbrev pub listen_to : File → Element
listen_to file =
    Attention (command.listen + file.device) (second_from command.secondary file.second)

-- UNLISTEN
abbrev pub unlisten : Element
unlisten = Attention command.unlisten None

-- what CLOSE sends for a file: where the file has a secondary address, LISTEN and CLOSE for its device, then UNLISTEN
abbrev pub closing : Option File → List Element
closing None = []
closing (Some file) =
    if is_some file.second
    then Attention (command.listen + file.device) (second_from command.close file.second) ∷ unlisten ∷ []
    else []
