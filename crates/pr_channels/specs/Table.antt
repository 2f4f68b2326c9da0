-- Linking words: what holds of every file table. The contracts of `FileTable` prove it. No reader needs to believe them.
use Rattle.std.specs.Prelude.{◌≡◌, ◌≢◌, ⊤, ◌≤◌, None, [], ◌∷◌, length}
use Rattle.std.specs.Option.{ForSome}
use Rattle.pr_channels.specs.declared.file.File.{File}
use Rattle.pr_channels.specs.Files.{Files, file_at}

-- an open file: not file 0, a device of 4 to 30, and a secondary address of at most 15 or none
pub record IsFile (file : File) : Type 0 where
  pub number : file.number ≢ 0
  pub low : 4 ≤ file.device
  pub high : file.device ≤ 30
  pub second : ForSome file.second (λ s. s ≤ 15)

-- each number is once
abbrev pub IsOnce : Files → Type 0
IsOnce [] = ⊤
IsOnce (file ∷ files) = (file_at files file.number ≡ None) × IsOnce files

-- a finite map from file numbers, with at most ten keys
pub record IsTable (files : Files) : Type 0 where
  pub once : IsOnce files
  pub few : length files ≤ 10

-- each of them is an open file
abbrev pub AreFiles : Files → Type 0
AreFiles [] = ⊤
AreFiles (file ∷ files) = IsFile file × AreFiles files
