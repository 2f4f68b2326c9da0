-- Trusted: the open files, and which stop refuses an OPEN.
use Rattle.std.specs.Prelude.{ℕ, not, ◌==◌, Option, Some, None, List, length, if◌then◌else◌, find, filter, is_some}
use Rattle.pr_channels.specs.declared.file.File.{File}
use Rattle.pr_channels.specs.declared.faults.Stop.{Stop}
use Rattle.pr_channels.specs.declared.faults.Stop.TheVariants.{TooManyFiles, FileOpen, NotInputFile}

-- files in the order of opening
abbrev pub Files : Type 0
Files = List File

-- the file with this number
abbrev pub file_at : Files → ℕ → Option File
file_at files number = find (λ file. file.number == number) files

-- the files without this number
abbrev pub without_file : ℕ → Files → Files
without_file number files = filter (λ file. not (file.number == number)) files

-- the stop of an OPEN, if any: the file's number is 0, or else the file is open, or else ten files are open
abbrev pub open_stop : Files → ℕ → Option Stop
open_stop files number =
    if number == 0 then Some NotInputFile
    else (if is_some (file_at files number) then Some FileOpen
    else (if length files == 10 then Some TooManyFiles else None))
