use Rattle.std.proofs.Common.{◌≡◌, drop}
use Rattle.pr_channels.specs.Files.{file_at}
use Rattle.pr_channels.proofs.file_table.find_file.Given as goal

-- the file is sought among the files that are left
abbrev pub invariant-loop-file : goal.invariant-loop-file
invariant-loop-file l = file_at (drop l.file-index l.files) l.number ≡ file_at l.files l.number
