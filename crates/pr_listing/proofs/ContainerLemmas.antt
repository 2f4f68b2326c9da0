-- Entries of a T64 file that are passed one by one.
use Rattle.std.proofs.Common.{◌≡◌, ℕ, suc, ◌+◌, ◌-◌, ◌<◌, false, List, refl, arith}
use Rattle.pr_listing.specs.Containers.{cut_at_files, is_used, nearer_end, used_from}
use Rattle.pr_listing.specs.Hints.{file_count, used_count}

-- an entry of no file is passed
pub used-passed : (file : List ℕ) (entry count i : ℕ) → i < count → is_used file entry ≡ false → used_from file entry (count - i) ≡ used_from file (entry + 32) (count - (i + 1))
unfolding used_from
used-passed file entry count i h e =
    let left : count - i ≡ suc (count - (i + 1)) = omega arith in
    rw (left, e) refl

-- an entry is counted
pub count-passed : (file : List ℕ) (entry count i : ℕ) → i < count → used_count file entry (count - i) ≡ file_count file entry + used_count file (entry + 32) (count - (i + 1))
unfolding used_count
count-passed file entry count i h =
    let left : count - i ≡ suc (count - (i + 1)) = omega arith in
    rw left refl

-- the end by an entry is taken
pub cut-passed : (file : List ℕ) (start entry limit count i : ℕ) → i < count → cut_at_files file start entry limit (count - i) ≡ cut_at_files file start (entry + 32) (nearer_end file start entry limit) (count - (i + 1))
unfolding cut_at_files
cut-passed file start entry limit count i h =
    let left : count - i ≡ suc (count - (i + 1)) = omega arith in
    rw left refl
