-- Trusted: a reader or a writer that remembers whether a call has failed, and whether a flush has
-- come after the last write.
use Rattle.std.specs.Prelude.{ℕ, Bool, true, ◌&&◌, ◌==◌, not, Result, Ok, Err}
use Rattle.pr_input.specs.declared.watched.Watched.{Watched}

-- the reader or writer that is watched
abbrev pub wrapped : {T : Type 0} → Watched T → T
wrapped w = w.inner

-- whether a call of it has failed so far
abbrev pub has_failed : {T : Type 0} → Watched T → Bool
has_failed w = w.failed

-- its flag: false after a write, true after a flush that answers Ok; that such a flush is one of
-- the writer inside is tested, since std's `Write` has no word for it
abbrev pub is_flushed : {T : Type 0} → Watched T → Bool
is_flushed w = w.flushed

-- a write of n bytes fails: an error, or an answer that no byte was taken, although there are some
abbrev pub write_fails : {E : Type 0} → Result ℕ E → ℕ → Bool
write_fails (Ok taken) n = (taken == 0) && not (n == 0)
write_fails (Err e) n = true
