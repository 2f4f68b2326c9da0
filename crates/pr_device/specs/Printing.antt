-- Trusted: how long a printer prints, and what an event has it print.
use Rattle.std.specs.Prelude.{ℕ, suc, zero, ◌+◌, ◌*◌, ◌/◌}
use Rattle.pr_device.specs.declared.printing.Speed.{Speed}

-- how long columns of dots take, in microseconds, where so many are printed in a second: the microsecond that has begun
-- counts. Where that number is 0, they take no time
abbrev pub columns_time : (columns per_second : ℕ) → ℕ
columns_time columns zero = 0
columns_time columns (suc rest) = (columns * 1000000 + rest) / suc rest

-- columns and line feeds
abbrev pub printing_time : (columns feeds : ℕ) → Speed → ℕ
printing_time columns feeds speed = columns_time columns speed.columns + feeds * speed.feed
