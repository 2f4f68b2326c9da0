-- Trusted: when a device may pull DATA at all.
use Rattle.std.specs.Prelude.{ℕ, ◌+◌, nat_lt, Bool, false, not, ◌||◌, Option, Some, None}
use Rattle.pr_device.specs.declared.timing.Timing.{Timing}
use Rattle.pr_device.specs.Data.{Standing}

-- a moment is less than a delay after another, if there is that
abbrev pub is_soon_after : Option ℕ → ℕ → ℕ → Bool
is_soon_after None delay now = false
is_soon_after (Some moment) delay now = nat_lt now (moment + delay)

-- somebody speaks to the device, or has stopped just now: ATN is pulled, or the device listens, or ATN was released
-- less than its delay ago
abbrev pub is_spoken_to : Timing → Standing → ℕ → Bool
is_spoken_to t s now = not s.atn || (s.listens || is_soon_after s.since t.leave now)
