-- Trusted: what two devices do to one line together. The moments are those of the timed trace of pr_bus: the least or
-- the greatest of the two devices' delays after the same moment.
use Rattle.std.specs.Prelude.{◌≡◌, ℕ, ◌+◌, nat_lt, min, max, Bool, true, false, not, ◌&&◌, ◌||◌, Some, None}
use Rattle.pr_device.specs.declared.place.Place.TheVariants.{Between, Sent, Opening}
use Rattle.pr_device.specs.declared.timing.Timing.{Timing}
use Rattle.pr_device.specs.Data.{Standing, is_away, pulls}

-- one of two devices, for which things stand alike, pulls DATA
abbrev pub pair_pulls : Timing → Timing → Bool → Standing → ℕ → Bool
pair_pulls t u before s now = pulls t 0 before s now || pulls u 0 before s now

-- the line is pulled with the first that pulls it, and released with the last that releases it
pub record SharesTheLine (t u : Timing) (s : Standing) (now : ℕ) : Type 0 where
  -- after ATN's pull
  pub called : (since : ℕ) → is_away s ≡ false → s.atn ≡ false → s.place ≡ Between → s.since ≡ Some since
      → pair_pulls t u false s now ≡ not (nat_lt now (since + min t.attention u.attention))
  -- from CLOCK's release before a byte on
  pub held : (look : ℕ) (eoi : Bool) → is_away s ≡ false → s.place ≡ Opening look None eoi
      → pair_pulls t u true s now ≡ nat_lt now (look + max t.hold u.hold)
  -- the answer to end-or-identify, after DATA's release
  pub answered : (look free : ℕ) (eoi before : Bool) → is_away s ≡ false → s.atn ≡ true
      → s.place ≡ Opening look (Some free) eoi
      → pair_pulls t u before s now
      ≡ (not (nat_lt now (free + min t.wait u.wait)) && nat_lt now (free + max (t.wait + t.answer) (u.wait + u.answer)))
  -- the acknowledgement, after CLOCK's last pull
  pub accepted : (pull : ℕ) → is_away s ≡ false → s.place ≡ Sent pull
      → pair_pulls t u false s now ≡ not (nat_lt now (pull + min t.accept u.accept))
  -- after ATN's release, where neither listens
  pub left : (since : ℕ) → is_away s ≡ true → s.since ≡ Some since
      → pair_pulls t u true s now ≡ nat_lt now (since + max t.leave u.leave)
