-- Trusted: the delays of a device, by the bounds of the profile.
use Rattle.std.specs.Prelude.{ℕ}
use Rattle.pr_wire.specs.declared.delay.Kind.{Kind}
use Rattle.pr_wire.specs.declared.delay.Kind.TheVariants.{At, H, Ye, Ei, F, Dr}
use Rattle.pr_wire.specs.Delays.{bounds_of}
use Rattle.pr_wire.specs.Pieces.{IsWithin}
use Rattle.pr_device.specs.declared.timing.Timing.{Timing}

-- a delay lies within the bounds of its kind
abbrev pub IsDelay : Kind → ℕ → Type 0
IsDelay kind delay = IsWithin delay (bounds_of kind).0 (bounds_of kind).2

-- each delay of a device does
pub record IsTiming (t : Timing) : Type 0 where
  pub attention : IsDelay At t.attention
  pub hold : IsDelay H t.hold
  pub wait : IsDelay Ye t.wait
  pub answer : IsDelay Ei t.answer
  pub accept : IsDelay F t.accept
  pub leave : IsDelay Dr t.leave

-- the typical delays
abbrev pub typical : Timing
typical = record {
  attention = (bounds_of At).1;
  hold = (bounds_of H).1;
  wait = (bounds_of Ye).1;
  answer = (bounds_of Ei).1;
  accept = (bounds_of F).1;
  leave = (bounds_of Dr).1;
}
