-- Delays lie within their bounds.
use Rattle.std.proofs.Common.{ℕ, Option, Some, None, arith}
use Rattle.std.specs.List.{slice_get}
use Rattle.pr_wire.specs.declared.delay.Kind.{Kind}
use Rattle.pr_wire.specs.declared.delay.Kind.TheVariants.{Bb, Aw, Ne, Ry, S, V, R, Cr, At, H, Ye, Ei, F, Dr}
use Rattle.pr_wire.specs.Delays.{bounds_of, delay_of}
use Rattle.pr_wire.specs.Pieces.{IsWithin}
use Rattle.pr_wire.specs.Laws.{DelaysLieWithinBounds}

-- a delay that a raw number makes
made_in : (k : Kind) (r : ℕ) → IsWithin (delay_of k r) (bounds_of k).0 (bounds_of k).2
made_in Bb r = record { from = omega arith; to = omega arith }
made_in Aw r = record { from = omega arith; to = omega arith }
made_in Ne r = record { from = omega arith; to = omega arith }
made_in Ry r = record { from = omega arith; to = omega arith }
made_in S r = record { from = omega arith; to = omega arith }
made_in V r = record { from = omega arith; to = omega arith }
made_in R r = record { from = omega arith; to = omega arith }
made_in Cr r = record { from = omega arith; to = omega arith }
made_in At r = record { from = omega arith; to = omega arith }
made_in H r = record { from = omega arith; to = omega arith }
made_in Ye r = record { from = omega arith; to = omega arith }
made_in Ei r = record { from = omega arith; to = omega arith }
made_in F r = record { from = omega arith; to = omega arith }
made_in Dr r = record { from = omega arith; to = omega arith }

-- a typical delay
typical_in : (k : Kind) → IsWithin (bounds_of k).1 (bounds_of k).0 (bounds_of k).2
typical_in Bb = record { from = omega arith; to = omega arith }
typical_in Aw = record { from = omega arith; to = omega arith }
typical_in Ne = record { from = omega arith; to = omega arith }
typical_in Ry = record { from = omega arith; to = omega arith }
typical_in S = record { from = omega arith; to = omega arith }
typical_in V = record { from = omega arith; to = omega arith }
typical_in R = record { from = omega arith; to = omega arith }
typical_in Cr = record { from = omega arith; to = omega arith }
typical_in At = record { from = omega arith; to = omega arith }
typical_in H = record { from = omega arith; to = omega arith }
typical_in Ye = record { from = omega arith; to = omega arith }
typical_in Ei = record { from = omega arith; to = omega arith }
typical_in F = record { from = omega arith; to = omega arith }
typical_in Dr = record { from = omega arith; to = omega arith }

pub delay_in : DelaysLieWithinBounds
delay_in k numbers i = by (slice_get numbers i)
  where
    by : (o : Option ℕ) → IsWithin (elim o [ None ↦ (bounds_of k).1 | Some r ↦ delay_of k r ]) (bounds_of k).0 (bounds_of k).2
    by None = typical_in k
    by (Some r) = made_in k r
