-- Trusted: the delays of the bus, in microseconds.
use Rattle.std.specs.Prelude.{ℕ, ◌+◌, ◌-◌, ◌%◌, List, slice_get, Some, None}
use Rattle.pr_wire.specs.declared.delay.Kind.{Kind}
use Rattle.pr_wire.specs.declared.delay.Kind.TheVariants.{Bb, Aw, Ne, Ry, S, V, R, Cr, At, H, Ye, Ei, F, Dr}

-- the least, the typical and the greatest delay of a kind
abbrev pub bounds_of : Kind → ℕ × ℕ × ℕ
bounds_of Bb = (100, 100, 1000)
bounds_of Aw = (1000, 1000, 2000)
bounds_of Ne = (1, 40, 199)
bounds_of Ry = (1, 30, 60)
bounds_of S = (20, 70, 200)
bounds_of V = (20, 20, 200)
bounds_of R = (100, 100, 200)
bounds_of Cr = (100, 100, 200)
bounds_of At = (1, 100, 1000)
bounds_of H = (1, 50, 10000)
bounds_of Ye = (200, 250, 250)
bounds_of Ei = (80, 80, 200)
bounds_of F = (1, 20, 90)
bounds_of Dr = (1, 20, 60)

-- the delay of a kind for a raw number
abbrev pub delay_of : Kind → ℕ → ℕ
delay_of k r = (bounds_of k).0 + r % ((bounds_of k).2 - (bounds_of k).0 + 1)

-- the delay of a kind for the number at an index of a list; beyond the list's end the typical delay
abbrev pub delay_at : Kind → List ℕ → ℕ → ℕ
delay_at k numbers i = elim (slice_get numbers i) [ None ↦ (bounds_of k).1 | Some r ↦ delay_of k r ]
