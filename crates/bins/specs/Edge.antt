-- One axis of whole numbers: an edge of n bins, and coordinates below it. Definitions only.
use Rattle.std.specs.Prelude.{Bool, cond, ℕ, ◌-◌, ◌+◌, ◌*◌, ◌/◌, min, max}
use Rattle.bins.specs.declared.Axis.{Axis}

-- 01: floor(edge / radius), at least 1
unfoldable pub bins_on : ℕ → ℕ → ℕ
bins_on edge radius = max (edge / radius) 1

-- 01: floor(coordinate × bins / edge)
unfoldable pub bin_on : ℕ → ℕ → ℕ → ℕ
bin_on edge bins c = c * bins / edge

-- |c - d|
unfoldable pub gap : ℕ → ℕ → ℕ
gap c d = (c - d) + (d - c)

-- 01: |d|, or on a periodic axis the smaller of |d| and edge - |d|
unfoldable pub distance : Bool → ℕ → ℕ → ℕ → ℕ
unfolding gap
distance round edge c d = cond round (min (gap c d) (edge - gap c d)) (gap c d)

-- the axis of an edge
unfoldable pub axis_on : Bool → ℕ → ℕ → Axis
unfolding bins_on
axis_on round edge radius = record { size = bins_on edge radius; round = round }
