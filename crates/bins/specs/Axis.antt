-- One axis of a grid of bins, for both frames: which bins touch, and where a step of -1, 0 or 1 leads. Definitions only.
use Rattle.std.specs.Prelude.{None, Option, Some}
use Rattle.std.specs.Prelude.{Bool, true, cond, ◌&&◌, ◌||◌, ◌≡◌, ℕ, ◌+◌, ◌-◌, ◌%◌, ◌≤◌, eqb, ltb, ℤ, pos, negsuc, ◌+ℤ◌}
use Rattle.bins.specs.declared.Axis.{Axis}

-- an axis with a bin, and with three of them where it is periodic
abbrev pub Good : Axis → Type 0
Good ax = (1 ≤ ax.size) × (ax.round ≡ true → 3 ≤ ax.size)

-- b is the bin follows a; on a periodic axis the first comes follows the last
unfoldable pub follows : Axis → ℕ → ℕ → Bool
follows ax a b = eqb b (a + 1) || (ax.round && (eqb (a + 1) ax.size && eqb b 0))

-- 01: equal, or differing by one, or, on a periodic axis, first and last
unfoldable pub touch : Axis → ℕ → ℕ → Bool
unfolding follows
touch ax a b = eqb a b || (follows ax a b || follows ax b a)

-- Rust's `rem_euclid`: v modulo n, from 0 to n - 1, also where v is negative
unfoldable pub rem_euclid : ℤ → ℕ → ℕ
rem_euclid (pos k) n = k % n
rem_euclid (negsuc k) n = n - 1 - k % n

-- v as a bin of an open axis, where it is one
unfoldable pub bin_within : ℕ → ℤ → Option ℕ
bin_within n (pos k) = cond (ltb k n) (Some k) None
bin_within n (negsuc k) = None

-- the bin that the step d leads to from the bin c: neighbor.rs, `offset_index`, lines of one axis. None where it leaves an open axis, and none from
-- what is no bin of the axis, of which the Rust has no case
unfoldable pub stepped : Axis → ℕ → ℤ → Option ℕ
unfolding rem_euclid bin_within
stepped ax c d =
    cond (ltb c ax.size)
    (cond ax.round (Some (rem_euclid (pos c +ℤ d) ax.size)) (bin_within ax.size (pos c +ℤ d)))
    None
