-- The loops: the bounding box of the atoms so far, and their places so far. Assumes nothing.
use Prim.Native.Nat.{ℕ, ◌+◌, ◌≤◌, ◌<◌}
use mathlib.Core.Path.{◌≡◌, refl}
use mathlib.Core.List.{List}
use native.Mathlib.Omega.{arith}
use lib.ListN.{length, set}
use lib.Ieee.{Float, inf}
use mathlib.Core.Bool.{true, false}
use Rattle.cell.specs.Vec.{position_at}
use Rattle.lists.specs.Atoms.{atoms_of}
use Rattle.lists.specs.Loops.{map_at, part_at, fold_up_to}
use Rattle.lists.proofs.Loops.{part_turn, part_done, part_length, part_none, fold_up_to_none, fold_up_to_turn}
use Rattle.cell.specs.declared.Vec3.{Vec3}
use Rattle.bins.specs.declared.Grid.{Grid}
use Rattle.neighbor_grid.specs.declared.measuring.Ruler.{Ruler}
use Rattle.neighbor_grid.specs.Grid.{lower_of, upper_of, alike, low_of, high_of}
use Rattle.neighbor_grid.specs.Steps.{place_by}

-- ---- the bounding box of the first atoms
abbrev lows : List Float → ℕ → Vec3 → Vec3
lows xs i lo = lower_of lo (position_at xs i)

abbrev highs : List Float → ℕ → Vec3 → Vec3
highs xs i hi = upper_of hi (position_at xs i)

pub record Bounded (xs : List Float) (lo hi : Vec3) (i : ℕ) : Type 0 where
  pub within : i ≤ atoms_of xs
  pub low : lo ≡ fold_up_to (lows xs) i (alike (inf false))
  pub high : hi ≡ fold_up_to (highs xs) i (alike (inf true))

module _ (xs : List Float) where
  pub bounded_begin : {lo hi : Vec3} → lo ≡ alike (inf false) → hi ≡ alike (inf true) → Bounded xs lo hi 0
  bounded_begin e f =
      record { within = omega arith; low = rw (fold_up_to_none (lows xs) (alike (inf false))) e; high = rw (fold_up_to_none (highs xs) (alike (inf true))) f }

  pub bounded_turn : {lo hi p l h : Vec3} {i : ℕ} → Bounded xs lo hi i → i < atoms_of xs → p ≡ position_at xs i → l ≡ lower_of lo p → h ≡ upper_of hi p → Bounded xs l h (i + 1)
  bounded_turn {i = i} b less e el eh =
      record {
        within = omega arith;
        low = fold_up_to_turn (lows xs) i (alike (inf false)) b.low (rw e at el);
        high = fold_up_to_turn (highs xs) i (alike (inf true)) b.high (rw e at eh);
      }

  pub bounded_low : {lo hi : Vec3} {i : ℕ} → Bounded xs lo hi i → atoms_of xs ≤ i → lo ≡ low_of xs
  unfolding low_of
  bounded_low {i = i} b h = let e : i ≡ atoms_of xs = omega (arith, b.within) in rw e at b.low

  pub bounded_high : {lo hi : Vec3} {i : ℕ} → Bounded xs lo hi i → atoms_of xs ≤ i → hi ≡ high_of xs
  unfolding high_of
  bounded_high {i = i} b h = let e : i ≡ atoms_of xs = omega (arith, b.within) in rw e at b.high

-- ---- the places of the first atoms
pub record Filling (ruler : Ruler) (g : Grid) (xs : List Float) (old new : List ℕ) (i : ℕ) : Type 0 where
  pub within : i ≤ length old
  pub same : length new ≡ length old
  pub part : new ≡ part_at (λ k _. place_by ruler g xs k) i old

module _ (ruler : Ruler) (g : Grid) (xs : List Float) (old : List ℕ) where
  pub filling_begin : Filling ruler g xs old old 0
  filling_begin = record { within = omega arith; same = refl; part = part_none (λ k _. place_by ruler g xs k) 0 old }

  pub filling_turn : {new : List ℕ} {i p : ℕ} → Filling ruler g xs old new i → i < length new → p ≡ place_by ruler g xs i → Filling ruler g xs old (set new i p) (i + 1)
  filling_turn {new} {i} {p} h l e =
      let lt : i < length old = omega (arith, h.same) in
      let q = part_turn (λ k _. place_by ruler g xs k) 0 i old lt h.part e in
      record { within = omega arith; same = part_length (λ k _. place_by ruler g xs k) 0 (i + 1) old q; part = q }

  pub filling_end : {new : List ℕ} {i : ℕ} → Filling ruler g xs old new i → length new ≤ i → new ≡ map_at (λ k _. place_by ruler g xs k) old
  filling_end {new} {i} h l =
      let e : i ≡ length old = omega (arith, h.within, h.same) in part_done (λ k _. place_by ruler g xs k) 0 i old e h.part
