-- The number of bins on an axis, from a signed number, and the bin of a fraction. Assumes nothing.
use Prim.Native.Nat.{ℕ, ◌≤◌, ◌<◌}
use mathlib.Core.Path.{◌≡◌, refl, ap, ◌∙◌}
use mathlib.Core.Bool.{true, false}
use mathlib.Core.List.{List}
use native.Mathlib.Omega.{arith}
use lib.IntN.{ℤ, pos, negsuc}
use lib.ListN.{length, take}
use lib.Signed.{mag, lt_z}
use lib.Ieee.{Float}
use lib.Ieee.Casts.{to_signed_in}
use borrow.Author.Tests.{ltb-true, ltb-false}
use mir.Syntax.{w64}
use mir.Val.{SFits, to_z, of_z}
use mir.Facts.{to_z-of_z}
use Rattle.lists.proofs.Cases.{impossible}
use Rattle.cell.specs.Vec.{position_at}
use Rattle.lists.specs.Atoms.{atoms_of}
use Rattle.lists.specs.Loops.{map_at}
use Rattle.cell.specs.declared.Vec3.{Vec3}
use Rattle.bins.specs.declared.Grid.{Grid}
use Rattle.bins.specs.declared.Cell.{Cell as Home}
use Rattle.bins.specs.Stencil.{InGrid, flatten}
use Rattle.bins.proofs.FlatLaws.{flatten_less}
use Rattle.neighbor_grid.specs.declared.measuring.Ruler.{Ruler}
use Rattle.neighbor_grid.specs.Grid.{bins_in, size_of, bin_of, cell_in}
use Rattle.neighbor_grid.specs.Steps.{Wide, Small, fraction_by, cell_by, place_by}
use Rattle.bins.proofs.Tables.{Filled}

pub size_some : (d : ℤ) → 1 ≤ size_of d
unfolding size_of
size_some (pos n) = omega arith
size_some (negsuc n) = omega arith

-- what the test `d < 1` says
below_one : (d : ℤ) → lt_z d (pos 1) ≡ true → 1 ≡ size_of d
unfolding size_of
below_one (pos n) h = let z : n < 1 = ltb-true n 1 h in omega arith
below_one (negsuc n) h = refl

from_one : (d : ℤ) → lt_z d (pos 1) ≡ false → d ≡ pos (size_of d)
unfolding size_of
from_one (pos n) h = let z : 1 ≤ n = ltb-false n 1 h in ap pos (omega arith)
from_one (negsuc n) h = impossible (cc)

module _ (d : ℤ) (fits : SFits w64 d) where
  pub size_one : lt_z (to_z w64 (of_z w64 d)) (pos 1) ≡ true → 1 ≡ size_of d
  size_one h = below_one d (rw (to_z-of_z fits) at h)

  pub size_whole : lt_z (to_z w64 (of_z w64 d)) (pos 1) ≡ false → to_z w64 (of_z w64 d) ≡ pos (size_of d)
  size_whole h = to_z-of_z fits ∙ from_one d (rw (to_z-of_z fits) at h)

  pub size_fits : size_of d < 18446744073709551616
  size_fits = fit d fits.sfits
    where
      fit : (d : ℤ) → mag d < 9223372036854775808 → size_of d < 18446744073709551616
      fit (pos n) h = unfold size_of in omega arith
      fit (negsuc n) h = unfold size_of in omega arith

-- the number of bins through the machine's sixty-four bits
pub bins_back : (w r : Float) → to_z w64 (of_z w64 (bins_in w r)) ≡ bins_in w r
unfolding bins_in
bins_back w r = to_z-of_z {w = w64} (record { sfits = to_signed_in 63 _ })

-- the bin is one of the axis
bin_less : (size : ℕ) (f : Float) → 1 ≤ size → bin_of size f < size
unfolding bin_of
bin_less size f h = omega arith

pub in_some : (g : Grid) → Wide g → (f : Vec3) → InGrid g (cell_in g f)
unfolding cell_in
in_some g some f = (bin_less g.x.size f.x some.x, bin_less g.y.size f.y some.y, bin_less g.z.size f.z some.z)

pub place_small : (g : Grid) → Small g → (f : Vec3) {c : Home} {r : ℕ} → c ≡ cell_in g f → r ≡ flatten g c → r < 32768
place_small g small f e p = let q = rw e at p in omega (arith, q, flatten_less g (cell_in g f) (in_some g small.some f), small.few)

pub filled : (ruler : Ruler) {g : Grid} (xs : List Float) (room done : List ℕ) → Small g → length room ≡ 16384 → atoms_of xs ≤ 16384
    → done ≡ map_at (λ i _. place_by ruler g xs i) (take (atoms_of xs) room) → Filled g (atoms_of xs) (cell_by ruler g xs) room done
filled ruler {g} xs room done small big few are =
    record { placed = λ k l. in_some g small.some (fraction_by ruler (position_at xs k)); big = big; few = few; are = are }
