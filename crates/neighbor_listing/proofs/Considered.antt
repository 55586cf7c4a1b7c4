-- A cell's atoms, as the tables hand them out. Assumes nothing.
use Prim.Native.Nat.{ℕ}
use mathlib.Core.Path.{◌≡◌}
use mathlib.Core.List.{List}
use Rattle.bins.specs.declared.Cell.{Cell}
use Rattle.bins.specs.declared.Grid.{Grid}
use Rattle.bins.specs.Stencil.{InGrid, flatten}
use Rattle.bins.specs.Sort.{atoms_in}
use Rattle.bins.specs.Listing.{Below}
use Rattle.neighbor_listing.specs.Steps.{atoms_by, Swept}

module _ {g : Grid} {n : ℕ} {starts items : List ℕ} (w : Swept g n starts items) {c : Cell} (k : InGrid g c) {p : ℕ} {part : List ℕ} (ep : p ≡ flatten g c) (e : part ≡ atoms_in p starts items) where
  pub part_is : part ≡ atoms_by g starts items c
  part_is = rw ep at e

  pub part_below : Below n part
  part_below = rw part_is (w.below c k)
