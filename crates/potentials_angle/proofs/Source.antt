-- After passed tests every row's atoms are there, and so the term is the Rust's own loop. Assumes nothing.
use Rattle.std.specs.Prelude.{Option}
use Rattle.cell.specs.declared.Lattice.{Lattice}
use Prim.Native.Nat.{ℕ, ◌/◌}
use mathlib.Core.Path.{◌≡◌}
use mathlib.Core.Bool.{false}
use mathlib.Core.List.{List}
use lib.Dec.{ltb}
use lib.Ieee.{Float}
use lib.ListN.{length}
use Rattle.lists.specs.Atoms.{atoms_of}
use Rattle.lists.specs.Exact.{◌∈◌}
use Rattle.lists.specs.Lists.{up_to}
use Rattle.lists.proofs.Exactness.{length_up_to}
use Rattle.lists.proofs.First.{fold_same, none_passes}
use Rattle.cell.specs.Cell.{image_of}
use Rattle.potentials_pair.specs.Pull.{Total}
use Rattle.potentials.specs.Terms.{zero_total}
use Rattle.potentials.proofs.Outcomes.{asked_told}
use Rattle.potentials_angle.specs.declared.Angle.{Angle}
use Rattle.potentials_angle.specs.Bend.{bent}
use Rattle.potentials_angle.specs.Rows.{corner_at, is_missing, missing_of}
use Rattle.potentials_angle.specs.Terms.{angle_bend, angle_step, angles_over}
use Rattle.potentials_angle.specs.Calls.{angles_asked}
use Rattle.potentials_angle.specs.Source.{AnglesAllBySource}

module _ (angle : Angle) (cell : Option Lattice) (angles : List ℕ) (per xs forces : List Float) where
  -- what row r adds, as in the source
  abbrev adds : Total → ℕ → Total
  adds t r = bent t (corner_at angles r) (angle_bend (λ d. image_of d cell) angle per xs r (corner_at angles r))

  step_there : (t : Total) (r : ℕ) → is_missing (atoms_of xs) (corner_at angles r) ≡ false → angle_step (λ d. image_of d cell) angle angles per xs t r ≡ adds t r
  unfolding angle_step
  step_there t r e = rw e

  module _ (h : ltb (missing_of (atoms_of xs) angles) (length angles / 3) ≡ false) where
    row_there : (r : ℕ) → r ∈ up_to (length angles / 3) → is_missing (atoms_of xs) (corner_at angles r) ≡ false
    unfolding missing_of
    row_there = none_passes (λ r. is_missing (atoms_of xs) (corner_at angles r)) (up_to (length angles / 3)) (rw (length_up_to (length angles / 3)) h)

  pub angles_all_by_source : AnglesAllBySource angle cell angles per xs forces
  unfolding angles_over angles_asked
  angles_all_by_source e =
      fold_same (angle_step (λ d. image_of d cell) angle angles per xs) adds (up_to (length angles / 3))
      (λ r m t. step_there t r (row_there (asked_told _ _ _ _ _ _ e).there r m)) (zero_total (length forces))
