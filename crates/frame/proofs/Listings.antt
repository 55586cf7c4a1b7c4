-- Laws of the loops over candidates: one pair of the frame, and what a row of the sweep lists. Assumes nothing.
use Prim.Native.Nat.{ℕ, ◌+◌, ◌-◌, ◌/◌, ◌≤◌, ◌<◌}
use mathlib.Core.Path.{◌≡◌, ap, ◌∙◌}
use mathlib.Core.Bool.{Bool}
use mathlib.Core.List.{List}
use native.Mathlib.Omega.{arith}
use lib.ListN.{length}
use Rattle.lists.specs.Lists.{ordered}
use Rattle.bins.specs.declared.Cell.{Cell}
use Rattle.bins.specs.declared.Grid.{Grid}
use Rattle.bins.specs.Edge.{gap, distance}
use Rattle.bins.specs.Stencil.{InGrid, flatten}
use Rattle.bins.specs.Sort.{atoms_in}
use Rattle.bins.specs.Listing.{Listing, consider_of, Below}
use Rattle.bins.proofs.TraversalLaws.{bin_less}
use Rattle.bins.proofs.Runs.{step_rising, step_falling}
use Rattle.candidates.specs.Checks.{lazy}
use Rattle.candidates.specs.Steps.{judged}
use Rattle.frame.specs.declared.Side.{Side}
use Rattle.frame.specs.declared.Frame.{Frame}
use Rattle.frame.specs.declared.Spot.{Spot}
use Rattle.frame.specs.Distance.{spot_of, along, squared_of, near_of}
use Rattle.frame.specs.Steps.{looked_by, scene_by, atoms_by, Swept}
use Rattle.frame.specs.Laying.{cell_at}

-- ---- the distance is the same both ways
along_turned : (e : Side) (a b : ℕ) → along e a b ≡ along e b a
unfolding distance gap
along_turned e a b = let q : (a - b) + (b - a) ≡ (b - a) + (a - b) = omega arith in rw q

pub near_turned : (f : Frame) (a b : Spot) → near_of f a b ≡ near_of f b a
unfolding near_of squared_of
near_turned f a b = rw (along_turned f.x a.x b.x, along_turned f.y a.y b.y, along_turned f.z a.z b.z)

-- ---- one pair
module _ (f : Frame) (xs table : List ℕ) (s r : Listing) (low high : ℕ) {near : Bool} where
  settled : near ≡ near_of f (spot_of xs low) (spot_of xs high) → r ≡ consider_of (judged table near) s (low, high) → r ≡ consider_of (scene_by f xs table) s (low, high)
  unfolding consider_of judged lazy looked_by
  settled e q = rw (← e) q

module _ (f : Frame) (xs table : List ℕ) (s r : Listing) (i j : ℕ) {a b : Spot} {near : Bool} (ea : a ≡ spot_of xs i) (eb : b ≡ spot_of xs j) (en : near ≡ near_of f a b) where
  is_near : near ≡ near_of f (spot_of xs i) (spot_of xs j)
  is_near = rw (← ea, ← eb) en

  pub pair_rising : i < j → r ≡ consider_of (judged table near) s (i, j) → r ≡ consider_of (scene_by f xs table) s (ordered i j)
  pair_rising h q = step_rising (scene_by f xs table) s r i j (omega arith) (settled f xs table s r i j is_near q)

  pub pair_falling : j ≤ i → r ≡ consider_of (judged table near) s (j, i) → r ≡ consider_of (scene_by f xs table) s (ordered i j)
  pair_falling h q =
      step_falling (scene_by f xs table) s r i j h
      (settled f xs table s r j i (is_near ∙ near_turned f (spot_of xs i) (spot_of xs j)) q)

-- ---- a cell's atoms, as the tables hand them out
module _ {f : Frame} {g : Grid} {xs starts items : List ℕ} (w : Swept f g xs starts items) {c : Cell} (k : InGrid g c) {p : ℕ} {part : List ℕ} (ep : p ≡ flatten g c) (e : part ≡ atoms_in p starts items) where
  pub part_is : part ≡ atoms_by f xs c
  part_is = e ∙ ap (λ (q : ℕ). atoms_in q starts items) ep ∙ w.part c k

  pub part_below : Below (length xs / 3) part
  part_below = rw part_is (bin_less (length xs / 3) (cell_at f xs) c)
