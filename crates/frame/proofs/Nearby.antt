-- Near atoms lie in bins that touch, so the bins excuse nothing: the listed pairs are exactly the near ones that are not excluded. Assumes nothing.
use Prim.Native.Nat.{ℕ, ◌+◌, ◌*◌, ◌/◌, ◌≤◌, ◌<◌}
use mathlib.Core.Path.{◌≡◌}
use mathlib.Core.Bool.{true, false}
use mathlib.Core.List.{List}
use mathlib.Core.Logic.{⊎_elim}
use native.Mathlib.Nat.{mul-le-mul, add-mul, mul-add}
use native.Mathlib.Omega.{arith}
use lib.ListN.{length}
use borrow.Author.Tests.{leb-true, le-leb}
use Rattle.lists.specs.Exact.{Exactly}
use Rattle.lists.specs.Lists.{Two}
use Rattle.lists.proofs.Cases.{below_or, true_or_false, both_and}
use Rattle.lists.proofs.Exactness.{exactly_as}
use Rattle.bins.specs.Stencil.{touching}
use Rattle.bins.specs.Listing.{close, Chosen}
use Rattle.bins.proofs.EdgeLaws.{close_touch}
use Rattle.bins.proofs.Found.{plain_found, nothing_excused}
use Rattle.frame.specs.declared.Frame.{Frame}
use Rattle.frame.specs.declared.Spot.{Spot}
use Rattle.frame.specs.Distance.{spot_of, along, square_of, squared_of, near_of}
use Rattle.frame.specs.Laying.{grid_of, cell_of_spot, cell_at, plain_of}
use Rattle.frame.specs.Build.{Given, scene_of, candidates, near_pairs}
use Rattle.frame.specs.Listed.{Close}
use Rattle.frame.specs.Steps.{Inside, Framed}
use Rattle.frame.proofs.Tables.{placed}
use Rattle.frame.proofs.Builds.{good_grid}

pub root_le : (a r : ℕ) → square_of a ≤ square_of r → a ≤ r
root_le a r h =
    ⊎_elim
    (λ (l : r < a).
    let b : (r + 1) * (r + 1) ≤ a * a = mul-le-mul {n₁ = r + 1} {m₁ = r + 1} {n₂ = a} {m₂ = a} (omega arith) (omega arith) in
    absurd (omega (arith, add-mul r 1 (r + 1), mul-add r r 1)))
    (λ (l : a ≤ r). l) (below_or r a)

-- on three axes
pub near_touches : (f : Frame) (a b : Spot) → Inside f a → Inside f b → near_of f a b ≡ true → touching (grid_of f) (cell_of_spot f a) (cell_of_spot f b) ≡ true
unfolding near_of squared_of touching grid_of cell_of_spot
near_touches f a b ka kb h =
    let dx = along f.x a.x b.x in
    let dy = along f.y a.y b.y in
    let dz = along f.z a.z b.z in
    let s = leb-true (square_of dx + square_of dy + square_of dz) (square_of f.radius) h in
    both_and _ _ (close_touch f.x.round f.x.edge f.radius a.x b.x ka.x kb.x (root_le dx f.radius (omega arith)))
    (both_and _ _ (close_touch f.y.round f.y.edge f.radius a.y b.y ka.y kb.y (root_le dy f.radius (omega arith)))
    (close_touch f.z.round f.z.edge f.radius a.z b.z ka.z kb.z (root_le dz f.radius (omega arith))))

module _ (f : Frame) (xs table : List ℕ) (framed : Framed f xs) where
  chosen_exactly : Exactly (λ p. Two (length xs / 3) p × Chosen (scene_of f xs table) p) (near_pairs f xs table)
  unfolding near_pairs candidates
  chosen_exactly = ⊎_elim plain grid (true_or_false (plain_of f))
    where
      plain : plain_of f ≡ true → Exactly (λ p. Two (length xs / 3) p × Chosen (scene_of f xs table) p) (near_pairs f xs table)
      plain e = rw e (plain_found (scene_of f xs table) (length xs / 3))

      touches : (p : ℕ × ℕ) → Two (length xs / 3) p → close (scene_of f xs table) p ≡ true → touching (grid_of f) (cell_at f xs p.0) (cell_at f xs p.1) ≡ true
      touches p t h =
          let low = t.0 in
          let high = t.1 in
          near_touches f (spot_of xs p.0) (spot_of xs p.1) (framed.inside p.0 (omega arith)) (framed.inside p.1 high) (unfold scene_of in h)

      grid : plain_of f ≡ false → Exactly (λ p. Two (length xs / 3) p × Chosen (scene_of f xs table) p) (near_pairs f xs table)
      grid e =
          rw e
          (nothing_excused (scene_of f xs table) (grid_of f) (good_grid f e) (length xs / 3) (cell_at f xs) (placed f xs framed) touches)

-- THEOREM. The pairs that a build lists are exactly the unexcluded ones within the radius, once each.
pub near_exactly : (i : Given) → Framed i.frame i.coordinates → Exactly (Close i) (near_pairs i.frame i.coordinates i.exclusions)
unfolding scene_of near_of
near_exactly i framed =
    exactly_as (near_pairs i.frame i.coordinates i.exclusions) (chosen_exactly i.frame i.coordinates i.exclusions framed)
    (λ p u. (u.0, u.1.0, leb-true _ _ u.1.1))
    (λ p u. (u.0, (u.1, le-leb _ _ u.2)))
