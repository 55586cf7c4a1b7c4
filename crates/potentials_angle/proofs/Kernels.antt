-- The loops over row numbers under way, the atoms of a row, and the term from zero in a prepared cell. Assumes nothing.
use Rattle.std.specs.Prelude.{Option}
use Rattle.cell.specs.declared.Lattice.{Lattice}
use mathlib.Core.Path.{◌≡◌, ap, ◌∙◌}
use mathlib.Core.Bool.{Bool, true, false, ◌&&◌}
use mathlib.Core.List.{List, foldl}
use Prim.Native.Nat.{ℕ, suc, ◌+◌, ◌-◌, ◌/◌, ◌<◌, ◌≤◌}
use native.Mathlib.Nat.{sub-zero}
use borrow.Author.Tests.{ltb-true, not-false}
use lib.Dec.{ltb}
use lib.Ieee.{Float}
use lib.ListN.{length}
use Rattle.lists.specs.Lists.{numbers, up_to, every, first_where}
use Rattle.lists.proofs.Cases.{and_both}
use Rattle.lists.proofs.Walks.{numbers_next, numbers_end}
use Rattle.cell.specs.declared.Vec3.{Vec3}
use Rattle.cell.specs.declared.Image.{Image}
use Rattle.cell_prepared.specs.declared.Prepared.{Prepared}
use Rattle.cell_prepared.specs.Facts.{prepare_of, image_in}
use Rattle.cell_prepared.proofs.Law.{prepared_all}
use Rattle.virial.specs.declared.Sum.{Sum}
use Rattle.virial.specs.Virial.{zero_sum, zero_forces}
use Rattle.potentials_pair.specs.Pull.{held, Total}
use Rattle.potentials.specs.Terms.{zero_total}
use Rattle.potentials_angle.specs.declared.Angle.{Angle}
use Rattle.potentials_angle.specs.declared.Corner.{Corner}
use Rattle.potentials_angle.specs.Rows.{is_missing}
use Rattle.potentials_angle.specs.Terms.{angle_step, angles_over}

-- ---- a test of the numbers below m, from k on
module _ (q : ℕ → Bool) (m k : ℕ) where
  pub every_begins : every q (up_to m) ≡ every q (numbers 0 (m - 0))
  every_begins = rw (sub-zero m)

  pub every_holds : k < m → q k ≡ true → every q (numbers k (m - k)) ≡ every q (numbers (k + 1) (m - (k + 1)))
  unfolding every
  every_holds h t = rw (numbers_next m k h, t)

  pub every_breaks : k < m → q k ≡ false → every q (numbers k (m - k)) ≡ false
  unfolding every
  every_breaks h t = rw (numbers_next m k h, t)

  pub every_ends : m ≤ k → every q (numbers k (m - k)) ≡ true
  unfolding every
  every_ends h = rw (numbers_end m k h)

  pub first_begins : first_where q (up_to m) ≡ first_where q (numbers 0 (m - 0))
  first_begins = rw (sub-zero m)

  pub first_found : k < m → q k ≡ true → first_where q (numbers k (m - k)) ≡ 0
  unfolding first_where
  first_found h t = rw (numbers_next m k h, t)

  pub first_later : k < m → q k ≡ false → first_where q (numbers k (m - k)) ≡ suc (first_where q (numbers (k + 1) (m - (k + 1))))
  unfolding first_where
  first_later h t = rw (numbers_next m k h, t)

  pub first_ends : m ≤ k → first_where q (numbers k (m - k)) ≡ 0
  unfolding first_where
  first_ends h = rw (numbers_end m k h)

-- the three atoms of a row are there
pub three_there : (n : ℕ) (c : Corner) → is_missing n c ≡ false → (c.first < n) × (c.apex < n) × (c.last < n)
three_there n c e =
    let a = ltb c.first n in
    let b = ltb c.apex n in
    let d = ltb c.last n in
    let p = and_both (a && b) d (not-false (a && b && d) e) in
    let q = and_both a b p.0 in
    (ltb-true c.first n q.0, ltb-true c.apex n q.1, ltb-true c.last n p.1)

module _ (cell : Option Lattice) {p : Prepared} {sum : Sum} {forces : List Float} (room : ℕ) (P : p ≡ prepare_of cell) (S : sum ≡ zero_sum) (F : forces ≡ zero_forces room) where
  start : held sum forces ≡ zero_total room
  unfolding zero_total
  start = rw (S, F)

  pub angles_from_zero : (angle : Angle) (angles : List ℕ) (per xs : List Float) {r : Total}
      → r ≡ foldl (angle_step (λ d. image_in p d) angle angles per xs) (held sum forces) (up_to (length angles / 3)) → r ≡ angles_over angle cell angles per xs room
  unfolding angles_over
  angles_from_zero angle angles per xs e =
      e
      ∙ ap (λ (t : Total). foldl (angle_step (λ d. image_in p d) angle angles per xs) t (up_to (length angles / 3))) start
      ∙ ap (λ (q : Prepared). foldl (angle_step (λ d. image_in q d) angle angles per xs) (zero_total room) (up_to (length angles / 3))) P
      ∙ ap (λ (image : Vec3 → Image). foldl (angle_step image angle angles per xs) (zero_total room) (up_to (length angles / 3))) (prepared_all cell)
