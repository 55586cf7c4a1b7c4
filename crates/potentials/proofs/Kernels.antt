-- A term's loop, started from zero in a prepared cell, is the term; and what the tests of a call show. Assumes nothing.
use Rattle.std.specs.Prelude.{Option}
use Rattle.cell.specs.declared.Lattice.{Lattice}
use mathlib.Core.Path.{◌≡◌, ap, ap₂, ◌∙◌}
use mathlib.Core.Bool.{false, ◌&&◌}
use mathlib.Core.List.{List, foldl}
use Prim.Native.Nat.{ℕ, ◌<◌}
use borrow.Author.Tests.{ltb-true, not-false}
use lib.Dec.{ltb}
use lib.Ieee.{Float}
use lib.ListN.{length}
use Rattle.lists.specs.Atoms.{atoms_of}
use Rattle.cell.specs.declared.Vec3.{Vec3}
use Rattle.cell.specs.declared.Image.{Image}
use Rattle.cell.specs.Vec.{sub_of, position_at}
use Rattle.lists.specs.Lists.{up_to, rows}
use Rattle.lists.proofs.Cases.{and_both}
use Rattle.cell_prepared.specs.declared.Prepared.{Prepared}
use Rattle.cell_prepared.specs.Facts.{prepare_of, image_in}
use Rattle.cell_prepared.proofs.Law.{prepared_all}
use Rattle.ranges.specs.Rows.{is_absent}
use Rattle.virial.specs.declared.Sum.{Sum}
use Rattle.virial.specs.Virial.{zero_sum, zero_forces}
use Rattle.potentials_pair.specs.declared.Lj.{Lj}
use Rattle.potentials_pair.specs.Pull.{held, Total}
use Rattle.potentials_pair.specs.Species.{Tables, look_by}
use Rattle.potentials.specs.declared.Bond.{Bond}
use Rattle.potentials.specs.Terms.{zero_total, displaced, step, over_pairs, lj_pair, lj_over, coulomb_pair, coulomb_over, bond_step, bonds_over}
use Rattle.potentials.specs.Steps.{lj_step, coulomb_step}

-- both atoms of a pair are there
pub both_there : (n i j : ℕ) → is_absent n (i, j) ≡ false → (i < n) × (j < n)
both_there n i j e =
    let p = and_both (ltb i n) (ltb j n) (not-false (ltb i n && ltb j n) e) in
    (ltb-true i n p.0, ltb-true j n p.1)

-- the difference of two atoms, as the code makes it
pub displaced_by : (p : Prepared) (xs : List Float) (i j : ℕ) {a b d : Vec3} {r : Image} → a ≡ position_at xs i → b ≡ position_at xs j → d ≡ sub_of a b → r ≡ image_in p d → r.diff ≡ displaced (λ v. image_in p v) xs (i, j)
unfolding displaced
displaced_by p xs i j A B D R = ap (λ (v : Image). v.diff) (R ∙ ap (image_in p) (D ∙ ap₂ sub_of A B))

module _ (cell : Option Lattice) {p : Prepared} {sum : Sum} {forces : List Float} (room : ℕ) (P : p ≡ prepare_of cell) (S : sum ≡ zero_sum) (F : forces ≡ zero_forces room) where
  start : held sum forces ≡ zero_total room
  unfolding zero_total
  start = rw (S, F)

  pub lj_from_zero : (lj : Lj) (tab : Tables) (species : List ℕ) (xs : List Float) (l : List (ℕ × ℕ)) {r : Total}
      → r ≡ foldl (lj_step lj p tab species xs) (held sum forces) l → r ≡ lj_over (look_by tab lj) lj cell species xs room l
  unfolding lj_over over_pairs lj_step
  lj_from_zero lj tab species xs l e =
      e
      ∙ ap (λ (t : Total). foldl (step (atoms_of xs) (lj_pair (λ d. image_in p d) (look_by tab lj) lj species xs)) t l) start
      ∙ ap (λ (q : Prepared). foldl (step (atoms_of xs) (lj_pair (λ d. image_in q d) (look_by tab lj) lj species xs)) (zero_total room) l) P
      ∙ ap (λ (image : Vec3 → Image). foldl (step (atoms_of xs) (lj_pair image (look_by tab lj) lj species xs)) (zero_total room) l) (prepared_all cell)

  pub coulomb_from_zero : (ke cutoff : Float) (charges xs : List Float) (l : List (ℕ × ℕ)) {r : Total}
      → r ≡ foldl (coulomb_step ke cutoff p charges xs) (held sum forces) l → r ≡ coulomb_over ke cutoff cell charges xs room l
  unfolding coulomb_over over_pairs coulomb_step
  coulomb_from_zero ke cutoff charges xs l e =
      e
      ∙ ap (λ (t : Total). foldl (step (atoms_of xs) (coulomb_pair (λ d. image_in p d) ke cutoff charges xs)) t l) start
      ∙ ap (λ (q : Prepared). foldl (step (atoms_of xs) (coulomb_pair (λ d. image_in q d) ke cutoff charges xs)) (zero_total room) l) P
      ∙ ap (λ (image : Vec3 → Image). foldl (step (atoms_of xs) (coulomb_pair image ke cutoff charges xs)) (zero_total room) l) (prepared_all cell)

  pub bonds_from_zero : (bond : Bond) (table : List ℕ) (lengths ks xs : List Float) {r : Total}
      → r ≡ foldl (bond_step (λ d. image_in p d) bond table lengths ks xs) (held sum forces) (up_to (length (rows table))) → r ≡ bonds_over bond cell table lengths ks xs room
  unfolding bonds_over
  bonds_from_zero bond table lengths ks xs e =
      e
      ∙ ap (λ (t : Total). foldl (bond_step (λ d. image_in p d) bond table lengths ks xs) t (up_to (length (rows table)))) start
      ∙ ap (λ (q : Prepared). foldl (bond_step (λ d. image_in q d) bond table lengths ks xs) (zero_total room) (up_to (length (rows table)))) P
      ∙ ap (λ (image : Vec3 → Image). foldl (bond_step image bond table lengths ks xs) (zero_total room) (up_to (length (rows table)))) (prepared_all cell)
