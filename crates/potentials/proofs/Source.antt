-- After passed tests every pair's atoms are there and every species of the table has its row, and so each term is the Rust's own loop. Assumes nothing.
use Rattle.std.specs.Prelude.{Option}
use Rattle.std.specs.Prelude.{Ok, Option}
use Rattle.cell.specs.declared.Lattice.{Lattice}
use Prim.Native.Nat.{ℕ, ◌+◌, ◌*◌, ◌/◌, ◌%◌, ◌<◌}
use native.Mathlib.Omega.{arith}
use mathlib.Core.Path.{◌≡◌, ap, ◌∙◌}
use mathlib.Core.Logic.{⊎_elim}
use mathlib.Core.Bool.{Bool, true, false, ◌&&◌}
use mathlib.Core.List.{List, [], ◌∷◌}
use lib.Dec.{eqb, ltb}
use lib.Ieee.{Float, nan}
use lib.ListN.{length, get_or, take, drop}
use borrow.Author.Tests.{lt-ltb, ltb-true, eqb-true}
use Rattle.lists.specs.Atoms.{atoms_of}
use Rattle.lists.specs.Exact.{◌∈◌}
use Rattle.lists.specs.Lists.{first_where, up_to, rows, all_pairs, Two}
use Rattle.lists.proofs.Cases.{true_or_false, and_both}
use Rattle.lists.proofs.Exactness.{mem_up_to, mem_get_d, all_exactly}
use Rattle.lists.proofs.First.{fold_same, none_there}
use Rattle.lists.proofs.Rows.{length_rows}
use Rattle.lists.proofs.Walks.{drop_next}
use Rattle.float.specs.Arith.{at}
use Rattle.cell.specs.Cell.{image_of}
use Rattle.virial.specs.declared.Units.{Units}
use Rattle.ranges.specs.Rows.{is_absent, absent_of}
use Rattle.potentials_pair.specs.declared.Lj.{Lj}
use Rattle.potentials_pair.specs.declared.Mixed.{Mixed}
use Rattle.potentials_pair.specs.Pull.{Pull, Total, after}
use Rattle.potentials_pair.specs.Species.{Tables, params_at, row_in, row_of, numbers_in, look_of}
use Rattle.potentials.specs.declared.Bond.{Bond}
use Rattle.potentials.specs.Terms.{zero_total, step, over_pairs, lj_pair, lj_over, coulomb_over, bond_step, bonds_over}
use Rattle.potentials.specs.Calls.{tables_fit, lj_fits, lj_asked, coulomb_asked, bonds_asked}
use Rattle.potentials.specs.Source.{accumulated, in_table, in_tables, LjPairsBySource, LjAllBySource, CoulombPairsBySource, CoulombAllBySource, BondsAllBySource}
use Rattle.potentials.proofs.Outcomes.{asked_told}

-- a pair whose atoms are there is not passed over
step_there : (n : ℕ) (pull : ℕ × ℕ → Option Pull) (t : Total) (p : ℕ × ℕ) → is_absent n p ≡ false → step n pull t p ≡ after t p (pull p)
unfolding step
step_there n pull t p e = rw e

-- ---- every pair's atoms are there
pub two_there : (n : ℕ) (p : ℕ × ℕ) → Two n p → is_absent n p ≡ false
two_there n p u = let l = u.0 in let h = u.1 in rw (lt-ltb p.0 n (omega arith), lt-ltb p.1 n h)

module _ (n : ℕ) (table : List ℕ) (h : ltb (absent_of n (rows table)) (length table / 2) ≡ false) where
  row_there : (k : ℕ) → k < length (rows table) → is_absent n (get_or (rows table) k (0, 0)) ≡ false
  unfolding absent_of
  row_there = none_there (0, 0) (is_absent n) (rows table) (rw (length_rows table) h)

  pair_there : (p : ℕ × ℕ) → p ∈ rows table → is_absent n p ≡ false
  pair_there p m = let r = mem_get_d (0, 0) (rows table) m in rw r.2 at (row_there r.0 r.1)

-- ---- the loop over pairs
over_there : (n : ℕ) (pull : ℕ × ℕ → Option Pull) (room : ℕ) (l : List (ℕ × ℕ)) → ((p : ℕ × ℕ) → p ∈ l → is_absent n p ≡ false) → over_pairs n pull room l ≡ accumulated pull room l
unfolding over_pairs
over_there n pull room l h = fold_same (step n pull) (λ t p. after t p (pull p)) l (λ p m t. step_there n pull t p (h p m)) (zero_total room)

all_there : (n : ℕ) (pull : ℕ × ℕ → Option Pull) (room : ℕ) → over_pairs n pull room (all_pairs n) ≡ accumulated pull room (all_pairs n)
all_there n pull room = over_there n pull room (all_pairs n) (λ p m. two_there n p ((all_exactly n).sound p m))

-- ---- Lennard-Jones
two_of : (l : List Float) (k : ℕ) → k + 1 < length l → take 2 (drop k l) ≡ at l k ∷ (at l (k + 1) ∷ [])
two_of l k h = ap (take 2) (drop_next nan l k (omega arith)) ∙ ap (λ (m : List Float). at l k ∷ take 1 m) (drop_next nan l (k + 1) h)

fit_rows : (own_ids own_params ids params : ℕ) → tables_fit own_ids own_params ids params ≡ true → (own_params / 2 ≡ own_ids) × (params / 2 ≡ ids)
unfolding tables_fit
fit_rows own_ids own_params ids params e =
    let a = eqb (own_params / 2) own_ids in
    let b = eqb (own_params % 2) 0 in
    let c = eqb (params / 2) ids in
    let u = and_both (a && b) c (and_both (a && b && c) (eqb (params % 2) 0) e).0 in
    (eqb-true (own_params / 2) own_ids (and_both a b u.0).0, eqb-true (params / 2) ids u.1)

fit_tables : (tables : Bool) (species xs pairs forces : ℕ) → lj_fits tables species xs pairs forces ≡ true → tables ≡ true
unfolding lj_fits
fit_tables tables species xs pairs forces e =
    let a = eqb (xs % 3) 0 in
    let d = eqb species (xs / 3) in
    let f = eqb (pairs % 2) 0 in
    (and_both a tables (and_both (a && tables) d (and_both (a && tables && d) f (and_both (a && tables && d && f) (eqb forces xs) e).0).0).0).1

-- the row of a table that has as many rows as ids
module _ (ids : List ℕ) (params : List Float) (e : length params / 2 ≡ length ids) (lj : Lj) (z : ℕ) where
  abbrev place : ℕ
  place = first_where (λ id. eqb id z) ids

  abbrev there : Bool
  there = ltb place (length ids)

  row_found : there ≡ true → row_in ids params z ≡ at params (2 * place) ∷ (at params (2 * place + 1) ∷ [])
  unfolding row_in params_at
  row_found h = rw (h, e, h) (two_of params (2 * place) (omega (arith, ltb-true place (length ids) h)))

  row_none : there ≡ false → row_in ids params z ≡ []
  unfolding row_in
  row_none h = rw h

module _ (lj : Lj) (tab : Tables) (e : length tab.own_params / 2 ≡ length tab.own_ids) (f : length tab.params / 2 ≡ length tab.ids) where
  house_looked : (z : ℕ) → numbers_in (row_in tab.ids tab.params z) lj ≡ in_table tab.ids tab.params lj z
  unfolding numbers_in
  house_looked z =
      ⊎_elim
      (λ (h : there tab.ids tab.params f lj z ≡ true). rw (row_found tab.ids tab.params f lj z h, h))
      (λ (h : there tab.ids tab.params f lj z ≡ false). rw (row_none tab.ids tab.params f lj z h, h))
      (true_or_false (there tab.ids tab.params f lj z))

  looked : (z : ℕ) → look_of tab lj z ≡ in_tables tab lj z
  unfolding look_of row_of numbers_in
  looked z =
      ⊎_elim
      (λ (h : there tab.own_ids tab.own_params e lj z ≡ true). rw (row_found tab.own_ids tab.own_params e lj z h, h))
      (λ (h : there tab.own_ids tab.own_params e lj z ≡ false). rw (row_none tab.own_ids tab.own_params e lj z h, h) (house_looked z))
      (true_or_false (there tab.own_ids tab.own_params e lj z))

  looked_all : ◌≡◌ {A = ℕ → Mixed} (look_of tab lj) (in_tables tab lj)
  looked_all = λ i z. looked z i

module _ (lj : Lj) (cell : Option Lattice) (tab : Tables) (species : List ℕ) (xs forces : List Float) where
  module _ (pairs absent : ℕ) (e : lj_asked lj cell tab (length species) xs (length forces) pairs absent ≡ Ok tt) where
    lj_tables : (length tab.own_params / 2 ≡ length tab.own_ids) × (length tab.params / 2 ≡ length tab.ids)
    unfolding lj_asked
    lj_tables = fit_rows _ _ _ _ (fit_tables _ _ _ _ _ (asked_told _ _ _ _ _ _ e).lengths)

    lj_named : ltb absent (pairs / 2) ≡ false
    unfolding lj_asked
    lj_named = (asked_told _ _ _ _ _ _ e).there

    lj_loop : (l : List (ℕ × ℕ)) → ((p : ℕ × ℕ) → p ∈ l → is_absent (atoms_of xs) p ≡ false)
        → lj_over (look_of tab lj) lj cell species xs (length forces) l ≡ accumulated (lj_pair (λ d. image_of d cell) (in_tables tab lj) lj species xs) (length forces) l
    unfolding lj_over
    lj_loop l h =
        ap (λ (look : ℕ → Mixed). over_pairs (atoms_of xs) (lj_pair (λ d. image_of d cell) look lj species xs) (length forces) l) (looked_all lj tab lj_tables.0 lj_tables.1)
        ∙ over_there (atoms_of xs) (lj_pair (λ d. image_of d cell) (in_tables tab lj) lj species xs) (length forces) l h

  pub lj_pairs_by_source : (pairs : List ℕ) → LjPairsBySource lj cell tab species xs pairs forces
  lj_pairs_by_source pairs e = lj_loop _ _ e (rows pairs) (pair_there (atoms_of xs) pairs (lj_named _ _ e))

  pub lj_all_by_source : LjAllBySource lj cell tab species xs forces
  lj_all_by_source e = lj_loop 0 0 e (all_pairs (atoms_of xs)) (λ p m. two_there (atoms_of xs) p ((all_exactly (atoms_of xs)).sound p m))

-- ---- Coulomb
module _ (units : Units) (cutoff : Float) (cell : Option Lattice) (charges xs forces : List Float) where
  pub coulomb_pairs_by_source : (pairs : List ℕ) → CoulombPairsBySource units cutoff cell charges xs pairs forces
  unfolding coulomb_over coulomb_asked
  coulomb_pairs_by_source pairs e = over_there (atoms_of xs) _ (length forces) (rows pairs) (pair_there (atoms_of xs) pairs (asked_told _ _ _ _ _ _ e).there)

  pub coulomb_all_by_source : CoulombAllBySource units cutoff cell charges xs forces
  unfolding coulomb_over
  coulomb_all_by_source = all_there (atoms_of xs) _ (length forces)

-- ---- bonds
module _ (bond : Bond) (cell : Option Lattice) (bonds : List ℕ) (perBond perBondK xs forces : List Float) where
  pub bonds_all_by_source : BondsAllBySource bond cell bonds perBond perBondK xs forces
  unfolding bonds_over bond_step bonds_asked
  bonds_all_by_source e =
      fold_same _ _ (up_to (length (rows bonds)))
      (λ b m t. step_there (atoms_of xs) _ t _ (row_there (atoms_of xs) bonds (asked_told _ _ _ _ _ _ e).there b (mem_up_to _ m)))
      (zero_total (length forces))
