-- What a row of a desk's own table changes of a pair's pull and of a call; that it is gone when it is taken out; that an empty own table is none. Assumes nothing.
use Rattle.std.specs.Prelude.{Option}
use Rattle.std.specs.Prelude.{Err, Ok, Option, Result}
use Rattle.answer.specs.declared.Refusal.{Refusal}
use Rattle.cell.specs.declared.Lattice.{Lattice}
use Rattle.virial.specs.declared.Sum.{Sum}
use mathlib.Core.Path.{◌≡◌, refl, ap, ap₂, sym, ◌∙◌}
use mathlib.Core.Bool.{false, cond}
use mathlib.Core.List.{List, []}
use Prim.Native.Nat.{ℕ}
use lib.Dec.{eqb}
use lib.Ieee.{Float}
use lib.ListN.{length, get_or}
use borrow.Author.Tests.{eqb-false}
use Rattle.lists.specs.Atoms.{atoms_of}
use Rattle.lists.specs.Exact.{◌∈◌}
use Rattle.lists.specs.Lists.{numbers, every, first_where, rows, all_pairs}
use Rattle.lists.proofs.Cases.{by_test, or_neither}
use Rattle.lists.proofs.First.{fold_same}
use Rattle.cell.specs.Cell.{image_of}
use Rattle.ranges.specs.Rows.{is_absent, absent_of}
use Rattle.potentials_pair.specs.declared.Lj.{Lj}
use Rattle.potentials_pair.specs.declared.Mixed.{Mixed}
use Rattle.potentials_pair.specs.Pull.{Pull, Total, after}
use Rattle.potentials_pair.specs.Lj.{mix_of, lj_pull}
use Rattle.potentials_pair.specs.Species.{Tables, tables, rising, look_of}
use Rattle.potentials_pair.specs.Desks.{with_row, Places}
use Rattle.potentials_pair.proofs.Desks.{others_stay, taken_out}
use Rattle.potentials.specs.Ranged.{rows_in_range}
use Rattle.potentials.specs.Terms.{displaced, step, over_pairs, zero_total, lj_pair, lj_over}
use Rattle.potentials.specs.Calls.{tables_fit, order_asked, lj_ranges, lj_asked, outcome_of}
use Rattle.potentials.specs.Source.{accumulated, in_table, in_tables}
use Rattle.potentials.specs.Desks.{has_atom, changed_pull, one_asked, OtherPairsStay, LjPairsChange, LjAllChange, LjPairsStay, LjPairsBack, LjAllBack, SpeciesRowBack, EmptyOwn, EmptyOwnPairs, EmptyOwnAll}
use Rattle.potentials.proofs.Source.{lj_pairs_by_source, lj_all_by_source}

-- ---- the pairs of other species
pub other_pairs_stay : (k s : ℕ) (epsilon sigma : Float) (t : Tables) → OtherPairsStay k s epsilon sigma t
unfolding lj_pair
other_pairs_stay k s epsilon sigma t h image lj species xs p e =
    let n = or_neither (eqb (get_or species p.0 0) s) (eqb (get_or species p.1 0) s) e in
    ap₂ (λ (y z : Mixed). lj_pull lj (mix_of lj.rule y z) (displaced image xs p)) (others_stay k s epsilon sigma t h lj (get_or species p.0 0) (eqb-false _ _ n.0))
    (others_stay k s epsilon sigma t h lj (get_or species p.1 0) (eqb-false _ _ n.1))

module _ (k s : ℕ) (epsilon sigma : Float) (t : Tables) (h : Places k t) (lj : Lj) (cell : Option Lattice) (species : List ℕ) (xs : List Float) where
  pull_changed : (p : ℕ × ℕ) → lj_pair (λ d. image_of d cell) (look_of (with_row k s epsilon sigma t) lj) lj species xs p ≡ changed_pull k s epsilon sigma t lj cell species xs p
  pull_changed p =
      by_test
      (λ b. lj_pair (λ d. image_of d cell) (look_of (with_row k s epsilon sigma t) lj) lj species xs p
      ≡ cond b (lj_pair (λ d. image_of d cell) (look_of (with_row k s epsilon sigma t) lj) lj species xs p) (lj_pair (λ d. image_of d cell) (look_of t lj) lj species xs p))
      (has_atom s species p)
      (λ _. refl)
      (λ e. other_pairs_stay k s epsilon sigma t h (λ d. image_of d cell) lj species xs p e)

  over_changed : (room : ℕ) (l : List (ℕ × ℕ)) → lj_over (look_of (with_row k s epsilon sigma t) lj) lj cell species xs room l ≡ over_pairs (atoms_of xs) (changed_pull k s epsilon sigma t lj cell species xs) room l
  unfolding lj_over
  over_changed room l = ap (λ (pull : ℕ × ℕ → Option Pull). over_pairs (atoms_of xs) pull room l) (λ i p. pull_changed p i)

  pub over_stays : (room : ℕ) (l : List (ℕ × ℕ)) → ((p : ℕ × ℕ) → p ∈ l → has_atom s species p ≡ false)
      → lj_over (look_of (with_row k s epsilon sigma t) lj) lj cell species xs room l ≡ lj_over (look_of t lj) lj cell species xs room l
  unfolding lj_over over_pairs step
  over_stays room l none =
      fold_same _ _ l
      (λ p m u. ap (λ (q : Option Pull). cond (is_absent (atoms_of xs) p) u (after u p q)) (other_pairs_stay k s epsilon sigma t h (λ d. image_of d cell) lj species xs p (none p m)))
      (zero_total room)

-- ---- a row put into the own table, of the calls
module _ (k s : ℕ) (epsilon sigma : Float) (t : Tables) (lj : Lj) (cell : Option Lattice) (species : List ℕ) (xs forces : List Float) (r : Result Sum Refusal) (exit : List Float) where
  pub lj_pairs_change : (pairs : List ℕ) → LjPairsChange k s epsilon sigma t lj cell species xs pairs forces r exit
  lj_pairs_change pairs h e =
      e ∙ ap (λ (u : Total). outcome_of (lj_asked lj cell (with_row k s epsilon sigma t) (length species) xs (length forces) (length pairs) (absent_of (atoms_of xs) (rows pairs))) u forces) (over_changed k s epsilon sigma t h lj cell species xs (length forces) (rows pairs))

  pub lj_all_change : LjAllChange k s epsilon sigma t lj cell species xs forces r exit
  lj_all_change h e =
      e ∙ ap (λ (u : Total). outcome_of (lj_asked lj cell (with_row k s epsilon sigma t) (length species) xs (length forces) 0 0) u forces) (over_changed k s epsilon sigma t h lj cell species xs (length forces) (all_pairs (atoms_of xs)))

  pub lj_pairs_stay : (pairs : List ℕ) → LjPairsStay k s epsilon sigma t lj cell species xs pairs forces r exit
  lj_pairs_stay pairs h none a b e =
      e
      ∙ ap₂ (λ (d : Result (Unit {0}) Refusal) (u : Total). outcome_of d u forces) (a ∙ sym b) (over_stays k s epsilon sigma t h lj cell species xs (length forces) (rows pairs) none)

  -- ---- taken out again
  pub lj_pairs_back : (pairs : List ℕ) → LjPairsBack k s epsilon sigma t lj cell species xs pairs forces r exit
  lj_pairs_back pairs h e = rw (taken_out k s epsilon sigma t h) at e

  pub lj_all_back : LjAllBack k s epsilon sigma t lj cell species xs forces r exit
  lj_all_back h e = rw (taken_out k s epsilon sigma t h) at e

pub species_row_back : (k s : ℕ) (epsilon sigma : Float) (t : Tables) (z : ℕ) (r : List Float) → SpeciesRowBack k s epsilon sigma t z r
species_row_back k s epsilon sigma t z r h e = rw (taken_out k s epsilon sigma t h) at e

-- ---- an empty own table
pub empty_own : (ids : List ℕ) (params : List Float) → EmptyOwn ids params
unfolding first_where
empty_own ids params lj z = refl

-- what an outcome is made of matters where the tests pass
outcome_by : (d : Result (Unit {0}) Refusal) (u v : Total) (forces : List Float) → (d ≡ Ok tt → u ≡ v) → outcome_of d u forces ≡ outcome_of d v forces
outcome_by (Ok tt) u v forces e = ap (λ (w : Total). outcome_of (Ok tt) w forces) (e refl)
outcome_by (Err r) u v forces e = refl

module _ (lj : Lj) (cell : Option Lattice) (ids : List ℕ) (params : List Float) (species : List ℕ) (xs forces : List Float) (r : Result Sum Refusal) (exit : List Float) where
  asked_one : (pairs absent : ℕ) → lj_asked lj cell (tables [] [] ids params) (length species) xs (length forces) pairs absent ≡ one_asked lj cell ids params (length species) xs (length forces) pairs absent
  unfolding lj_asked one_asked lj_ranges tables_fit order_asked rows_in_range rising every numbers
  asked_one pairs absent = refl

  looked_one : (l : List (ℕ × ℕ)) → accumulated (lj_pair (λ d. image_of d cell) (in_tables (tables [] [] ids params) lj) lj species xs) (length forces) l
      ≡ accumulated (lj_pair (λ d. image_of d cell) (in_table ids params lj) lj species xs) (length forces) l
  looked_one l = ap (λ (look : ℕ → Mixed). accumulated (lj_pair (λ d. image_of d cell) look lj species xs) (length forces) l) (λ i z. empty_own ids params lj z i)

  pub empty_own_pairs : (pairs : List ℕ) → EmptyOwnPairs lj cell ids params species xs pairs forces r exit
  empty_own_pairs pairs e =
      e
      ∙ outcome_by _ _ _ forces (λ a. lj_pairs_by_source lj cell (tables [] [] ids params) species xs forces pairs a ∙ looked_one (rows pairs))
      ∙ ap (λ (d : Result (Unit {0}) Refusal). outcome_of d (accumulated (lj_pair (λ d. image_of d cell) (in_table ids params lj) lj species xs) (length forces) (rows pairs)) forces) (asked_one _ _)

  pub empty_own_all : EmptyOwnAll lj cell ids params species xs forces r exit
  empty_own_all e =
      e
      ∙ outcome_by _ _ _ forces (λ a. lj_all_by_source lj cell (tables [] [] ids params) species xs forces a ∙ looked_one (all_pairs (atoms_of xs)))
      ∙ ap (λ (d : Result (Unit {0}) Refusal). outcome_of d (accumulated (lj_pair (λ d. image_of d cell) (in_table ids params lj) lj species xs) (length forces) (all_pairs (atoms_of xs))) forces) (asked_one _ _)
