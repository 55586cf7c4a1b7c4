-- What each public call answers, and what it leaves in the lent forces: one relation a call. Tests in 01's order, 1 to 5; a refusal leaves the forces as they came. Definitions only.
use Rattle.std.specs.Prelude.{Err, Ok, Option, Result}
use Rattle.answer.specs.declared.Refusal.{Refusal}
use Rattle.cell.specs.declared.Lattice.{Lattice}
use Rattle.std.specs.Prelude.{◌≡◌, Bool, true, cond, ◌&&◌, List, [], ℕ, ◌/◌, ◌%◌, eqb, ltb, Float, length}
use Rattle.lists.specs.Atoms.{atoms_of}
use Rattle.answer.specs.Seen.{Seen, answered, refused_by, seen}
use Rattle.answer.specs.declared.Refusal.TheVariants.{Lengths, TooMany, Range, NotThere, Order, HouseOrder}
use Rattle.float.specs.Arith.{◌⊗◌, bits}
use Rattle.lists.specs.Lists.{every, rows, all_pairs}
use Rattle.cell.specs.Calls.{when}
use Rattle.cell.specs.Ranged.{cell_in_range}
use Rattle.virial.specs.declared.Sum.{Sum}
use Rattle.virial.specs.declared.Units.{Units}
use Rattle.virial.specs.Calls.{few_atoms}
use Rattle.virial.specs.Ranged.{units_in_range}
use Rattle.ranges.specs.Rows.{absent_of}
use Rattle.potentials_pair.specs.declared.Lj.{Lj}
use Rattle.potentials_pair.specs.declared.Mixing.TheVariants.{HalfSum}
use Rattle.potentials_pair.specs.Pull.{Total}
use Rattle.potentials_pair.specs.Species.{Tables, rising, row_of, look_of}
use Rattle.potentials.specs.declared.Bond.{Bond}
use Rattle.potentials.specs.Ranged.{coordinate, cutoff_ok, charge, rows_in_range, lj_in_range, bond_in_range}
use Rattle.potentials.specs.Terms.{lj_over, coulomb_over, bonds_over}

-- ---- terms made of their numbers

-- `monatomic`, lines 103 to 108; the rule is the Rust's
unfoldable pub monatomic_of : Float → Float → Float → Lj
monatomic_of epsilon sigma cutoff = record { epsilon = epsilon; sigma = sigma; cutoff = cutoff; shift = true; rule = HalfSum }

abbrev pub MonatomicSays : (epsilon sigma cutoff : Float) → Result Lj Refusal → Type 0
MonatomicSays epsilon sigma cutoff r = seen r ≡ when (lj_in_range (monatomic_of epsilon sigma cutoff)) (monatomic_of epsilon sigma cutoff)

-- `argon`, line 113: 0.0103, 3.4 and 2.5 * 3.4
unfoldable pub argon_of : Lj
argon_of = monatomic_of (bits 0x3f85_182a_9930_be0e) (bits 0x400b_3333_3333_3333) (bits 0x4004_0000_0000_0000 ⊗ bits 0x400b_3333_3333_3333)

-- `uniform`, lines 241 to 246
abbrev pub bond_of : Float → Float → Bond
bond_of k r0 = record { k = k; r0 = r0 }

abbrev pub UniformSays : (k r0 : Float) → Result Bond Refusal → Type 0
UniformSays k r0 r = seen r ≡ when (bond_in_range (bond_of k r0)) (bond_of k r0)

-- ---- the tests, in 01's order: 1, 2, 3, 4 with the first of so many rows that names an atom not there, 5
unfoldable pub asked_by : (fits : Bool) (atoms : ℕ) (in_range : Bool) (count absent : ℕ) (order : Result (Unit {0}) Refusal) → Result (Unit {0}) Refusal
asked_by fits atoms in_range count absent order =
    cond fits
    (cond (few_atoms atoms)
    (cond in_range
    (cond (ltb absent count) (Err (NotThere absent))
    order)
    (Err Range))
    (Err (TooMany atoms)))
    (Err Lengths)

-- two floats an id, in a desk's own table and in the house's. The arguments are lengths
unfoldable pub tables_fit : (own_ids own_params ids params : ℕ) → Bool
tables_fit own_ids own_params ids params = eqb (own_params / 2) own_ids && eqb (own_params % 2) 0 && eqb (params / 2) ids && eqb (params % 2) 0

-- 02, No. 7: "5 for either table, the own one first, place 1 for the house table"
unfoldable pub order_asked : (own_ids ids : List ℕ) → Result (Unit {0}) Refusal
order_asked own_ids ids = cond (rising own_ids) (cond (rising ids) (Ok tt) (Err HouseOrder)) (Err Order)

-- 1, 3, 5 of the two tables alone
unfoldable pub rows_asked : Tables → Result (Unit {0}) Refusal
rows_asked t =
    asked_by (tables_fit (length t.own_ids) (length t.own_params) (length t.ids) (length t.params)) 0 (rows_in_range t.own_params t.params) 0 0
    (order_asked t.own_ids t.ids)

-- 1: three floats an atom, tables that fit, a species an atom, two atoms a row, forces as long as positions. The others are lengths
unfoldable pub lj_fits : (tables : Bool) (species xs pairs forces : ℕ) → Bool
lj_fits tables species xs pairs forces = eqb (xs % 3) 0 && tables && eqb species (xs / 3) && eqb (pairs % 2) 0 && eqb forces xs

unfoldable pub coulomb_fits : (charges xs pairs forces : ℕ) → Bool
coulomb_fits charges xs pairs forces = eqb (xs % 3) 0 && eqb charges (xs / 3) && eqb (pairs % 2) 0 && eqb forces xs

unfoldable pub bonds_fit : (xs bonds forces : ℕ) → Bool
bonds_fit xs bonds forces = eqb (xs % 3) 0 && eqb (bonds % 2) 0 && eqb forces xs

-- 3
unfoldable pub lj_ranges : Lj → Option Lattice → List Float → List Float → List Float → Bool
lj_ranges lj cell own_params params xs = lj_in_range lj && cell_in_range cell && rows_in_range own_params params && every coordinate xs

unfoldable pub coulomb_ranges : Units → Float → Option Lattice → List Float → List Float → Bool
coulomb_ranges units cutoff cell charges xs = units_in_range units && cutoff_ok cutoff && cell_in_range cell && every charge charges && every coordinate xs

unfoldable pub bonds_ranges : Bond → Option Lattice → List Float → List Float → List Float → Bool
bonds_ranges bond cell perBond perBondK xs =
    bond_in_range bond && cell_in_range cell && every coordinate perBond && every coordinate perBondK && every coordinate xs

-- species, forces and pairs are lengths; absent is the first bad row of the pairs
unfoldable pub lj_asked : Lj → Option Lattice → Tables → (species : ℕ) → List Float → (forces pairs absent : ℕ) → Result (Unit {0}) Refusal
lj_asked lj cell t species xs forces pairs absent =
    asked_by (lj_fits (tables_fit (length t.own_ids) (length t.own_params) (length t.ids) (length t.params)) species (length xs) pairs forces) (atoms_of xs)
    (lj_ranges lj cell t.own_params t.params xs) (pairs / 2) absent (order_asked t.own_ids t.ids)

unfoldable pub coulomb_asked : Units → Float → Option Lattice → List Float → List Float → (forces pairs absent : ℕ) → Result (Unit {0}) Refusal
coulomb_asked units cutoff cell charges xs forces pairs absent =
    asked_by (coulomb_fits (length charges) (length xs) pairs forces) (atoms_of xs) (coulomb_ranges units cutoff cell charges xs)
    (pairs / 2) absent (Ok tt)

unfoldable pub bonds_asked : Bond → Option Lattice → (bonds : ℕ) → List Float → List Float → List Float → (forces absent : ℕ) → Result (Unit {0}) Refusal
bonds_asked bond cell bonds perBond perBondK xs forces absent =
    asked_by (bonds_fit (length xs) bonds forces) (atoms_of xs) (bonds_ranges bond cell perBond perBondK xs) (bonds / 2) absent (Ok tt)

-- ---- the outcome: what is seen, and the forces at exit

pub record Outcome : Type 0 where
  pub answer : Seen Sum
  pub forces : List Float

-- answered, the forces are the term's own; refused, as they came
abbrev pub outcome_of : Result (Unit {0}) Refusal → Total → List Float → Outcome
outcome_of (Ok tt) t forces = record { answer = answered t.sum; forces = t.forces }
outcome_of (Err r) t forces = record { answer = refused_by r; forces = forces }

abbrev pub left : Result Sum Refusal → List Float → Outcome
left r after = record { answer = seen r; forces = after }

-- a species' row: where the tables are refused, the empty part
abbrev pub row_after : Result (Unit {0}) Refusal → List Float → List Float
row_after (Ok tt) row = row
row_after (Err r) row = []

abbrev pub SpeciesRowSays : Tables → (species : ℕ) → List Float → Type 0
SpeciesRowSays t z r = r ≡ row_after (rows_asked t) (row_of t z)

abbrev pub SpeciesRowAskedSays : Tables → Result (Unit {0}) Refusal → Type 0
SpeciesRowAskedSays t r = r ≡ rows_asked t

abbrev pub LjPairsSays : (lj : Lj) (cell : Option Lattice) (tab : Tables) (species : List ℕ) (positions : List Float) (pairs : List ℕ) (forces : List Float) → Result Sum Refusal → (after : List Float) → Type 0
LjPairsSays lj cell tab species xs pairs forces r after =
    left r after
    ≡ outcome_of (lj_asked lj cell tab (length species) xs (length forces) (length pairs) (absent_of (atoms_of xs) (rows pairs)))
    (lj_over (look_of tab lj) lj cell species xs (length forces) (rows pairs)) forces

-- without listed pairs 4 has no row
abbrev pub LjAllSays : (lj : Lj) (cell : Option Lattice) (tab : Tables) (species : List ℕ) (positions forces : List Float) → Result Sum Refusal → (after : List Float) → Type 0
LjAllSays lj cell tab species xs forces r after =
    left r after
    ≡ outcome_of (lj_asked lj cell tab (length species) xs (length forces) 0 0)
    (lj_over (look_of tab lj) lj cell species xs (length forces) (all_pairs (atoms_of xs))) forces

abbrev pub CoulombPairsSays : (units : Units) (cutoff : Float) (cell : Option Lattice) (charges positions : List Float) (pairs : List ℕ) (forces : List Float) → Result Sum Refusal → (after : List Float) → Type 0
CoulombPairsSays units cutoff cell charges xs pairs forces r after =
    left r after
    ≡ outcome_of (coulomb_asked units cutoff cell charges xs (length forces) (length pairs) (absent_of (atoms_of xs) (rows pairs)))
    (coulomb_over units.ke_coulomb cutoff cell charges xs (length forces) (rows pairs)) forces

abbrev pub CoulombAllSays : (units : Units) (cutoff : Float) (cell : Option Lattice) (charges positions forces : List Float) → Result Sum Refusal → (after : List Float) → Type 0
CoulombAllSays units cutoff cell charges xs forces r after =
    left r after
    ≡ outcome_of (coulomb_asked units cutoff cell charges xs (length forces) 0 0)
    (coulomb_over units.ke_coulomb cutoff cell charges xs (length forces) (all_pairs (atoms_of xs))) forces

abbrev pub BondsAllSays : (bond : Bond) (cell : Option Lattice) (bonds : List ℕ) (perBond perBondK positions forces : List Float) → Result Sum Refusal → (after : List Float) → Type 0
BondsAllSays bond cell bonds perBond perBondK xs forces r after =
    left r after
    ≡ outcome_of (bonds_asked bond cell (length bonds) perBond perBondK xs (length forces) (absent_of (atoms_of xs) (rows bonds)))
    (bonds_over bond cell bonds perBond perBondK xs (length forces)) forces
