-- What the terms are after passed tests: the Rust's own loops and lookup, with no pair passed over and no row missing. One statement a call; proofs/Source.antt proves each of
-- every input. Definitions only.
use Rattle.std.specs.Prelude.{Option}
use Rattle.std.specs.Prelude.{Ok, Option}
use Rattle.cell.specs.declared.Lattice.{Lattice}
use Rattle.std.specs.Prelude.{◌≡◌, cond, ℕ, ◌+◌, ◌*◌, eqb, ltb, Float, length, get_or}
use mathlib.Core.List.{List, foldl}
use Rattle.lists.specs.Atoms.{atoms_of}
use Rattle.lists.specs.Lists.{first_where, up_to, rows, all_pairs}
use Rattle.float.specs.Arith.{at}
use Rattle.cell.specs.Cell.{image_of}
use Rattle.virial.specs.declared.Units.{Units}
use Rattle.ranges.specs.Rows.{absent_of}
use Rattle.potentials_pair.specs.declared.Lj.{Lj}
use Rattle.potentials_pair.specs.declared.Mixed.{Mixed}
use Rattle.potentials_pair.specs.Pull.{Pull, Total, after}
use Rattle.potentials_pair.specs.Species.{Tables, default_of, look_of}
use Rattle.potentials.specs.declared.Bond.{Bond}
use Rattle.potentials.specs.Terms.{zero_total, lj_pair, lj_over, coulomb_pair, coulomb_over, bond_pair, bonds_over}
use Rattle.potentials.specs.Calls.{lj_asked, coulomb_asked, bonds_asked}

-- lines 67 to 71: from zero, what each pair adds, in the list's order
abbrev pub accumulated : (ℕ × ℕ → Option Pull) → ℕ → List (ℕ × ℕ) → Total
accumulated pull room l = foldl (λ t p. after t p (pull p)) (zero_total room) l

-- lines 118 and 119: the row of the species z where the table has it, else the default
abbrev pub in_table : List ℕ → List Float → Lj → ℕ → Mixed
in_table ids params lj z =
    let k = first_where (λ id. eqb id z) ids in
    cond (ltb k (length ids)) (record { epsilon = at params (2 * k); sigma = at params (2 * k + 1) }) (default_of lj)

-- .. in the desk's own table where that has it (02, No. 7)
abbrev pub in_tables : Tables → Lj → ℕ → Mixed
in_tables tab lj z =
    let k = first_where (λ id. eqb id z) tab.own_ids in
    cond (ltb k (length tab.own_ids)) (record { epsilon = at tab.own_params (2 * k); sigma = at tab.own_params (2 * k + 1) }) (in_table tab.ids tab.params lj z)

-- lines 125 to 158
abbrev pub LjPairsBySource : (lj : Lj) (cell : Option Lattice) (tab : Tables) (species : List ℕ) (positions : List Float) (pairs : List ℕ) (forces : List Float) → Type 0
LjPairsBySource lj cell tab species xs pairs forces =
    lj_asked lj cell tab (length species) xs (length forces) (length pairs) (absent_of (atoms_of xs) (rows pairs)) ≡ Ok tt
    → lj_over (look_of tab lj) lj cell species xs (length forces) (rows pairs)
    ≡ accumulated (lj_pair (λ d. image_of d cell) (in_tables tab lj) lj species xs) (length forces) (rows pairs)

-- .. over all pairs, lines 75 to 83
abbrev pub LjAllBySource : (lj : Lj) (cell : Option Lattice) (tab : Tables) (species : List ℕ) (positions forces : List Float) → Type 0
LjAllBySource lj cell tab species xs forces =
    lj_asked lj cell tab (length species) xs (length forces) 0 0 ≡ Ok tt
    → lj_over (look_of tab lj) lj cell species xs (length forces) (all_pairs (atoms_of xs))
    ≡ accumulated (lj_pair (λ d. image_of d cell) (in_tables tab lj) lj species xs) (length forces) (all_pairs (atoms_of xs))

-- lines 383 to 407
abbrev pub CoulombPairsBySource : (units : Units) (cutoff : Float) (cell : Option Lattice) (charges positions : List Float) (pairs : List ℕ) (forces : List Float) → Type 0
CoulombPairsBySource units cutoff cell charges xs pairs forces =
    coulomb_asked units cutoff cell charges xs (length forces) (length pairs) (absent_of (atoms_of xs) (rows pairs)) ≡ Ok tt
    → coulomb_over units.ke_coulomb cutoff cell charges xs (length forces) (rows pairs)
    ≡ accumulated (coulomb_pair (λ d. image_of d cell) units.ke_coulomb cutoff charges xs) (length forces) (rows pairs)

-- .. over all pairs; no test is needed for it
abbrev pub CoulombAllBySource : (units : Units) (cutoff : Float) (cell : Option Lattice) (charges positions forces : List Float) → Type 0
CoulombAllBySource units cutoff cell charges xs forces =
    coulomb_over units.ke_coulomb cutoff cell charges xs (length forces) (all_pairs (atoms_of xs))
    ≡ accumulated (coulomb_pair (λ d. image_of d cell) units.ke_coulomb cutoff charges xs) (length forces) (all_pairs (atoms_of xs))

-- lines 256 to 271: row b of the bonds, b rising
abbrev pub BondsAllBySource : (bond : Bond) (cell : Option Lattice) (bonds : List ℕ) (perBond perBondK positions forces : List Float) → Type 0
BondsAllBySource bond cell bonds perBond perBondK xs forces =
    bonds_asked bond cell (length bonds) perBond perBondK xs (length forces) (absent_of (atoms_of xs) (rows bonds)) ≡ Ok tt
    → bonds_over bond cell bonds perBond perBondK xs (length forces)
    ≡ foldl (λ t b. after t (get_or (rows bonds) b (0, 0)) (bond_pair (λ d. image_of d cell) bond perBond perBondK xs b (get_or (rows bonds) b (0, 0)))) (zero_total (length forces)) (up_to (length (rows bonds)))
