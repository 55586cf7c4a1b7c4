-- The terms over pairs in their order: what each pair adds, and the fold of that over a list (potentials.rs). Definitions only.
use Rattle.std.specs.Prelude.{Option, None}
use Rattle.std.specs.Prelude.{Option}
use Rattle.cell.specs.declared.Lattice.{Lattice}
use Rattle.std.specs.Prelude.{cond, ℕ, Float, length, get_or}
use mathlib.Core.List.{List, foldl}
use Rattle.lists.specs.Atoms.{atoms_of}
use Rattle.float.specs.Literals.{f0}
use Rattle.lists.specs.Lists.{up_to, rows}
use Rattle.cell.specs.declared.Vec3.{Vec3}
use Rattle.cell.specs.declared.Image.{Image}
use Rattle.cell.specs.Vec.{sub_of, position_at}
use Rattle.cell.specs.Cell.{image_of}
use Rattle.virial.specs.Virial.{zero_sum, zero_forces}
use Rattle.ranges.specs.Rows.{is_absent}
use Rattle.potentials_pair.specs.declared.Lj.{Lj}
use Rattle.potentials_pair.specs.declared.Mixed.{Mixed}
use Rattle.potentials_pair.specs.Pull.{Pull, Total, after}
use Rattle.potentials_pair.specs.Lj.{mix_of, lj_pull}
use Rattle.potentials_pair.specs.Coulomb.{neutral, coulomb_pull}
use Rattle.potentials_pair.specs.Bond.{bond_pull}
use Rattle.potentials.specs.declared.Bond.{Bond}

-- ---- pairs in their order

-- `Contribution::zeros`, with so many floats
unfoldable pub zero_total : ℕ → Total
zero_total room = record { sum = zero_sum; forces = zero_forces room }

-- what a pair of n atoms adds; one that names an atom not there adds nothing (refusal 4 leaves no such case: Source.antt)
unfoldable pub step : ℕ → (ℕ × ℕ → Option Pull) → Total → ℕ × ℕ → Total
step n pull t p = cond (is_absent n p) t (after t p (pull p))

-- `accumulate_pairs`, lines 67 to 71: from zero, in the list's order
unfoldable pub over_pairs : ℕ → (ℕ × ℕ → Option Pull) → ℕ → List (ℕ × ℕ) → Total
over_pairs n pull room l = foldl (step n pull) (zero_total room) l

-- ---- how two atoms lie to each other

-- lines 134, 260 and 395: min_image(positions[i] - positions[j], cell); `image` is the minimum image in the cell
unfoldable pub displaced : (Vec3 → Image) → List Float → ℕ × ℕ → Vec3
displaced image xs p = (image (sub_of (position_at xs p.0) (position_at xs p.1))).diff

-- ---- Lennard-Jones. `look` gives a species' epsilon and sigma

-- lines 133 to 157
unfoldable pub lj_pair : (Vec3 → Image) → (ℕ → Mixed) → Lj → List ℕ → List Float → ℕ × ℕ → Option Pull
lj_pair image look lj species xs p =
    lj_pull lj (mix_of lj.rule (look (get_or species p.0 0)) (look (get_or species p.1 0))) (displaced image xs p)

-- `compute_pairs` over a list of pairs
unfoldable pub lj_over : (ℕ → Mixed) → Lj → Option Lattice → List ℕ → List Float → ℕ → List (ℕ × ℕ) → Total
lj_over look lj cell species xs room l = over_pairs (atoms_of xs) (lj_pair (λ d. image_of d cell) look lj species xs) room l

-- ---- Coulomb. ke is KE_COULOMB

-- lines 391 to 406
unfoldable pub coulomb_pair : (Vec3 → Image) → Float → Float → List Float → List Float → ℕ × ℕ → Option Pull
coulomb_pair image ke cutoff charges xs p =
    let a = get_or charges p.0 f0 in
    let b = get_or charges p.1 f0 in
    cond (neutral a b) None (coulomb_pull ke cutoff a b (displaced image xs p))

unfoldable pub coulomb_over : Float → Float → Option Lattice → List Float → List Float → ℕ → List (ℕ × ℕ) → Total
coulomb_over ke cutoff cell charges xs room l = over_pairs (atoms_of xs) (coulomb_pair (λ d. image_of d cell) ke cutoff charges xs) room l

-- ---- bonds

-- lines 258 to 269, for row b: "bonds past the end of `per_bond` or `per_bond_k` take `r0` or `k`"
unfoldable pub bond_pair : (Vec3 → Image) → Bond → List Float → List Float → List Float → ℕ → ℕ × ℕ → Option Pull
bond_pair image bond perBond perBondK xs b p = bond_pull (get_or perBondK b bond.k) (get_or perBond b bond.r0) (displaced image xs p)

-- row b of a table of bonds
unfoldable pub bond_step : (Vec3 → Image) → Bond → List ℕ → List Float → List Float → List Float → Total → ℕ → Total
bond_step image bond bonds perBond perBondK xs t b = step (atoms_of xs) (bond_pair image bond perBond perBondK xs b) t (get_or (rows bonds) b (0, 0))

-- `compute_all`, lines 256 to 271
unfoldable pub bonds_over : Bond → Option Lattice → List ℕ → List Float → List Float → List Float → ℕ → Total
bonds_over bond cell bonds perBond perBondK xs room =
    foldl (bond_step (λ d. image_of d cell) bond bonds perBond perBondK xs) (zero_total room) (up_to (length (rows bonds)))
