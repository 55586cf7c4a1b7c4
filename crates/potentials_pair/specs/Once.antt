-- Lennard-Jones with all that depends on the two species alone computed once. Nobody has to believe it: proofs/Once.antt shows that it is `ljNear`. Definitions only.
use Rattle.std.specs.Prelude.{Option, Some}
use Rattle.potentials_pair.specs.Pull.{Pull}
use Rattle.std.specs.Prelude.{Bool, cond, Float}
use Rattle.std.specs.Float.Ieee.{neg}
use Rattle.float.specs.Literals.{f1, f2, f3, f4, f6}
use Rattle.float.specs.Arith.{◌⊕◌, ◌⊖◌, ◌⊗◌, ◌⊘◌}
use Rattle.cell.specs.declared.Vec3.{Vec3}
use Rattle.cell.specs.Vec.{scale_of}
use Rattle.potentials_pair.specs.declared.Lj.{Lj}
use Rattle.potentials_pair.specs.declared.Mixed.{Mixed}
use Rattle.potentials_pair.specs.declared.Numbers.{Numbers}
use Rattle.potentials_pair.specs.Lj.{cube}

unfoldable pub numbers_of : Lj → Mixed → Numbers
numbers_of lj m =
    let sc6 = cube (m.sigma ⊗ m.sigma ⊘ (lj.cutoff ⊗ lj.cutoff)) in
    record { depth = f4 ⊗ m.epsilon; square = m.sigma ⊗ m.sigma; shift = f4 ⊗ m.epsilon ⊗ (sc6 ⊗ sc6 ⊖ sc6) }

unfoldable pub energy_by : Bool → Numbers → Float → Float
energy_by shift n r2 =
    let s6 = cube (n.square ⊗ (f1 ⊘ r2)) in
    let e = n.depth ⊗ (s6 ⊗ s6 ⊖ s6) in
    cond shift (e ⊖ n.shift) e

unfoldable pub slope_by : Numbers → Float → Float
slope_by n r2 =
    let inverse = f1 ⊘ r2 in
    let s6 = cube (n.square ⊗ inverse) in
    neg f2 ⊗ (n.depth ⊗ (neg f6 ⊗ (s6 ⊗ s6) ⊕ f3 ⊗ s6) ⊗ inverse)

unfoldable pub near_by : Bool → Numbers → Vec3 → Float → Option Pull
near_by shift n d r2 = Some (record { energy = energy_by shift n r2; d = d; f = scale_of d (slope_by n r2) })
