-- Lennard-Jones for one pair, in the source's order, one rounding an operation. Definitions only.
use Rattle.std.specs.Prelude.{Option, Some, None}
use Rattle.std.specs.Prelude.{cond, Float}
use Rattle.std.specs.Float.Ieee.{neg}
use Rattle.float.specs.Literals.{f1, f2, f3, f4, f6, half}
use Rattle.float.specs.Arith.{◌⊕◌, ◌⊖◌, ◌⊗◌, ◌⊘◌}
use Rattle.float.specs.Def.{root_of}
use Rattle.cell.specs.declared.Vec3.{Vec3}
use Rattle.cell.specs.Vec.{scale_of, norm2_of}
use Rattle.potentials_pair.specs.declared.Lj.{Lj}
use Rattle.potentials_pair.specs.declared.Mixed.{Mixed}
use Rattle.potentials_pair.specs.declared.Mixing.{Mixing}
use Rattle.potentials_pair.specs.declared.Mixing.TheVariants.{HalfSum, Geometric}
use Rattle.potentials_pair.specs.Pull.{Pull, skips}

-- 02, No. 10: "mix sigma by the geometric mean, root of the product, where the Rust takes the half sum"
unfoldable pub sigma_of : Mixing → Float → Float → Float
sigma_of HalfSum a b = half ⊗ (a ⊕ b)
sigma_of Geometric a b = root_of (a ⊗ b)

-- `pair_params`, line 121: ((ei * ej).sqrt(), 0.5 * (si + sj)). "Epsilon mixes as before"
unfoldable pub mix_of : Mixing → Mixed → Mixed → Mixed
mix_of rule a b = record { epsilon = root_of (a.epsilon ⊗ b.epsilon); sigma = sigma_of rule a.sigma b.sigma }

-- s * s * s
abbrev pub cube : Float → Float
cube s = s ⊗ s ⊗ s

-- lines 144 to 149: the shift divides by rc2, where s6 comes of a product with 1 / r2
unfoldable pub lj_energy : Lj → Mixed → Float → Float → Float
lj_energy lj m s6 s12 =
    let e = f4 ⊗ m.epsilon ⊗ (s12 ⊖ s6) in
    let sc6 = cube (m.sigma ⊗ m.sigma ⊘ (lj.cutoff ⊗ lj.cutoff)) in
    cond lj.shift (e ⊖ f4 ⊗ m.epsilon ⊗ (sc6 ⊗ sc6 ⊖ sc6)) e

-- lines 140 to 156: r2 is the square of d
unfoldable pub lj_near : Lj → Mixed → Vec3 → Float → Option Pull
lj_near lj m d r2 =
    let inverse = f1 ⊘ r2 in
    let s6 = cube (m.sigma ⊗ m.sigma ⊗ inverse) in
    let s12 = s6 ⊗ s6 in
    let slope = f4 ⊗ m.epsilon ⊗ (neg f6 ⊗ s12 ⊕ f3 ⊗ s6) ⊗ inverse in
    Some (record { energy = lj_energy lj m s6 s12; d = d; f = scale_of d (neg f2 ⊗ slope) })

-- lines 135 to 156, over the mixed numbers
unfoldable pub lj_pull : Lj → Mixed → Vec3 → Option Pull
lj_pull lj m d = cond (skips lj.cutoff (norm2_of d)) None (lj_near lj m d (norm2_of d))
