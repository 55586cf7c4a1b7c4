-- A harmonic bond, in the source's order, one rounding an operation. Definitions only.
use Rattle.std.specs.Prelude.{Option, Some, None}
use Rattle.potentials_pair.specs.Pull.{Pull}
use Rattle.std.specs.Prelude.{cond, Float}
use Rattle.std.specs.Float.Ieee.{lt, neg}
use Rattle.float.specs.Literals.{tiny, half}
use Rattle.float.specs.Arith.{◌⊖◌, ◌⊗◌, ◌⊘◌}
use Rattle.cell.specs.declared.Vec3.{Vec3}
use Rattle.cell.specs.Vec.{scale_of, norm_of}

-- lines 265 to 269: r is the length of d
unfoldable pub bond_near : Float → Float → Vec3 → Float → Option Pull
bond_near k r0 d r =
    let dr = r ⊖ r0 in
    Some (record { energy = half ⊗ k ⊗ dr ⊗ dr; d = d; f = scale_of d (neg k ⊗ dr ⊘ r) })

-- lines 261 to 269: r < 1e-12 is skipped
unfoldable pub bond_pull : Float → Float → Vec3 → Option Pull
bond_pull k r0 d = cond (lt (norm_of d) tiny) None (bond_near k r0 d (norm_of d))

-- the two floats of `bondNear`, for the code
unfoldable pub bond_energy : Float → Float → Float → Float
bond_energy k r0 r = half ⊗ k ⊗ (r ⊖ r0) ⊗ (r ⊖ r0)

unfoldable pub bond_slope : Float → Float → Float → Float
bond_slope k r0 r = neg k ⊗ (r ⊖ r0) ⊘ r
