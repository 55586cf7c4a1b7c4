-- The Coulomb term for one pair, in the source's order, one rounding an operation. Definitions only.
use Rattle.std.specs.Prelude.{Option, Some, None}
use Rattle.std.specs.Prelude.{Bool, cond, ◌||◌, Float}
use Rattle.std.specs.Float.Ieee.{eq}
use Rattle.float.specs.Literals.{f0}
use Rattle.float.specs.Arith.{◌⊗◌, ◌⊘◌}
use Rattle.float.specs.Def.{root_of}
use Rattle.cell.specs.declared.Vec3.{Vec3}
use Rattle.cell.specs.Vec.{scale_of, norm2_of}
use Rattle.potentials_pair.specs.Pull.{Pull, skips}

-- line 392: charges[i] == 0.0 || charges[j] == 0.0
unfoldable pub neutral : Float → Float → Bool
neutral p q = eq p f0 || eq q f0

-- lines 400 to 405: qq is KE_COULOMB * charges[i] * charges[j], r2 the square of d
unfoldable pub coulomb_near : Float → Vec3 → Float → Option Pull
coulomb_near qq d r2 = Some (record { energy = qq ⊘ root_of r2; d = d; f = scale_of d (qq ⊘ (r2 ⊗ root_of r2)) })

-- lines 396 to 405, with the charges p and q; ke is KE_COULOMB
unfoldable pub coulomb_pull : Float → Float → Float → Float → Vec3 → Option Pull
coulomb_pull ke cutoff p q d = cond (skips cutoff (norm2_of d)) None (coulomb_near (ke ⊗ p ⊗ q) d (norm2_of d))
