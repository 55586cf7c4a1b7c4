-- One angle (02, No. 1): potentials.rs, `HarmonicAngles::compute_all`, lines 322 to 356, with the energy half k times the square of (cosine less its rest cosine), and with
-- `coef` = -(k times that difference). In the source's order, one rounding an operation. Definitions only.
use Rattle.std.specs.Prelude.{Bool, cond, ◌||◌, List, Float}
use Rattle.std.specs.Float.Ieee.{lt, neg}
use Rattle.float.specs.Literals.{half, f1}
use Rattle.float.specs.Arith.{◌⊖◌, ◌⊗◌, ◌⊘◌}
use Rattle.float.specs.Def.{clamp_of}
use Rattle.cell.specs.declared.Vec3.{Vec3}
use Rattle.cell.specs.Cell.{nano}
use Rattle.cell.specs.Vec.{sub_of, add_of, scale_of, dot_of, norm_of}
use Rattle.virial.specs.declared.Sum.{Sum}
use Rattle.virial.specs.Virial.{added_at, sum_with_energy, sum_with_pair}
use Rattle.potentials_pair.specs.Pull.{Total}
use Rattle.potentials_angle.specs.declared.Angle.{Angle}
use Rattle.potentials_angle.specs.declared.Corner.{Corner}
use Rattle.potentials_angle.specs.declared.Bend.{Bend}
use Rattle.std.specs.Prelude.{Option, Some, None}

-- line 324: lij < 1e-9 || lkj < 1e-9
unfoldable pub is_short_arm : (lij lkj : Float) → Bool
is_short_arm lij lkj = lt lij nano || lt lkj nano

-- lines 336 to 349: the force at the end of the arm `own`, which is `len` long; `both` is lij * lkj, c the cosine
unfoldable pub side_of : (own other : Vec3) (len both c coef : Float) → Vec3
side_of own other len both c coef = scale_of (sub_of (scale_of other (f1 ⊘ both)) (scale_of own (c ⊘ (len ⊗ len)))) coef

-- lines 327 to 349
unfoldable pub bend_near : Angle → (rij rkj : Vec3) (lij lkj : Float) → Bend
bend_near a rij rkj lij lkj =
    let both = lij ⊗ lkj in
    let c = clamp_of (dot_of rij rkj ⊘ both) (neg f1) f1 in
    let d = c ⊖ a.rest in
    let coef = neg (a.k ⊗ d) in
    record {
      energy = half ⊗ a.k ⊗ d ⊗ d;
      rij = rij;
      fi = side_of rij rkj lij both c coef;
      rkj = rkj;
      fk = side_of rkj rij lkj both c coef;
    }

-- lines 322 to 349
unfoldable pub bend_of : Angle → (rij rkj : Vec3) → Option Bend
bend_of a rij rkj = cond (is_short_arm (norm_of rij) (norm_of rkj)) None (Some (bend_near a rij rkj (norm_of rij) (norm_of rkj)))

-- lines 350 to 352: fi on the first atom, fk on the last, (fi + fk) times -1 on the apex
unfoldable pub forces_with_bend : List Float → Corner → (fi fk : Vec3) → List Float
forces_with_bend l c fi fk = added_at (added_at (added_at l c.first fi) c.last fk) c.apex (scale_of (add_of fi fk) (neg f1))

-- lines 330, 355 and 356: the energy, and the virials of both arms
unfoldable pub sum_with_bend : Sum → Float → (rij fi rkj fk : Vec3) → Sum
sum_with_bend s energy rij fi rkj fk = sum_with_pair (sum_with_pair (sum_with_energy s energy) rij fi) rkj fk

-- what an angle adds to a sum and forces
abbrev pub bent : Total → Corner → Option Bend → Total
bent t c None = t
bent t c (Some b) = record { sum = sum_with_bend t.sum b.energy b.rij b.fi b.rkj b.fk; forces = forces_with_bend t.forces c b.fi b.fk }
