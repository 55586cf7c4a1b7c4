-- fire.rs as definitions, in the source's order, one rounding an operation; three floats an atom. Definitions only.
use Rattle.std.specs.Prelude.{ℕ, ◌+◌, min, cond, List, eqb, ltb, Float, length}
use Rattle.std.specs.Float.Ieee.{lt}
use Rattle.lists.specs.Atoms.{atoms_of}
use Rattle.lists.specs.Loops.{fold_up_to, map_at}
use Rattle.float.specs.Literals.{f0, f1, half}
use Rattle.float.specs.Arith.{◌⊕◌, ◌⊖◌, ◌⊗◌, ◌⊘◌, bits, at}
use Rattle.float.specs.Def.{abs_of, max_of, min_of, root_of}
use Rattle.cell.specs.declared.Vec3.{Vec3}
use Rattle.cell.specs.Vec.{dot_of, norm2_of}
use Rattle.virial.specs.Virial.{velocity_at, zero_forces}
use Rattle.fire.specs.declared.steer.Gait.{Gait}
use Rattle.fire.specs.declared.steer.Powers.{Powers}

-- ---- `max_force_component`, lines 47 to 55. `max_of` passes over a not-a-number, as Rust's f64::max
abbrev pub larger_at : List Float → ℕ → Float → Float
larger_at fs k m = max_of m (abs_of (at fs k))

unfoldable pub largest_force : List Float → Float
largest_force fs = fold_up_to (larger_at fs) (length fs) f0

-- ---- lines 115 to 122: power, and the squared norms of all velocities and of all forces

-- what an atom of force f and velocity v adds
unfoldable pub powered_by : (f v : Vec3) → Powers → Powers
powered_by f v p = record { power = p.power ⊕ dot_of f v; speed2 = p.speed2 ⊕ norm2_of v; pull2 = p.pull2 ⊕ norm2_of f }

abbrev pub no_powers : Powers
no_powers = record { power = f0; speed2 = f0; pull2 = f0 }

abbrev pub powered_at : (fs vs : List Float) → ℕ → Powers → Powers
powered_at fs vs k p = powered_by (velocity_at fs k) (velocity_at vs k) p

-- as far as both lists go
unfoldable pub powers_of : (fs vs : List Float) → Powers
powers_of fs vs = fold_up_to (powered_at fs vs) (min (atoms_of fs) (atoms_of vs)) no_powers

-- ---- lines 123 to 132, float by float: v = (1 - alpha) v + alpha |v| fhat

-- line 124; the literal is 1e-30
unfoldable pub pull_norm : Powers → Float
pull_norm p = max_of (root_of p.pull2) (bits 0x39b4484bfeebc2a0)

-- keep is 1 - alpha, one is 1 / fnorm, push is alpha * vnorm
unfoldable pub blend_of : (keep one push f v : Float) → Float
blend_of keep one push f v = v ⊗ keep ⊕ f ⊗ one ⊗ push

abbrev pub blend_at : (keep one push : Float) (fs : List Float) → ℕ → Float → Float
blend_at keep one push fs k v = blend_of keep one push (at fs k) v

unfoldable pub blended_of : (keep one push : Float) (fs vs : List Float) → List Float
blended_of keep one push fs vs = map_at (blend_at keep one push fs) vs

-- where the lists fit each other, else nothing: a call that tested its arguments has the first
unfoldable pub blended_by : (alpha : Float) → Powers → (fs vs : List Float) → List Float
blended_by alpha p fs vs =
    cond (eqb (length fs) (length vs)) (blended_of (f1 ⊖ alpha) (f1 ⊘ pull_norm p) (alpha ⊗ root_of p.speed2) fs vs) vs

-- ---- the pace of a relaxation: time step, alpha, and the steps since the power was last not above zero

-- lines 82 to 84: ALPHA_START is 0.1
abbrev pub alpha_start : Float
alpha_start = bits 0x3fb999999999999a

unfoldable pub fresh_gait : (dt : Float) → Gait
fresh_gait dt = record { dt = dt; alpha = alpha_start; since = 0 }

-- lines 134 to 138: N_MIN is 5, F_INC 1.1, F_ALPHA 0.99
unfoldable pub quickened : (dtMax : Float) → Gait → Gait
quickened dtMax g =
    cond (ltb 5 (g.since + 1))
    (record { dt = min_of (g.dt ⊗ bits 0x3ff199999999999a) dtMax; alpha = g.alpha ⊗ bits 0x3fefae147ae147ae; since = g.since + 1 })
    (record { dt = g.dt; alpha = g.alpha; since = g.since + 1 })

-- lines 140 to 142: F_DEC is 0.5
unfoldable pub slowed : Gait → Gait
slowed g = record { dt = g.dt ⊗ half; alpha = alpha_start; since = 0 }

-- ---- lines 115 to 144: pace and velocities after the second kick. Where the power is not above zero the mixed velocities are filled with zeros
unfoldable pub steered_by : (dtMax : Float) → Gait → (fs vs : List Float) → Powers → Gait × List Float
steered_by dtMax g fs vs p = cond (lt f0 p.power) (quickened dtMax g, blended_by g.alpha p fs vs) (slowed g, zero_forces (length vs))

unfoldable pub steered_of : (dtMax : Float) → Gait → (fs vs : List Float) → Gait × List Float
steered_of dtMax g fs vs = steered_by dtMax g fs vs (powers_of fs vs)
