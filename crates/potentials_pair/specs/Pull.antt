-- What one pair adds to energy, virial and forces, and when it is skipped. Definitions only.
use Rattle.std.specs.Prelude.{Option, Some, None}
use Rattle.cell.specs.declared.Vec3.{Vec3}
use Rattle.std.specs.Prelude.{Bool, ◌||◌, List, ℕ, Float}
use Rattle.std.specs.Float.Ieee.{lt}
use Rattle.float.specs.Literals.{tiny}
use Rattle.float.specs.Arith.{◌⊗◌}
use Rattle.virial.specs.declared.Sum.{Sum}
use Rattle.virial.specs.Virial.{sum_with_energy, sum_with_pair, forces_with_pair}

-- lines 136 and 397: r2 > rc2 || r2 < 1e-12. A not-a-number is not skipped
unfoldable pub skips : Float → Float → Bool
skips cutoff r2 = lt (cutoff ⊗ cutoff) r2 || lt r2 tiny

-- the Rust's `Contribution`: a sum, and the forces, three floats an atom
pub record Total : Type 0 where
  pub sum : Sum
  pub forces : List Float

-- what a pair adds, where it adds something: an energy, and a force f on the first atom, d apart
pub record Pull : Type 0 where
  pub energy : Float
  pub d : Vec3
  pub f : Vec3

abbrev pub held : Sum → List Float → Total
held sum forces = record { sum = sum; forces = forces }

-- lines 150 and 156, 266 and 269, 402 and 405: the energy, then `add_pair_force`: f on the first atom, f times -1 on the second, and the virial
abbrev pub after : Total → ℕ × ℕ → Option Pull → Total
after t p None = t
after t p (Some a) =
    record { sum = sum_with_pair (sum_with_energy t.sum a.energy) a.d a.f; forces = forces_with_pair t.forces p.0 p.1 a.f }
