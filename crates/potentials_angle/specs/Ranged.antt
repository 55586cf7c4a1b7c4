-- 02, No. 1: the ranges of an angle's numbers, refusal 3. Definitions only.
use Rattle.std.specs.Prelude.{Bool, ◌&&◌, List, ℕ, ◌+◌, ◌*◌, ◌/◌, Float, length}
use Rattle.std.specs.Float.Ieee.{neg}
use Rattle.float.specs.Arith.{at}
use Rattle.float.specs.Literals.{f1}
use Rattle.lists.specs.Lists.{up_to, every}
use Rattle.ranges.specs.Ranged.{between}
use Rattle.cell.specs.Ranged.{coordinate}
use Rattle.potentials_angle.specs.declared.Angle.{Angle}

-- "3 for a rest cosine outside -1 to 1"; k as a bond's, magnitude to 2^20
unfoldable pub angle_in_range : Angle → Bool
angle_in_range a = coordinate a.k && between (neg f1) f1 a.rest

-- "Rows have k and rest cosine": row r of per_angle
unfoldable pub angle_row : List Float → ℕ → Angle
angle_row per r = record { k = at per (2 * r); rest = at per (2 * r + 1) }

-- every row, also past the last angle
unfoldable pub per_angle_in_range : List Float → Bool
per_angle_in_range per = every (λ r. angle_in_range (angle_row per r)) (up_to (length per / 2))
