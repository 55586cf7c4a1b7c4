-- 01's ranges, as tests of what this crate is handed. Definitions only.
use Rattle.std.specs.Prelude.{Bool, ◌&&◌, List, Float}
use Rattle.cell.specs.Ranged.{other_limit}
use Rattle.float.specs.Arith.{bits, at, row}
use Rattle.ranges.specs.Ranged.{within, between}
use Rattle.virial.specs.declared.Sum.{Sum}
use Rattle.virial.specs.declared.Units.{Units}

-- "All other floats: magnitude to 2^500"
abbrev pub plain : Float → Bool
plain x = within other_limit x

-- "velocities .. magnitude to 2^20"
abbrev pub velocity : Float → Bool
velocity x = within (bits 0x4130000000000000) x

-- "Masses 2^-10 to 2^20"
abbrev pub mass : Float → Bool
mass x = between (bits 0x3f50000000000000) (bits 0x4130000000000000) x

-- "Unit constants 2^-40 to 2^40"
abbrev pub unit : Float → Bool
unit x = between (bits 0x3d70000000000000) (bits 0x4270000000000000) x

unfoldable pub plain_row : List Float → Bool
plain_row r = plain (at r 0) && plain (at r 1) && plain (at r 2)

unfoldable pub plain_rows : List (List Float) → Bool
plain_rows w = plain_row (row w 0) && plain_row (row w 1) && plain_row (row w 2)

unfoldable pub plain_sum : Sum → Bool
plain_sum s =
    plain s.energy
    && plain s.xx && plain s.xy && plain s.xz
    && plain s.yx && plain s.yy && plain s.yz
    && plain s.zx && plain s.zy && plain s.zz

unfoldable pub units_in_range : Units → Bool
units_in_range u = unit u.force_to_accel && unit u.kb_ev_per_k && unit u.ke_coulomb && unit u.ev_per_a3_to_gpa
