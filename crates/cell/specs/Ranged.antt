-- Which cells, vectors and lengths are in range: 01, "Ranges". A public call refuses 3 exactly where its arguments are not.
use Rattle.std.specs.Prelude.{None, Option, Some}
use Rattle.std.specs.Prelude.{Float, Bool, true, ◌&&◌}
use Rattle.float.specs.Arith.{bits}
use Rattle.ranges.specs.Ranged.{within}
use Rattle.cell.specs.declared.Vec3.{Vec3}
use Rattle.cell.specs.declared.Lattice.{Lattice}

-- "Coordinates, cell entries ..: magnitude to 2^20"
abbrev pub entry_limit : Float
entry_limit = bits 0x4130_0000_0000_0000

abbrev pub coordinate : Float → Bool
coordinate x = within entry_limit x

-- "All other floats: magnitude to 2^500"
abbrev pub other_limit : Float
other_limit = bits 0x5f30_0000_0000_0000

unfoldable pub vec_within : Float → Vec3 → Bool
vec_within limit v = within limit v.x && within limit v.y && within limit v.z

unfoldable pub lattice_in_range : Lattice → Bool
lattice_in_range l = vec_within entry_limit l.a && vec_within entry_limit l.b && vec_within entry_limit l.c

unfoldable pub cell_in_range : Option Lattice → Bool
cell_in_range None = true
cell_in_range (Some l) = lattice_in_range l
