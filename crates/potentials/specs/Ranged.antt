-- 01's ranges, as tests of what this crate is handed. Definitions only.
use Rattle.std.specs.Prelude.{Bool, ◌&&◌, List, Float}
use Rattle.lists.specs.Lists.{every}
use Rattle.cell.specs.Ranged.{entry_limit}
pub use Rattle.cell.specs.Ranged.{coordinate}
use Rattle.float.specs.Arith.{bits}
use Rattle.ranges.specs.Ranged.{within, between}
use Rattle.potentials_pair.specs.declared.Lj.{Lj}
use Rattle.potentials.specs.declared.Bond.{Bond}

-- "Epsilon and sigma 0 to 2^10"
abbrev pub depth : Float → Bool
depth x = between (bits 0) (bits 0x4090_0000_0000_0000) x

-- "Cutoff 0 to 2^20"
abbrev pub cutoff_ok : Float → Bool
cutoff_ok x = between (bits 0) entry_limit x

-- "Charges ..: magnitude to 2^10"
abbrev pub charge : Float → Bool
charge x = within (bits 0x4090_0000_0000_0000) x

-- the rows of a desk's own table and of the house's
unfoldable pub rows_in_range : List Float → List Float → Bool
rows_in_range own_params params = every depth own_params && every depth params

unfoldable pub lj_in_range : Lj → Bool
lj_in_range lj = depth lj.epsilon && depth lj.sigma && cutoff_ok lj.cutoff

unfoldable pub bond_in_range : Bond → Bool
bond_in_range bond = coordinate bond.k && coordinate bond.r0
