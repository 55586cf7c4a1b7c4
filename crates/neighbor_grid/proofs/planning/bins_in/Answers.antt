use Rattle.neighbor_grid.specs.Grid.{bins_in}
use lib.Ieee.Casts.{to_signed_in}
use mir.Facts.{to_z-of_z}
use Rattle.std.proofs.Common.{w64}
use Rattle.neighbor_grid.proofs.planning.bins_in.Goals as goal

pub returns : goal.returns
unfolding bins_in
returns c = rw (c.to_i64.ensures, c.floor.ensures) (to_z-of_z {w = w64} (record { sfits = to_signed_in 63 _ }))
