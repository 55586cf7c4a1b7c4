use Rattle.cell_prepared.proofs.Inner.{settled_size, settled_image}
use Rattle.float.proofs.Branches.{yes}
use mathlib.Core.Path.{refl}
use Rattle.cell_prepared.proofs.settled.Goals as goal

pub returns : goal.returns
returns c = let g = c.well_formed in
    record { is = refl; magnitude = settled_size _ (yes g.0.1); image = settled_image _ (yes g.0.1) }
