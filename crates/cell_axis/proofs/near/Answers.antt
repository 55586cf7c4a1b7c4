use lib.Ieee.{inf}
use mathlib.Core.Bool.{false}
use Rattle.cell_axis.specs.Image.{near_axis_of}
use Rattle.float.proofs.Branches.{yes}
use Rattle.cell_axis.proofs.Law.{near_apart}
use Rattle.cell_axis.proofs.near.Goals as goal

pub returns : goal.returns
unfolding near_axis_of
returns c = let g = c.well_formed in
    record {
      is = cc;
      formula = λ A h k. near_apart _ _ (inf false) _ _ (yes g.0.1) (yes g.1.0.1) A h k (cc);
    }
