use Rattle.cell.proofs.Axes.{fraction_far}
use Rattle.float.proofs.Branches.{yes}
use Rattle.cell.proofs.kernel.round_fraction.Goals as goal

pub returns-then-px-py : goal.returns-then-px-py
returns-then-px-py c = let g = c.well_formed in fraction_far _ _ _ _ _ _ _ _ _ _ _ _ _ _ _ (yes g.1.1.1.0.1) (yes g.1.1.1.1.0.1) (yes g.1.1.1.1.1.0.1)
    (record { magnitude = c.abs-ax.ensures; reach = c.in_reach.ensures; far = c.far.ensures })
    (record { magnitude = c.abs-ay.ensures; reach = c.in_reach-2.ensures; far = c.far-then-px-py.ensures })
    (record { magnitude = c.abs-az.ensures; reach = c.in_reach-3.ensures; far = c.far-then-px-py-2.ensures }) c.if-px-py.true

pub returns : goal.returns
returns c = simp (c.round_axis.ensures, c.round_axis-2.ensures, c.round_axis-3.ensures)
