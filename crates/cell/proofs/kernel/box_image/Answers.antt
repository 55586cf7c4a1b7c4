use Rattle.cell.proofs.Axes.{box_far}
use Rattle.cell.proofs.kernel.box_image.Goals as goal

pub returns-then-px-py : goal.returns-then-px-py
returns-then-px-py c = box_far _ _ _ _ _ _ _ _ _ _ _ _ _ _ _ _ _ _
    (record { magnitude = c.abs-ax.ensures; reach = c.in_reach.ensures; far = c.far.ensures })
    (record { magnitude = c.abs-ay.ensures; reach = c.in_reach-2.ensures; far = c.far-then-px-py.ensures })
    (record { magnitude = c.abs-az.ensures; reach = c.in_reach-3.ensures; far = c.far-then-px-py-2.ensures }) c.if-px-py.true

pub returns : goal.returns
returns c = simp (c.axis.ensures, c.axis-2.ensures, c.axis-3.ensures)
