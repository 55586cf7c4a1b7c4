-- `cell_axis::far` meets its contract: the formula by `far_apart`. Assumes nothing.
use Rattle.cell_axis.specs.Image.{far_of}
use Rattle.cell_axis.proofs.Long.{far_apart}
use Rattle.cell_axis.proofs.far.Goals as goal

pub returns : goal.returns
unfolding far_of
returns c = record {
  is = simp (c.toward.ensures, c.steps.ensures);
  formula = λ A h. far_apart _ _ _ _ A h (simp (c.toward.ensures, c.steps.ensures));
}
