use Rattle.bins.specs.Stencil.{touching}
use Rattle.candidates.proofs.kernel.touching.Goals as goal

pub returns : goal.returns
unfolding touching
returns c = rw (c.is_touching.ensures, c.is_touching-2.ensures, c.is_touching-3.ensures)
