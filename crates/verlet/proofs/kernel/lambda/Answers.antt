use Rattle.verlet.specs.Verlet.{lambda_of}
use Rattle.verlet.proofs.kernel.lambda.Goals as goal

pub returns : goal.returns
unfolding lambda_of
returns c = rw (c.root.ensures, c.max.ensures)
