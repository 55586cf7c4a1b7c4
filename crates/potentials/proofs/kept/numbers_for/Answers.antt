use Rattle.potentials.specs.Steps.{numbers_for}
use Rattle.potentials.proofs.kept.numbers_for.Goals as goal

pub returns : goal.returns
returns c = unfold numbers_for in rw (← c.mixed-m.ensures) c.numbers_of.ensures
