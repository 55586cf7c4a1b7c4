use Rattle.neighbor_grid.specs.Steps.{fraction_by}
use Rattle.neighbor_grid.proofs.measuring.fraction.Goals as goal

pub returns-in-Folded : goal.returns-in-Folded
unfolding fraction_by
returns-in-Folded c = simp (c.folded.ensures, c.turned.ensures, c.in-Folded.is)

pub returns-in-Boxed : goal.returns-in-Boxed
unfolding fraction_by
returns-in-Boxed c = simp (c.boxed.ensures, c.in-Boxed.is)
