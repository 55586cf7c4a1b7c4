use Rattle.potentials.specs.Ranged.{rows_in_range}
use Rattle.potentials.proofs.ranged.rows_in_range.Goals as goal

pub returns : goal.returns
returns c = unfold rows_in_range in rw (← c.params_in_range.ensures, ← c.params_in_range-2.ensures)
