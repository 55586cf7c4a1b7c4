use Rattle.virial.specs.Calls.{virial_outcome}
use Rattle.virial.proofs.virial_from_pair.Goals as goal

pub returns-then-virial_in_range : goal.returns-then-virial_in_range
unfolding virial_outcome
returns-then-virial_in_range c = rw (← c.virial_in_range.ensures, c.if-virial_in_range.true, c.rows_of.ensures, c.with_pair.ensures)

pub returns : goal.returns
unfolding virial_outcome
returns c = rw (← c.virial_in_range.ensures, c.if-virial_in_range.false)
