use Rattle.virial.specs.Calls.{tensor_outcome}
use borrow.Author.Tests.{le-leb, lt-leb, not-true, not-false, eq-eqb, ne_eqb}
use Rattle.std.proofs.Common.{ap, not}
use Rattle.virial.proofs.pressure_tensor.Goals as goal

pub returns-then-velocities-atoms : goal.returns-then-velocities-atoms
unfolding tensor_outcome
returns-then-velocities-atoms c = rw (ne_eqb _ _ c.if-velocities-atoms.true)

pub returns-then-atoms-gt-MOST : goal.returns-then-atoms-gt-MOST
unfolding tensor_outcome
returns-then-atoms-gt-MOST c = rw (eq-eqb _ _ c.if-velocities-atoms.false, lt-leb _ _ c.if-atoms-gt-MOST.true)

pub returns-then-not-tensor_in_range : goal.returns-then-not-tensor_in_range
unfolding tensor_outcome
returns-then-not-tensor_in_range c = rw (eq-eqb _ _ c.if-velocities-atoms.false, le-leb _ _ c.if-atoms-gt-MOST.false, ← c.tensor_in_range.ensures, not-true c.tensor_in_range.result (ap not c.if-not-tensor_in_range.true))

pub returns : goal.returns
unfolding tensor_outcome
returns c = rw (eq-eqb _ _ c.if-velocities-atoms.false, le-leb _ _ c.if-atoms-gt-MOST.false, ← c.tensor_in_range.ensures, not-false c.tensor_in_range.result (ap not c.if-not-tensor_in_range.false), c.rows_of.ensures, c.pressure_tensor-p.ensures)
