use Rattle.verlet.specs.Calls.{seen_of}
use borrow.Author.Tests.{le-leb, lt-leb, eq-eqb, ne_eqb, not-true, not-false}
use Rattle.std.proofs.Common.{ap, not}
use Rattle.verlet.proofs.kinetic_energy.Goals as goal

pub returns-then-velocities-atoms : goal.returns-then-velocities-atoms
unfolding seen_of
returns-then-velocities-atoms c = rw (ne_eqb _ _ c.if-velocities-atoms.true)

pub returns-then-atoms-gt-MOST : goal.returns-then-atoms-gt-MOST
unfolding seen_of
returns-then-atoms-gt-MOST c = rw (eq-eqb _ _ c.if-velocities-atoms.false, lt-leb _ _ c.if-atoms-gt-MOST.true)

pub returns-then-not-atoms_in_range : goal.returns-then-not-atoms_in_range
unfolding seen_of
returns-then-not-atoms_in_range c = rw (eq-eqb _ _ c.if-velocities-atoms.false, le-leb _ _ c.if-atoms-gt-MOST.false, ← c.atoms_in_range.ensures, not-true c.atoms_in_range.result (ap not c.if-not-atoms_in_range.true))

pub returns : goal.returns
unfolding seen_of
returns c = rw (eq-eqb _ _ c.if-velocities-atoms.false, le-leb _ _ c.if-atoms-gt-MOST.false, ← c.atoms_in_range.ensures, not-false c.atoms_in_range.result (ap not c.if-not-atoms_in_range.false), c.kinetic_energy.ensures)
