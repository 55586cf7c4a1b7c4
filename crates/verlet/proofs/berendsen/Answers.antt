use Prim.Native.Nat.{◌≤◌, ◌/◌}
use Rattle.verlet.specs.Calls.{berendsen_outcome}
use Rattle.verlet.specs.Parts.{rescaled_by}
use borrow.Author.Tests.{le-leb, lt-leb, eq-eqb, ne_eqb, not-true, not-false}
use lib.ListN.{length}
use native.Mathlib.Omega.{arith}
use Rattle.std.proofs.Common.{ap, not}
use Rattle.verlet.proofs.berendsen.Goals as goal

pub returns-then-velocities-atoms : goal.returns-then-velocities-atoms
unfolding berendsen_outcome
returns-then-velocities-atoms c = rw (ne_eqb _ _ c.if-velocities-atoms.true)

pub returns-then-atoms-gt-MOST : goal.returns-then-atoms-gt-MOST
unfolding berendsen_outcome
returns-then-atoms-gt-MOST c = rw (eq-eqb _ _ c.if-velocities-atoms.false, lt-leb _ _ c.if-atoms-gt-MOST.true)

pub returns-then-not-berendsen_in_range : goal.returns-then-not-berendsen_in_range
unfolding berendsen_outcome
returns-then-not-berendsen_in_range c = rw (eq-eqb _ _ c.if-velocities-atoms.false, le-leb _ _ c.if-atoms-gt-MOST.false, ← c.berendsen_in_range.ensures, not-true c.berendsen_in_range.result (ap not c.if-not-berendsen_in_range.true))

pub returns : goal.returns
unfolding berendsen_outcome rescaled_by
returns c = let few : length c.args.velocities.now / 3 ≤ 16384 = omega (arith, c.if-velocities-atoms.false, c.if-atoms-gt-MOST.false) in rw (eq-eqb _ _ c.if-velocities-atoms.false, le-leb _ _ c.if-atoms-gt-MOST.false, ← c.berendsen_in_range.ensures, not-false c.berendsen_in_range.result (ap not c.if-not-berendsen_in_range.false), c.rescale.ensures, le-leb _ _ few)
