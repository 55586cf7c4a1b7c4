use Rattle.verlet.specs.Parts.{rescaled_by}
use Rattle.verlet.specs.Verlet.{berendsen_of}
use borrow.Author.Tests.{le-leb, lt-leb, eq-eqb, ne_eqb}
use Rattle.verlet.proofs.kernel.rescale.Goals as goal

pub returns-then-atoms-gt-MOST : goal.returns-then-atoms-gt-MOST
unfolding rescaled_by
returns-then-atoms-gt-MOST c = rw (lt-leb _ _ c.if-atoms-gt-MOST.true)

pub returns-then-atoms-eq0 : goal.returns-then-atoms-eq0
unfolding rescaled_by berendsen_of
returns-then-atoms-eq0 c = rw (le-leb _ _ c.if-atoms-gt-MOST.false, eq-eqb _ _ c.if-atoms-eq0.true)

pub returns-then-t : goal.returns-then-t
unfolding rescaled_by berendsen_of
returns-then-t c = rw (le-leb _ _ c.if-atoms-gt-MOST.false, ne_eqb _ _ c.if-atoms-eq0.false, ← c.current-t.ensures, c.if-t.true)

pub returns : goal.returns
unfolding rescaled_by berendsen_of
returns c = rw (le-leb _ _ c.if-atoms-gt-MOST.false, ne_eqb _ _ c.if-atoms-eq0.false, ← c.current-t.ensures, c.if-t.false, ← c.lambda-s.ensures) c.scale_all.ensures
