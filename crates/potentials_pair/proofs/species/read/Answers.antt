use Rattle.potentials_pair.specs.Species.{numbers_in}
use borrow.Author.Tests.{lt-ltb, le-ltb}
use Rattle.potentials_pair.proofs.species.read.Goals as goal

pub returns-then-row-gt1 : goal.returns-then-row-gt1
unfolding numbers_in
returns-then-row-gt1 c = rw (lt-ltb _ _ c.if-row-gt1.true)

pub returns : goal.returns
unfolding numbers_in
returns c = rw (le-ltb _ _ c.if-row-gt1.false) c.default_of.ensures
