use Rattle.potentials_pair.specs.Species.{row_by}
use borrow.Author.Tests.{lt-ltb, le-ltb}
use Rattle.potentials_pair.proofs.species.row_of.Goals as goal

pub returns-then-own-gt0 : goal.returns-then-own-gt0
unfolding row_by
returns-then-own-gt0 c = rw (← c.row_in-own.ensures, lt-ltb _ _ c.if-own-gt0.true)

pub returns : goal.returns
unfolding row_by
returns c = rw (← c.row_in-own.ensures, le-ltb _ _ c.if-own-gt0.false) c.row_in.ensures
