use Rattle.potentials_pair.specs.Species.{is_at}
use borrow.Author.Tests.{lt-ltb, le-ltb}
use Rattle.potentials_pair.proofs.species.is_at.Goals as goal

pub returns-then-p-ids : goal.returns-then-p-ids
returns-then-p-ids c = unfold is_at in rw (lt-ltb _ _ c.if-p-ids.true)

pub returns : goal.returns
returns c = unfold is_at in rw (le-ltb _ _ c.if-p-ids.false)
