use Rattle.potentials_pair.specs.Species.{row_in_by}
use Rattle.potentials_pair.proofs.species.row_in.Goals as goal

pub returns-then-is_at : goal.returns-then-is_at
unfolding row_in_by
returns-then-is_at c = rw (← c.place_in-p.ensures, ← c.is_at.ensures, c.if-is_at.true) c.row_at.ensures

pub returns : goal.returns
unfolding row_in_by
returns c = rw (← c.place_in-p.ensures, ← c.is_at.ensures, c.if-is_at.false)
