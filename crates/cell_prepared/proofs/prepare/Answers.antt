use Rattle.cell_prepared.specs.Facts.{prepare_of}
use Rattle.cell_prepared.proofs.prepare.Goals as goal

pub returns-in-None : goal.returns-in-None
unfolding prepare_of
returns-in-None c = simp (c.zero.ensures, c.zero-in-None.ensures, c.zero-in-None-2.ensures, c.zero-in-None-3.ensures, c.cubic.ensures, c.in-None.is)

pub returns-in-Some : goal.returns-in-Some
unfolding prepare_of
returns-in-Some c = simp (c.short_of.ensures, c.general_of.ensures, c.in-Some.is)
