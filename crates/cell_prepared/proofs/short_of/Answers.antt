use Rattle.cell_prepared.specs.Facts.{short_of}
use Rattle.cell_prepared.proofs.short_of.Goals as goal

pub returns-then-skewed-l : goal.returns-then-skewed-l
unfolding short_of
returns-then-skewed-l c = simp (← c.skewed.ensures, c.if-skewed-l.true)

pub returns : goal.returns
unfolding short_of
returns c = simp (c.zero.ensures, ← c.skewed.ensures, c.if-skewed-l.false)
