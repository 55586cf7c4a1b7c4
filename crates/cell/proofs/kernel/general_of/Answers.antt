use Rattle.cell.specs.General.{general_of}
use Rattle.cell.proofs.kernel.general_of.Goals as goal

pub returns-then-skewed : goal.returns-then-skewed
unfolding general_of
returns-then-skewed c = simp (c.row_vec.ensures, c.row_vec-then-skewed.ensures, c.row_vec-then-skewed-2.ensures, c.singular.ensures, c.inverse-m.ensures, ← c.skewed.ensures, c.if-skewed.true)

pub returns : goal.returns
unfolding general_of
returns c = simp (c.zero.ensures, c.zero-2.ensures, c.zero-3.ensures, ← c.skewed.ensures, c.if-skewed.false)
