use Rattle.cell.specs.General.{boxes_by}
use Rattle.cell.proofs.counting.boxes_by.Goals as goal

pub returns-then-g-2 : goal.returns-then-g-2
unfolding boxes_by
returns-then-g-2 c = simp (c.none.ensures, c.if-g-2.true, c.if-g.true)

pub returns-then-g-3 : goal.returns-then-g-3
unfolding boxes_by
returns-then-g-3 c = simp (c.if-g-3.true, c.if-g-2.false, c.if-g.true)

pub returns-then-g : goal.returns-then-g
unfolding boxes_by
returns-then-g c = simp (c.counted.ensures, c.rounded.ensures, c.rounded-then-g.ensures, c.rounded-then-g-2.ensures, c.dot-x.ensures, c.dot-y.ensures, c.dot-z.ensures, c.if-g-3.false, c.if-g-2.false, c.if-g.true)

pub returns : goal.returns
unfolding boxes_by
returns c = simp (c.counted-2.ensures, c.rounded-2.ensures, c.rounded-3.ensures, c.rounded-4.ensures, c.if-g.false)
