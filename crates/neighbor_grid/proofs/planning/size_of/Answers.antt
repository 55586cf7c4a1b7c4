use Rattle.neighbor_grid.proofs.Sizes.{size_one, size_whole, size_some, size_fits}
use borrow.Author.Rules.{rules}
use mathlib.Core.Path.{refl}
use Rattle.neighbor_grid.proofs.planning.size_of.Goals as goal

pub returns-then-d-lt1 : goal.returns-then-d-lt1
returns-then-d-lt1 c = (size_one _ c.ranges.d c.if-d-lt1.true, search rules)

pub overflow_cast-result : goal.overflow_cast-result
overflow_cast-result c = rw (size_whole _ c.ranges.d c.if-d-lt1.false) (tt, record { fits = size_fits _ c.ranges.d })

pub returns : goal.returns
returns c = rw (size_whole _ c.ranges.d c.if-d-lt1.false) (refl, size_some _)
