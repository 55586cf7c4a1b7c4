use Rattle.cell.proofs.Whole.{narrow_fits, narrow_is}
use Rattle.cell.proofs.counting.whole.Goals as goal

pub overflow_cast-result : goal.overflow_cast-result
overflow_cast-result c = narrow_fits _ _ c.requires c.to_i64.ensures

pub returns : goal.returns
returns c = narrow_is _ _ c.requires c.to_i64.ensures
