use Rattle.evaluate.proofs.Settling.{total_refused, total_on, after_made}
use Rattle.evaluate.proofs.kernel.after_list.Goals as goal

pub returns-in-Err : goal.returns-in-Err
returns-in-Err c = after_made c.with_sum.ensures (total_refused _ _ _ _ _ _ c.in-Err.is c.zero.ensures)

pub returns : goal.returns
returns c = after_made c.with_sum-2.ensures (total_on _ _ _ _ _ _ c.in_default.is c.listed-part.ensures c.combine-sum.ensures)
