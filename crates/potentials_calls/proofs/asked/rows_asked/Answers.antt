use Rattle.potentials.specs.Calls.{rows_asked}
use Rattle.potentials_calls.proofs.asked.rows_asked.Goals as goal

pub returns : goal.returns
returns c = unfold rows_asked in rw (← c.tables_fit-fits.ensures, ← c.rows_in_range-in_range.ensures, ← c.asked_order-order.ensures) c.asked.ensures
