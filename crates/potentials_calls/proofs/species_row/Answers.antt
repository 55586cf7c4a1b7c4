use Rattle.potentials.proofs.Outcomes.{row_refused, row_answered}
use Rattle.potentials_calls.proofs.species_row.Goals as goal

pub returns-in-Err : goal.returns-in-Err
returns-in-Err c = row_refused _ c.rows_asked-a.ensures c.in-Err.is _

pub returns : goal.returns
returns c = row_answered _ c.rows_asked-a.ensures c.in_default.is c.args.species c.row_of.ensures
