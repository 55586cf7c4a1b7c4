use Rattle.std.proofs.lemmas.Result.{err_from_is_err_and}
use Rattle.potentials.proofs.Outcomes.{call_refused, call_answered}
use Rattle.potentials_angle.proofs.angles_all.Goals as goal

pub returns-in_err-asked : goal.returns-in_err-asked
returns-in_err-asked c = let p = err_from_is_err_and c.from_residual.result c.from_residual.ensures.1 in rw (p.1, p.2) (call_refused (rw c.first_missing-missing.ensures at c.asked.ensures) _ _ c.in_err-asked.was)

pub returns : goal.returns
returns c = call_answered (rw c.first_missing-missing.ensures at c.asked.ensures) _ _ c.in_ok-asked.was c.angles_all.ensures
