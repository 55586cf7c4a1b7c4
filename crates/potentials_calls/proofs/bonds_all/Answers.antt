use Rattle.std.proofs.lemmas.Result.{err_from_is_err_and}
use Rattle.potentials.proofs.Outcomes.{call_refused, call_answered}
use Rattle.potentials_calls.proofs.bonds_all.Goals as goal

pub returns-in_err-bonds_asked : goal.returns-in_err-bonds_asked
returns-in_err-bonds_asked c = let p = err_from_is_err_and c.from_residual.result c.from_residual.ensures.1 in rw (p.1, p.2) (call_refused (rw c.first_absent-absent.ensures at c.bonds_asked.ensures) _ _ c.in_err-bonds_asked.was)

pub returns : goal.returns
returns c = call_answered (rw c.first_absent-absent.ensures at c.bonds_asked.ensures) _ _ c.in_ok-bonds_asked.was c.bonds_all.ensures
