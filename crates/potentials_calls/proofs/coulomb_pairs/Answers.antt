use Rattle.std.proofs.lemmas.Result.{err_from_is_err_and}
use Rattle.potentials.proofs.Outcomes.{call_refused, call_answered}
use Rattle.potentials_calls.proofs.coulomb_pairs.Goals as goal

pub returns-in_err-coulomb_asked : goal.returns-in_err-coulomb_asked
returns-in_err-coulomb_asked c = let p = err_from_is_err_and c.from_residual.result c.from_residual.ensures.1 in rw (p.1, p.2) (call_refused (rw c.first_absent-absent.ensures at c.coulomb_asked.ensures) _ _ c.in_err-coulomb_asked.was)

pub returns : goal.returns
returns c = call_answered (rw c.first_absent-absent.ensures at c.coulomb_asked.ensures) _ _ c.in_ok-coulomb_asked.was c.coulomb_pairs.ensures
