use Rattle.std.proofs.lemmas.Result.{err_from_is_err_and}
use Rattle.potentials.proofs.Outcomes.{call_refused, call_answered}
use Rattle.potentials_calls.proofs.AllPairs.{coulomb_few}
use Rattle.potentials_calls.proofs.coulomb_all.Goals as goal

pub returns-in_err-coulomb_asked : goal.returns-in_err-coulomb_asked
returns-in_err-coulomb_asked c = let p = err_from_is_err_and c.from_residual.result c.from_residual.ensures.1 in rw (p.1, p.2) (call_refused c.coulomb_asked.ensures _ _ c.in_err-coulomb_asked.was)

pub coulomb_all-requires : goal.coulomb_all-requires
coulomb_all-requires c = coulomb_few _ _ _ _ _ _ c.coulomb_asked.ensures c.in_ok-coulomb_asked.was

pub returns : goal.returns
returns c = call_answered c.coulomb_asked.ensures _ _ c.in_ok-coulomb_asked.was c.coulomb_all.ensures
