use Rattle.std.proofs.lemmas.Result.{err_from_is_err_and}
use Rattle.lists.specs.Lists.{rows}
use Rattle.potentials.proofs.Outcomes.{call_refused, call_answered, lj_looked}
use lib.ListN.{length}
use Rattle.potentials_calls.proofs.lj_pairs.Goals as goal

pub returns-in_err-lj_asked : goal.returns-in_err-lj_asked
returns-in_err-lj_asked c = let p = err_from_is_err_and c.from_residual.result c.from_residual.ensures.1 in rw (p.1, p.2) (call_refused (rw c.first_absent-absent.ensures at c.lj_asked.ensures) _ _ c.in_err-lj_asked.was)

pub returns : goal.returns
returns c = call_answered (rw c.first_absent-absent.ensures at c.lj_asked.ensures) _ _ c.in_ok-lj_asked.was (lj_looked _ _ _ _ _ _ _ _ c.lj_asked.ensures c.in_ok-lj_asked.was c.args.species.now (length c.args.forces.now) (rows c.args.pairs.now) c.lj_pairs.ensures)
