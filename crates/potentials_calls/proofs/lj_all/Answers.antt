use Rattle.std.proofs.lemmas.Result.{err_from_is_err_and}
use Prim.Native.Nat.{◌/◌}
use Rattle.lists.specs.Lists.{all_pairs}
use Rattle.potentials.proofs.Outcomes.{call_refused, call_answered, lj_looked}
use Rattle.potentials_calls.proofs.AllPairs.{lj_few}
use lib.ListN.{length}
use Rattle.potentials_calls.proofs.lj_all.Goals as goal

pub returns-in_err-lj_asked : goal.returns-in_err-lj_asked
returns-in_err-lj_asked c = let p = err_from_is_err_and c.from_residual.result c.from_residual.ensures.1 in rw (p.1, p.2) (call_refused c.lj_asked.ensures _ _ c.in_err-lj_asked.was)

pub lj_all-requires : goal.lj_all-requires
lj_all-requires c = lj_few _ _ _ _ _ _ c.lj_asked.ensures c.in_ok-lj_asked.was

pub returns : goal.returns
returns c = call_answered c.lj_asked.ensures _ _ c.in_ok-lj_asked.was (lj_looked _ _ _ _ _ _ _ _ c.lj_asked.ensures c.in_ok-lj_asked.was c.args.species.now (length c.args.forces.now) (all_pairs (length c.args.positions.now / 3)) c.lj_all.ensures)
