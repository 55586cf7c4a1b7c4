use Rattle.std.proofs.lemmas.Result.{err_from_is_err_and}
use Rattle.neighbor.proofs.Asking.{asked_refused, asked_on}
use Rattle.neighbor.proofs.asked.asked.Goals as goal

pub returns-in_err-asked_first : goal.returns-in_err-asked_first
returns-in_err-asked_first c = let p = err_from_is_err_and c.from_residual.result c.from_residual.ensures.1 in rw (p.1, p.2) (asked_refused _ _ _ _ _ _ _ _ c.asked_first.ensures c.in_err-asked_first.was)

pub returns : goal.returns
returns c = asked_on _ _ _ _ _ _ _ _ c.asked_first.ensures c.in_ok-asked_first.was c.asked_last.ensures
