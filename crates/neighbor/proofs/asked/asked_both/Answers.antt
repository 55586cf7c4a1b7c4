use Rattle.std.proofs.lemmas.Result.{err_from_is_err_and}
use Rattle.neighbor_asked.proofs.Turns.{then_refused, then_on}
use Rattle.std.proofs.Common.{sym, ◌∙◌}
use Rattle.neighbor.proofs.asked.asked_both.Goals as goal

pub returns-in_err-asked_kept : goal.returns-in_err-asked_kept
returns-in_err-asked_kept c = let p = err_from_is_err_and c.from_residual.result c.from_residual.ensures.1 in rw (p.1, p.2) (then_refused _ (sym c.asked_kept.ensures ∙ c.in_err-asked_kept.was))

pub returns : goal.returns
returns c = rw (← then_on _ (sym c.asked_kept.ensures ∙ c.in_ok-asked_kept.was)) c.asked_table.ensures
