use Rattle.neighbor_asked.proofs.Turns.{then_refused, then_on}
use Rattle.std.proofs.lemmas.Result.{err_from_is_err_and}
use Rattle.std.proofs.Common.{◌∙◌}
use Rattle.neighbor_asked.proofs.asked.names_in_turn.Goals as goal

pub returns-in_err-bonds : goal.returns-in_err-bonds
returns-in_err-bonds c = let p = err_from_is_err_and c.from_residual.result c.from_residual.ensures.1 in rw (p.1, p.2) (then_refused _ c.in_err-bonds.was)

pub returns-in_err-angles : goal.returns-in_err-angles
returns-in_err-angles c = let p = err_from_is_err_and c.from_residual-in_err-angles.result c.from_residual-in_err-angles.ensures.1 in rw (p.1, p.2) (then_refused _ c.in_err-angles.was ∙ then_on _ c.in_ok-bonds.was)

pub returns-in_err-table : goal.returns-in_err-table
returns-in_err-table c = let p = err_from_is_err_and c.from_residual-in_err-table.result c.from_residual-in_err-table.ensures.1 in rw (p.1, p.2) (then_refused _ c.in_err-table.was ∙ then_on _ c.in_ok-angles.was ∙ then_on _ c.in_ok-bonds.was)

pub returns : goal.returns
returns c = then_on _ c.in_ok-table.was ∙ then_on _ c.in_ok-angles.was ∙ then_on _ c.in_ok-bonds.was
