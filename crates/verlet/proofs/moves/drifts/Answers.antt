use Rattle.verlet.proofs.Steps.{move_fit}
use Rattle.verlet.specs.Parts.{drifts}
use mathlib.Core.Path.{sym, ◌∙◌}
use Rattle.verlet.proofs.moves.drifts.Goals as goal

pub all_drift-requires : goal.all_drift-requires
all_drift-requires c = move_fit _ _ _ _ (sym c.move_fits.ensures ∙ c.if-move_fits.true)

pub returns-then-move_fits : goal.returns-then-move_fits
unfolding drifts
returns-then-move_fits c = rw (← c.move_fits.ensures, c.if-move_fits.true) c.all_drift.ensures

pub returns : goal.returns
unfolding drifts
returns c = rw (← c.move_fits.ensures, c.if-move_fits.false)
