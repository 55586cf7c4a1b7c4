use Rattle.verlet.proofs.Steps.{move_fit, kicked_length}
use Rattle.verlet.specs.Parts.{moved_by}
use Rattle.verlet.specs.Verlet.{moved_of}
use lib.ListN.{length}
use mathlib.Core.Path.{sym, ◌∙◌, ap}
use Rattle.verlet.proofs.moves.kick_and_drift.Goals as goal

pub kick_all-requires : goal.kick_all-requires
kick_all-requires c = let h = move_fit _ _ _ _ (sym c.move_fits.ensures ∙ c.if-move_fits.true) in (h.0, h.1)

pub drift_all-requires : goal.drift_all-requires
drift_all-requires c = let h = move_fit _ _ _ _ (sym c.move_fits.ensures ∙ c.if-move_fits.true) in h.2 ∙ sym h.0 ∙ sym (ap length c.kick_all.ensures ∙ kicked_length _ _ _ _ _)

pub returns-then-move_fits : goal.returns-then-move_fits
unfolding moved_by moved_of
returns-then-move_fits c = rw (← c.move_fits.ensures, c.if-move_fits.true, c.drift_all.ensures, c.kick_all.ensures)

pub returns-else-move_fits : goal.returns-else-move_fits
unfolding moved_by
returns-else-move_fits c = rw (← c.move_fits.ensures, c.if-move_fits.false)
