use Rattle.verlet.proofs.Steps.{kick_fit}
use Rattle.verlet.specs.Parts.{kicked_by}
use mathlib.Core.Path.{sym, ◌∙◌}
use Rattle.verlet.proofs.moves.kick.Goals as goal

pub kick_all-requires : goal.kick_all-requires
kick_all-requires c = kick_fit _ _ _ (sym c.kick_fits.ensures ∙ c.if-kick_fits.true)

pub returns-then-kick_fits : goal.returns-then-kick_fits
unfolding kicked_by
returns-then-kick_fits c = rw (← c.kick_fits.ensures, c.if-kick_fits.true) c.kick_all.ensures

pub returns-else-kick_fits : goal.returns-else-kick_fits
unfolding kicked_by
returns-else-kick_fits c = rw (← c.kick_fits.ensures, c.if-kick_fits.false)
