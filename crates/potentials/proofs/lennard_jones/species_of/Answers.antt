use lib.ListN.{get_or-eq_default}
use mathlib.Core.Path.{sym}
use Rattle.potentials.proofs.lennard_jones.species_of.Goals as goal

pub returns : goal.returns
returns c = sym (get_or-eq_default c.args.species.now 0 c.if-i-species.false)
