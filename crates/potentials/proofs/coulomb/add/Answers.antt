use Rattle.potentials_pair.specs.Pull.{held}
use Rattle.potentials.proofs.Charged.{charges_sum}
use Rattle.potentials.proofs.Laid.{rows_there}
use mathlib.Core.Path.{◌∙◌}
use native.Mathlib.Omega.{arith}
use Rattle.potentials.proofs.coulomb.add.Goals as goal

pub add_all-requires : goal.add_all-requires
add_all-requires c = (rows_there c.keep-n.ensures.picked (omega (arith, c.requires.0, c.requires.1)) (omega (arith, c.keep-n.auto.kept, c.blank_kept-kept.ensures)) (omega (arith, c.requires.0, c.requires.2)), c.requires.3, c.pull_all.auto.pulls ∙ c.requires.5)

pub returns : goal.returns
returns c = charges_sum c.keep-n.ensures c.pull_all.ensures (held c.args.sum c.args.forces.now) c.add_all.ensures
