use Rattle.potentials_pair.specs.Pull.{held}
use Rattle.potentials.proofs.Laid.{rows_there}
use Rattle.potentials.proofs.Near.{kept_rest, near_sum, rows_same}
use mathlib.Core.Path.{◌∙◌}
use native.Mathlib.Omega.{arith}
use Rattle.potentials.proofs.lennard_jones.add.Goals as goal

pub number_all-requires : goal.number_all-requires
number_all-requires c = record { rows_there = rows_there c.keep-n.ensures.picked (omega (arith, c.requires.from_le_to.0, c.requires.from_le_to.1)) (omega (arith, c.keep-n.auto.atoms, c.requires.kept.block.atoms144)) (omega (arith, c.requires.from_le_to.0, c.requires.from_le_to.2)); kept = kept_rest c.requires.kept c.keep-n.ensures.others c.keep-n.auto.atoms c.keep-n.auto.room }

pub pull_all-requires : goal.pull_all-requires
pull_all-requires c = (omega (arith, c.keep-n.ensures.picked.few, c.requires.from_le_to.0, c.requires.from_le_to.1), c.number_all.ensures.kept.block.room561, c.requires.from_le_to.4)

pub add_all-requires : goal.add_all-requires
add_all-requires c = (rows_same (rows_there c.keep-n.ensures.picked (omega (arith, c.requires.from_le_to.0, c.requires.from_le_to.1)) (omega (arith, c.keep-n.auto.atoms, c.requires.kept.block.atoms144)) (omega (arith, c.requires.from_le_to.0, c.requires.from_le_to.2))) c.number_all.auto.atoms c.number_all.ensures.same_atoms, c.requires.from_le_to.3, c.pull_all.auto.pulls ∙ c.requires.from_le_to.4)

pub returns : goal.returns
returns c = record { kept_2 = c.number_all.ensures.kept; forces_after = near_sum c.args.lj _ c.args.species.now c.args.table.now c.args.from (omega (arith, c.requires.from_le_to.0, c.requires.from_le_to.1)) c.keep-n.ensures c.number_all.ensures c.pull_all.ensures (held c.args.sum c.args.forces.now) c.add_all.ensures }
