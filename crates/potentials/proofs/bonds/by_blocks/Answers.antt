use Rattle.lists.proofs.Rows.{length_rows}
use Rattle.lists.specs.Lists.{up_to, rows}
use Rattle.potentials_pair.specs.Pull.{held}
use Rattle.potentials.proofs.Blocks.{at_least, block_kept, block_turn}
use Rattle.potentials.proofs.Bonded.{bonded_sum}
use Rattle.potentials.proofs.Folds.{left_begin, numbers_over}
use lib.ListN.{length}
use mathlib.Core.Path.{refl, ◌∙◌}
use native.Mathlib.Omega.{arith}
use Rattle.potentials.proofs.bonds.by_blocks.Goals as goal

pub loop-b-init : goal.loop-b-init
loop-b-init c = (omega arith, refl, refl, refl, refl, refl, refl, left_begin _ _)

pub block_end-to-requires : goal.block_end-to-requires
block_end-to-requires c = c.loop-b-test.true

pub sift-n-requires : goal.sift-n-requires
sift-n-requires c = (omega (arith, c.block_end-to.ensures.0), c.block_end-to.ensures.2, c.block_end-to.ensures.1, block_kept c.requires.0 c.loop-b.invariant.1 c.loop-b.invariant.2 c.loop-b.invariant.3)

pub estimate_all-requires : goal.estimate_all-requires
estimate_all-requires c = (omega (arith, c.sift-n.ensures.few, c.block_end-to.ensures.2), at_least (c.sift-n.auto.apart ∙ c.loop-b.invariant.2) c.requires.0.apart384, c.loop-b.invariant.4 ∙ c.requires.1)

pub pull_all-requires : goal.pull_all-requires
pull_all-requires c = (omega (arith, c.sift-n.ensures.few, c.block_end-to.ensures.2), at_least (c.sift-n.auto.apart ∙ c.loop-b.invariant.2) c.requires.0.apart384, c.sift-n.auto.two ∙ c.loop-b.invariant.3 ∙ c.requires.0.two256, c.estimate_all.ensures, c.loop-b.invariant.5 ∙ c.requires.2)

pub add_all-s-requires : goal.add_all-s-requires
add_all-s-requires c = (omega (arith, c.sift-n.ensures.few, c.block_end-to.ensures.2), record { atoms256 = at_least (c.sift-n.auto.atoms ∙ c.loop-b.invariant.1) c.requires.0.atoms256; apart384 = at_least (c.sift-n.auto.apart ∙ c.loop-b.invariant.2) c.requires.0.apart384; two256 = c.pull_all.auto.pulls ∙ c.loop-b.invariant.5 ∙ c.requires.2 }, c.pull_all.auto.roots ∙ c.estimate_all.ensures)

pub loop-b-smaller : goal.loop-b-smaller
loop-b-smaller c = omega (arith, c.loop-b-test.true, c.block_end-to.ensures.0, c.block_end-to.ensures.1)

pub loop-b-preserved : goal.loop-b-preserved
loop-b-preserved c = (c.block_end-to.ensures.1, c.sift-n.auto.atoms ∙ c.loop-b.invariant.1, c.sift-n.auto.apart ∙ c.loop-b.invariant.2, c.sift-n.auto.two ∙ c.loop-b.invariant.3, c.pull_all.auto.roots ∙ c.estimate_all.auto.roots ∙ c.loop-b.invariant.4, c.pull_all.auto.pulls ∙ c.loop-b.invariant.5, c.add_all-s.auto.forces ∙ c.loop-b.invariant.6, block_turn (up_to (length (rows c.args.bonds.now.ends.now))) c.loop-b.invariant.7 c.sift-n.ensures (bonded_sum c.sift-n.new.apart c.sift-n.new.two c.sift-n.new.atoms c.pull_all.new.roots c.pull_all.new.pulls c.sift-n.result c.pull_all.ensures (held c.loop-b.s c.loop-b.forces) c.add_all-s.ensures))

pub shape_of-atoms : goal.shape_of-atoms
shape_of-atoms c = c.loop-b.invariant.1

pub shape_of-apart : goal.shape_of-apart
shape_of-apart c = c.loop-b.invariant.2

pub shape_of-two : goal.shape_of-two
shape_of-two c = c.loop-b.invariant.3

pub shape_of-roots : goal.shape_of-roots
shape_of-roots c = c.loop-b.invariant.4

pub shape_of-pulls : goal.shape_of-pulls
shape_of-pulls c = c.loop-b.invariant.5

pub shape_of-forces : goal.shape_of-forces
shape_of-forces c = c.loop-b.invariant.6

pub returns : goal.returns
returns c = numbers_over (length (rows c.args.bonds.now.ends.now)) (omega (arith, length_rows c.args.bonds.now.ends.now, c.loop-b-test.false)) c.loop-b.invariant.7
