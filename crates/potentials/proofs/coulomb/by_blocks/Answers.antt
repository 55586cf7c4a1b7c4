use Rattle.potentials.proofs.Charged.{coulomb_row_lem}
use Rattle.potentials.proofs.Folds.{left_begin, rows_end}
use Rattle.potentials.proofs.Laid.{rows_turn}
use Rattle.potentials.specs.Rows.{coulomb_rowed}
use Rattle.potentials.specs.Steps.{coulomb_step}
use mathlib.Core.Path.{refl, ◌∙◌}
use native.Mathlib.Omega.{arith}
use Rattle.potentials.proofs.coulomb.by_blocks.Goals as goal

pub loop-k-init : goal.loop-k-init
loop-k-init c = (omega arith, refl, refl, refl, refl, left_begin _ _)

pub block_end-to-requires : goal.block_end-to-requires
block_end-to-requires c = c.loop-k-test.true

pub lay_rows-went-requires : goal.lay_rows-went-requires
lay_rows-went-requires c = (omega (arith, c.block_end-to.ensures.0), c.block_end-to.ensures.2, c.block_end-to.ensures.1, c.loop-k.invariant.1 ∙ c.requires.0)

pub add-s-requires : goal.add-s-requires
add-s-requires c = (omega (arith, c.block_end-to.ensures.0), c.block_end-to.ensures.2, c.block_end-to.ensures.1, c.lay_rows-went.auto.ways ∙ c.loop-k.invariant.1 ∙ c.requires.0, c.loop-k.invariant.2 ∙ c.requires.1, c.loop-k.invariant.3 ∙ c.requires.2)

pub loop-k-smaller : goal.loop-k-smaller
loop-k-smaller c = omega (arith, c.loop-k-test.true, c.block_end-to.ensures.0, c.block_end-to.ensures.1)

pub loop-k-preserved : goal.loop-k-preserved
loop-k-preserved c = (c.block_end-to.ensures.1, c.lay_rows-went.auto.ways ∙ c.loop-k.invariant.1, c.add-s.auto.two ∙ c.loop-k.invariant.2, c.add-s.auto.pulls ∙ c.loop-k.invariant.3, c.add-s.auto.forces ∙ c.loop-k.invariant.4, rows_turn (coulomb_step c.args.ke c.args.cutoff c.args.p c.args.charges.now c.args.xs.now) c.args.table.now (coulomb_rowed c.args.ke c.args.cutoff c.args.charges.now c.args.table.now c.loop-k.k c.lay_rows-went.new.ways) c.loop-k.k (omega (arith, c.block_end-to.ensures.0)) c.block_end-to.ensures.1 (coulomb_row_lem c.args.ke c.args.cutoff c.args.charges.now c.lay_rows-went.ensures) c.loop-k.invariant.5 c.add-s.ensures)

pub shape_of-ways : goal.shape_of-ways
shape_of-ways c = c.loop-k.invariant.1

pub shape_of-two : goal.shape_of-two
shape_of-two c = c.loop-k.invariant.2

pub shape_of-pulls : goal.shape_of-pulls
shape_of-pulls c = c.loop-k.invariant.3

pub shape_of-forces : goal.shape_of-forces
shape_of-forces c = c.loop-k.invariant.4

pub returns : goal.returns
returns c = rows_end c.args.table.now c.loop-k-test.false c.loop-k.invariant.5
