use Rattle.potentials.proofs.Folds.{left_begin, rows_end}
use Rattle.potentials.proofs.Laid.{rows_turn}
use Rattle.potentials.proofs.Near.{lj_row_lem}
use Rattle.potentials.specs.Rows.{lj_rowed}
use Rattle.potentials.specs.Steps.{lj_step}
use mathlib.Core.Path.{refl, sym, ◌∙◌}
use native.Mathlib.Omega.{arith}
use Rattle.potentials.proofs.lennard_jones.by_blocks.Goals as goal

pub loop-k-init : goal.loop-k-init
loop-k-init c = (omega arith, refl, refl, refl, c.requires.kept, left_begin _ _)

pub block_end-to-requires : goal.block_end-to-requires
block_end-to-requires c = c.loop-k-test.true

pub lay_rows-went-requires : goal.lay_rows-went-requires
lay_rows-went-requires c = (omega (arith, c.block_end-to.ensures.0), c.block_end-to.ensures.2, c.block_end-to.ensures.1, c.loop-k.invariant.1 ∙ c.requires.ways_len.0)

pub add-s-requires : goal.add-s-requires
add-s-requires c = record { from_le_to = (omega (arith, c.block_end-to.ensures.0), c.block_end-to.ensures.2, c.block_end-to.ensures.1, c.lay_rows-went.auto.ways ∙ c.loop-k.invariant.1 ∙ c.requires.ways_len.0, c.loop-k.invariant.2 ∙ c.requires.ways_len.1); kept = c.loop-k.invariant.4 }

pub loop-k-smaller : goal.loop-k-smaller
loop-k-smaller c = omega (arith, c.loop-k-test.true, c.block_end-to.ensures.0, c.block_end-to.ensures.1)

pub loop-k-preserved : goal.loop-k-preserved
loop-k-preserved c = (c.block_end-to.ensures.1, c.lay_rows-went.auto.ways ∙ c.loop-k.invariant.1, c.add-s.auto.pulls ∙ c.loop-k.invariant.2, c.add-s.auto.forces ∙ c.loop-k.invariant.3, c.add-s.ensures.kept_2, rows_turn (lj_step c.args.lj c.args.p _ c.args.species.now c.args.xs.now) c.args.table.now (lj_rowed c.args.lj _ c.args.species.now c.args.table.now c.loop-k.k c.lay_rows-went.new.ways) c.loop-k.k (omega (arith, c.block_end-to.ensures.0)) c.block_end-to.ensures.1 (lj_row_lem c.args.lj _ c.args.species.now c.lay_rows-went.ensures) c.loop-k.invariant.5 c.add-s.ensures.forces_after)

pub shape_of-ways : goal.shape_of-ways
shape_of-ways c = c.loop-k.invariant.1

pub shape_of-atoms : goal.shape_of-atoms
shape_of-atoms c = c.loop-k.invariant.4.block.atoms144 ∙ sym c.requires.kept.block.atoms144

pub shape_of-room : goal.shape_of-room
shape_of-room c = c.loop-k.invariant.4.block.room561 ∙ sym c.requires.kept.block.room561

pub shape_of-pulls : goal.shape_of-pulls
shape_of-pulls c = c.loop-k.invariant.2

pub shape_of-forces : goal.shape_of-forces
shape_of-forces c = c.loop-k.invariant.3

pub returns : goal.returns
returns c = rows_end c.args.table.now c.loop-k-test.false c.loop-k.invariant.5
