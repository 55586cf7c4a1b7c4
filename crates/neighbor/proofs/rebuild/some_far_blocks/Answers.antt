use Rattle.std.proofs.Common.{arith}
use Rattle.neighbor.proofs.Asking.{searching_begin, searching_block, searching_block_finds, searching_end, from_first}
use Rattle.neighbor.proofs.rebuild.some_far_blocks.Goals as goal

pub loop-i-init : goal.loop-i-init
loop-i-init c = searching_begin _ _ _

pub some_far_near-requires : goal.some_far_near-requires
some_far_near-requires c = (c.requires.0, omega (arith, c.end_of-to.ensures), omega (arith, c.end_of-to.ensures), c.requires.1)

pub returns-then-some_far_near : goal.returns-then-some_far_near
returns-then-some_far_near c = from_first _ _ (searching_block_finds _ _ _ c.loop-i.invariant c.end_of-to.ensures.0 c.end_of-to.ensures.1 c.some_far_near.ensures c.if-some_far_near.true)

pub loop-i-preserved : goal.loop-i-preserved
loop-i-preserved c = searching_block _ _ _ c.loop-i.invariant c.end_of-to.ensures.0 c.end_of-to.ensures.1 c.some_far_near.ensures c.if-some_far_near.false

pub returns : goal.returns
returns c = from_first _ _ (searching_end _ _ _ c.loop-i.invariant c.loop-i-test.false)
