use Rattle.float.proofs.WholeRoots.{first_turn, in_turn, half_turn, next_turn, end_turn}
use Rattle.std.proofs.Common.{arith}
use Rattle.float.proofs.more_digits.Goals as goal

pub digit-first-requires : goal.digit-first-requires
digit-first-requires c = (c.requires, omega arith)

pub loop-b-init : goal.loop-b-init
loop-b-init c = first_turn _ _ _ c.digit-first.ensures

pub digit-one-requires : goal.digit-one-requires
digit-one-requires c = (in_turn _ _ _ _ c.loop-b.invariant c.loop-b-test.true, omega (arith, c.loop-b.invariant.few))

pub digit-two-requires : goal.digit-two-requires
digit-two-requires c = (half_turn _ _ _ _ c.loop-b.invariant c.loop-b-test.true _ _ c.digit-one.ensures, omega (arith, c.loop-b.invariant.few))

pub loop-b-preserved : goal.loop-b-preserved
loop-b-preserved c = next_turn _ _ _ _ c.loop-b.invariant c.loop-b-test.true _ _ c.digit-two.ensures

pub returns : goal.returns
returns c = end_turn _ _ _ _ c.loop-b.invariant c.loop-b-test.false
