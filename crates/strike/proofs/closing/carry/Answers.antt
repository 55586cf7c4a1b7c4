use Prim.Native.Nat.{◌+◌, ◌*◌}
use Rattle.float.specs.Arith.{at}
use Rattle.strike.proofs.Rows.{row_below}
use Rattle.strike.proofs.Turns.{carry_start, carry_turn, carry_done, carried_not, carried_on}
use lib.Ieee.{nan}
use mathlib.Core.Path.{refl}
use native.Mathlib.Omega.{arith}
use Rattle.std.proofs.Common.{ap, not}
use Rattle.strike.proofs.closing.carry.Goals as goal

pub returns-then-not-stays : goal.returns-then-not-stays
returns-then-not-stays c = carried_not (at c.args.xs.now) c.args.width c.args.to c.args.from c.args.xs.now c.args.stays c.args.stays refl (ap not c.if-not-stays.true)

pub overflow_mul-a : goal.overflow_mul-a
overflow_mul-a c = omega (arith, row_below c.args.width c.args.to c.args.from c.requires.0)

pub overflow_mul-b : goal.overflow_mul-b
overflow_mul-b c = omega (arith, c.requires.2)

pub loop-c-init : goal.loop-c-init
loop-c-init c = carry_start nan (λ j. at c.args.xs.now (c.args.width * c.args.from + j)) (c.args.width * c.args.to) c.args.width c.args.xs.now

pub overflow_add-xs : goal.overflow_add-xs
overflow_add-xs c = omega (arith, c.requires.2)

pub offset_bounds-xs-b : goal.offset_bounds-xs-b
offset_bounds-xs-b c = omega (arith, c.requires.2, c.loop-c.invariant.long)

pub bounds-xs-b : goal.bounds-xs-b
bounds-xs-b c = omega (arith, c.requires.2, c.loop-c.invariant.long)

pub overflow_add-xs-in-loop-c : goal.overflow_add-xs-in-loop-c
overflow_add-xs-in-loop-c c = omega (arith, c.requires.2, row_below c.args.width c.args.to c.args.from c.requires.0)

pub offset_bounds-xs-a : goal.offset_bounds-xs-a
offset_bounds-xs-a c = omega (arith, c.requires.2, c.loop-c.invariant.long, row_below c.args.width c.args.to c.args.from c.requires.0)

pub bounds-xs-a : goal.bounds-xs-a
bounds-xs-a c = omega (arith, c.requires.2, c.loop-c.invariant.long, row_below c.args.width c.args.to c.args.from c.requires.0)

pub loop-c-preserved : goal.loop-c-preserved
loop-c-preserved c = carry_turn nan (λ j. at c.args.xs.now (c.args.width * c.args.from + j)) (c.args.width * c.args.to) c.args.width c.args.xs.now c.loop-c.c c.loop-c.xs (at c.loop-c.xs (c.args.width * c.args.from + c.loop-c.c)) c.loop-c-test.true (c.loop-c.invariant.rest (c.args.width * c.args.from + c.loop-c.c) (omega (arith, row_below c.args.width c.args.to c.args.from c.requires.0))) c.loop-c.invariant

pub overflow_add-result : goal.overflow_add-result
overflow_add-result c = omega (arith, c.requires.0, c.requires.1)

pub shape_of-xs : goal.shape_of-xs
shape_of-xs c = c.loop-c.invariant.long

pub returns : goal.returns
returns c = carried_on (at c.args.xs.now) c.args.width c.args.to c.args.from c.args.xs.now c.args.stays c.args.stays c.loop-c.xs refl (ap not c.if-not-stays.false) (carry_done nan (λ j. at c.args.xs.now (c.args.width * c.args.from + j)) (c.args.width * c.args.to) c.args.width c.args.xs.now c.loop-c.c c.loop-c.xs (omega (arith, c.loop-c-test.false)) c.loop-c.invariant)
