use Rattle.std.proofs.Common.{◌+◌, ◌^◌, ltb, leb, arith}
use Rattle.float.proofs.Certificate.{parts_small, certified, one_at_most, left_of}
use Rattle.float.proofs.quick.confirmed.Goals as goal

pub overflow_mul-ab : goal.overflow_mul-ab
overflow_mul-ab c = omega (arith, (parts_small _ c.requires.bound_2.1).mixed)

pub overflow_mul-p : goal.overflow_mul-p
overflow_mul-p c = omega (arith, (parts_small _ c.requires.bound_2.1).high)

pub overflow_add-p : goal.overflow_add-p
overflow_add-p c = omega (arith, (parts_small _ c.requires.bound_2.1).high, (parts_small _ c.requires.bound_2.1).mixed)

pub overflow_mul-q-2 : goal.overflow_mul-q-2
overflow_mul-q-2 c = omega (arith, (parts_small _ c.requires.bound_2.1).low)

pub overflow_add-q : goal.overflow_add-q
overflow_add-q c = omega (arith, (parts_small _ c.requires.bound_2.1).low)

pub overflow_sub-d : goal.overflow_sub-d
overflow_sub-d c = omega (arith, (parts_small _ c.requires.bound_2.1).high, (parts_small _ c.requires.bound_2.1).mixed)

pub overflow_sub-left : goal.overflow_sub-left
overflow_sub-left c = omega (arith, (parts_small _ c.requires.bound_2.1).low)

pub overflow_add-s-2 : goal.overflow_add-s-2
overflow_add-s-2 c = omega (arith, one_at_most (ltb (2 ^ 57 + c.args.s) (left_of c.args.v c.args.s)) _ c.choose-up.ensures)

pub overflow_sub-s : goal.overflow_sub-s
overflow_sub-s c = omega (arith, one_at_most (leb (left_of c.args.v c.args.s + c.args.s) (2 ^ 57)) _ c.choose-down.ensures)

pub returns : goal.returns
returns c = certified _ _ c.requires.bound.1 c.requires.bound_2.0 c.requires.bound_2.1 _ _ _ c.choose-up.ensures c.choose-down.ensures c.choose.ensures
