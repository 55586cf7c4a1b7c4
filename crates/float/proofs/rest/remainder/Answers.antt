-- `float::rest::remainder` meets its contract: what each branch finds is in proofs/Remainder.antt. Assumes nothing.
use Rattle.float.proofs.Branches.{yes}
use Rattle.float.proofs.Remainder.{both_positive, told_below, told_not_below, told_itself, told_none}
use Rattle.std.proofs.Common.{◌≡◌, refl, ◌∙◌}
use lib.Ieee.{div, of_bits, binary64, nan}
use Rattle.float.proofs.rest.remainder.Goals as goal

zero_over_zero : div binary64 (of_bits binary64 0) (of_bits binary64 0) ≡ nan
unfolding div of_bits
zero_over_zero = refl

pub divided-r-requires : goal.divided-r-requires
unfolding div of_bits
divided-r-requires c = both_positive c.args.x c.args.y _ _ c.abs-a.ensures c.abs-b.ensures c.if-a-b.true c.if-a-b-2.true

pub returns-then-x : goal.returns-then-x
unfolding div of_bits
returns-then-x c = told_below _ _ _ _ c.abs-a.ensures c.abs-b.ensures _ c.if-a-b.true c.if-a-b-2.true c.divided-r.ensures c.if-x.true

pub returns-else-x : goal.returns-else-x
unfolding div of_bits
returns-else-x c = told_not_below _ _ _ _ c.abs-a.ensures c.abs-b.ensures _ c.if-a-b.true c.if-a-b-2.true c.divided-r.ensures c.if-x.false

pub returns-else-a-b-2 : goal.returns-else-a-b-2
unfolding div of_bits
returns-else-a-b-2 c = told_itself _ _ _ _ c.abs-a.ensures c.abs-b.ensures (yes c.well_formed.0.1) c.if-a-b.true c.if-a-b-2.false

pub returns-else-a-b : goal.returns-else-a-b
unfolding div of_bits
returns-else-a-b c = zero_over_zero ∙ told_none _ _ _ _ c.abs-a.ensures c.abs-b.ensures c.if-a-b.false
