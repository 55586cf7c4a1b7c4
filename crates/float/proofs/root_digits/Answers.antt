-- `float::root_digits` meets its contract: the loop starts after 13 digits. Assumes nothing.
use Rattle.float.proofs.WholeRoots.{table_start, twice_lt}
use Rattle.std.proofs.Common.{arith}
use Rattle.float.proofs.root_digits.Goals as goal

pub overflow_mul-r : goal.overflow_mul-r
overflow_mul-r c = omega (arith, twice_lt _ _ _ _ (table_start _ _ c.requires.1 c.leading_root-r.ensures))

pub overflow_mul-over-2 : goal.overflow_mul-over-2
overflow_mul-over-2 c = omega (arith, twice_lt _ _ _ _ (table_start _ _ c.requires.1 c.leading_root-r.ensures), (table_start _ _ c.requires.1 c.leading_root-r.ensures).left)

pub overflow_add-over : goal.overflow_add-over
overflow_add-over c = omega (arith, twice_lt _ _ _ _ (table_start _ _ c.requires.1 c.leading_root-r.ensures), (table_start _ _ c.requires.1 c.leading_root-r.ensures).left)

pub more_digits-requires : goal.more_digits-requires
more_digits-requires c = table_start _ _ c.requires.1 c.leading_root-r.ensures
