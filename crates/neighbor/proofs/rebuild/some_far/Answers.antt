use Rattle.neighbor.proofs.Asking.{from_first}
use Rattle.neighbor.proofs.rebuild.some_far.Goals as goal

pub returns-then-l : goal.returns-then-l
returns-then-l c = from_first _ _ c.some_far_long.ensures

pub some_far_blocks-requires : goal.some_far_blocks-requires
some_far_blocks-requires c = (c.requires, c.is_enough.ensures.so c.if-is_enough.true)

pub returns : goal.returns
returns c = from_first _ _ c.some_far_square.ensures
