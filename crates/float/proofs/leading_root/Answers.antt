-- `float::leading_root` meets its contract: an entry is at most 8 too small (`entry-within` of `proofs/WholeRoots.antt`). Assumes nothing.
use Rattle.float.proofs.WholeRoots.{entry_within}
use Rattle.std.proofs.Common.{refl, arith}
use Rattle.float.proofs.leading_root.Goals as goal

pub raised-a-requires : goal.raised-a-requires
raised-a-requires c = (entry_within _ _ _ c.entry-e.ensures (omega arith) refl, omega arith, omega arith)
