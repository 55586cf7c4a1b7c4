-- `float::to_u64` meets its contract: `proofs/Casts.antt` has the branches that end at an end of the range. Assumes nothing.
use Rattle.float.proofs.Branches.{yes}
use Rattle.float.proofs.Casts.{unsigned_low, unsigned_high}
use lib.Ieee.{of_bits, neg}
use Rattle.float.proofs.to_u64.Goals as goal

pub truncating_f64_to_u64-requires : goal.truncating_f64_to_u64-requires
unfolding of_bits neg
truncating_f64_to_u64-requires c = record { lower_bound = yes c.if-x.true; upper_bound = yes c.if-x-2.true }

pub returns-else-x-2 : goal.returns-else-x-2
unfolding of_bits neg
returns-else-x-2 c = unsigned_high 64 _ c.if-x.true c.if-x-2.false

pub returns-else-x : goal.returns-else-x
unfolding of_bits neg
returns-else-x c = unsigned_low 64 _ c.if-x.false
