-- `float::to_i64` meets its contract: `proofs/Casts.antt` has the branches that end at an end of the range. Assumes nothing.
use Rattle.float.proofs.Branches.{yes}
use Rattle.float.proofs.Casts.{signed_high, signed_low, signed_nan}
use lib.Ieee.Compare.{differs_from_itself}
use lib.Ieee.{of_bits, neg}
use Rattle.float.proofs.to_i64.Goals as goal

pub truncating_f64_to_i64-requires : goal.truncating_f64_to_i64-requires
unfolding of_bits neg
truncating_f64_to_i64-requires c = record { lower_bound = yes c.if-x.true; upper_bound = yes c.if-x-2.true }

pub returns-else-x-2 : goal.returns-else-x-2
unfolding of_bits neg
returns-else-x-2 c = signed_high 63 _ c.if-x.true c.if-x-2.false

pub returns-then-x-3 : goal.returns-then-x-3
returns-then-x-3 c = signed_nan 63 _ (differs_from_itself _ (yes c.if-x-3.true))

pub returns-else-x-3 : goal.returns-else-x-3
unfolding of_bits neg
returns-else-x-3 c = signed_low 63 _ c.if-x.false c.if-x-3.false
