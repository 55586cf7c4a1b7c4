-- `float::rem_euclid` meets its contract: each branch returns what the definition's `cond` picks. Assumes nothing.
use Rattle.float.proofs.Remainder.{euclid_below, euclid_else}
use lib.Ieee.{of_bits}
use Rattle.float.proofs.rem_euclid.Goals as goal

pub returns-then-r : goal.returns-then-r
unfolding of_bits
returns-then-r c = euclid_below _ _ _ _ c.remainder-r.ensures c.abs.ensures c.if-r.true

pub returns-else-r : goal.returns-else-r
unfolding of_bits
returns-else-r c = euclid_else _ _ _ c.remainder-r.ensures c.if-r.false
