use Rattle.frame.proofs.Listings.{pair_rising, pair_falling}
use Rattle.frame.proofs.listing.consider.Goals as goal

pub is_near-near-requires : goal.is_near-near-requires
is_near-near-requires c = record { frame_sized = c.requires.ready.1.sized; inside = (rw c.requires.i_in_bounds.2 (c.requires.ready.1.inside _ c.requires.i_in_bounds.0), rw c.spot_at-b.ensures (c.requires.ready.1.inside _ c.requires.i_in_bounds.1)) }

pub returns-then-i-j : goal.returns-then-i-j
returns-then-i-j c = pair_rising _ _ _ _ _ _ _ c.requires.i_in_bounds.2 c.spot_at-b.ensures c.is_near-near.ensures c.if-i-j.true c.settle.ensures

pub returns : goal.returns
returns c = pair_falling _ _ _ _ _ _ _ c.requires.i_in_bounds.2 c.spot_at-b.ensures c.is_near-near.ensures c.if-i-j.false c.settle-2.ensures
