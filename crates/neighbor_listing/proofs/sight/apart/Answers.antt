use Rattle.neighbor_listing.proofs.sight.apart.Goals as goal

pub returns-then-rising : goal.returns-then-rising
returns-then-rising c = rw c.if-rising.true c.sub.ensures

pub returns : goal.returns
returns c = rw c.if-rising.false c.sub-2.ensures
