use Rattle.neighbor.specs.Update.{first_of}
use Rattle.neighbor.proofs.asked.asked_first.Goals as goal

pub returns : goal.returns
returns c = unfold first_of in rw (c.in_order.ensures, c.ranges_ok-inside.ensures, c.claims_more-claims.ensures, c.lengths_bad-lengths.ensures)
