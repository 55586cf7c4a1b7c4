use Rattle.neighbor_listing.specs.Sides.{least_rows}
use Rattle.neighbor_listing.proofs.side.least_rows.Goals as goal

pub returns : goal.returns
returns c = unfold least_rows in rw (c.low_sum.ensures, c.low_sum-2.ensures, c.low_sum-3.ensures)
