use Rattle.neighbor_listing.specs.Sides.{greatest_rows}
use Rattle.neighbor_listing.proofs.side.greatest_rows.Goals as goal

pub returns : goal.returns
returns c = unfold greatest_rows in rw (c.high_sum.ensures, c.high_sum-2.ensures, c.high_sum-3.ensures)
