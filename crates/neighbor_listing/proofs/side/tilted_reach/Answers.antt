use Rattle.neighbor_listing.proofs.Slanted.{slant_reach, fit_ends}
use Rattle.neighbor_listing.proofs.side.tilted_reach.Goals as goal

pub slant_of-r-requires : goal.slant_of-r-requires
slant_of-r-requires c = fit_ends c.args.s c.sub-from.result c.sub-to.result c.least_rows-low.ensures c.greatest_rows-high.ensures

pub returns : goal.returns
returns c = slant_reach c.args.s c.args.a c.args.w c.sub-from.ensures c.sub-to.ensures c.least_rows-low.ensures c.greatest_rows-high.ensures c.slant_of-r.ensures c.add.ensures c.add-2.ensures c.is_outside.ensures
