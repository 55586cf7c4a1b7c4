use Rattle.neighbor_listing.proofs.Flagging.{unframed, laid_framed}
use Rattle.neighbor_listing.proofs.side.bounds_at.Goals as goal

pub returns-then-part-gt64 : goal.returns-then-part-gt64
returns-then-part-gt64 c = unframed

pub returns : goal.returns
returns c = laid_framed c.lay_out.ensures c.bounds_of.ensures
