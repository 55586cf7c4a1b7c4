use Rattle.sheet_written.proofs.OneAfterAnother.{place_put}
use Rattle.sheet_written.proofs.lines.put_place.Goals as goal

pub returns : goal.returns
returns c = place_put c.args.at c.args.kind c.args.number c.args.x c.args.y c.args.z _ _ _ _ c.put2.ensures c.put4.ensures c.put888.ensures
