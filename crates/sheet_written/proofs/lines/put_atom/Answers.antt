use Rattle.sheet_written.proofs.OneAfterAnother.{atom_put}
use Rattle.sheet_written.proofs.lines.put_atom.Goals as goal

pub returns : goal.returns
returns c = atom_put c.args.at c.args.number c.args.x c.args.y c.args.z _ _ _ c.put_place.ensures c.put_byte.ensures
