use Rattle.sheet_written.proofs.TwoAfterAnother.{atom_put_two}
use Rattle.sheet_written.proofs.two.put_atom_two.Goals as goal

pub returns : goal.returns
returns c = atom_put_two c.args.at c.args.number c.args.x c.args.y c.args.z 0 _ _ _ _ c.put_place.ensures c.put8.ensures c.put_byte.ensures
