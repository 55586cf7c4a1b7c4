use Rattle.strike.proofs.Passed.{links_closed}
use Rattle.strike.specs.Calls.{links}
use Rattle.strike.proofs.close_links.Goals as goal

pub returns : goal.returns
returns c = links_closed c.args.marks.now c.args.n (links c.args.bonds.now c.args.lengths.now c.args.ks.now c.args.angles.now c.args.per_angle.now c.args.exclusions.now) c.close_bonds-b.result c.close_angles-a.result c.close_names-x.result c.close_bonds-b.new.bonds c.close_angles-a.new.angles c.close_names-x.new.names c.close_bonds-b.new.lengths c.close_bonds-b.new.ks c.close_angles-a.new.per_angle c.close_bonds-b.ensures c.close_angles-a.ensures c.close_names-x.ensures
