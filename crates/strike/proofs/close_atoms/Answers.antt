use Rattle.strike.proofs.Passed.{atoms_closed}
use Rattle.strike.specs.Calls.{atoms}
use Rattle.strike.proofs.close_atoms.Goals as goal

pub returns : goal.returns
returns c = atoms_closed c.args.marks.now (atoms c.args.positions.now c.args.velocities.now c.args.masses.now c.args.charges.now c.args.species.now) c.close_atoms.new.xs c.close_atoms-2.new.xs c.close_atoms-3.new.xs c.close_atoms-4.new.xs c.close_whole.new.xs c.close_atoms.result c.close_atoms-2.result c.close_atoms-3.result c.close_atoms-4.result c.close_whole.result c.close_atoms.ensures c.close_atoms-2.ensures c.close_atoms-3.ensures c.close_atoms-4.ensures c.close_whole.ensures
