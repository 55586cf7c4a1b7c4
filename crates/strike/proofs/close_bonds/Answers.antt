use Rattle.strike.proofs.Passed.{bonds_closed}
use Rattle.strike.proofs.close_bonds.Goals as goal

pub returns : goal.returns
returns c = bonds_closed c.args.marks.now c.args.bonds.now c.close_names-c.new.names c.args.lengths.now c.close_beside-a.new.xs c.args.ks.now c.close_beside-b.new.xs (record { names = c.close_names-c.result; first = c.close_beside-a.result; second = c.close_beside-b.result }) c.close_beside-a.ensures c.close_beside-b.ensures c.close_names-c.ensures
