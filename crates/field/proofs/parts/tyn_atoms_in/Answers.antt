use Rattle.bins.proofs.Parts.{held_is, part_none}
use Rattle.field.proofs.Told.{says_part, atoms_told, held_answered, held_refused, start_held, start_not}
use native.Mathlib.Omega.{arith}
use Rattle.field.proofs.parts.tyn_atoms_in.Goals as goal

pub returns-in-Err : goal.returns-in-Err
returns-in-Err c = let n = held_refused c.args.cell c.args.starts.now c.args.items.now c.atoms_in_asked-asked.result _ c.atoms_in_asked-asked.ensures c.in-Err.is in says_part c.atoms_in_asked-asked.result c.atoms_in_asked-asked.ensures (start_not c.args.cell c.args.starts.now c.args.items.now n) (part_none c.args.cell c.args.starts.now c.args.items.now n) (atoms_told c.args.cell c.args.starts.now c.args.items.now) c.from-done.ensures

pub offset_bounds-starts-cell : goal.offset_bounds-starts-cell
offset_bounds-starts-cell c = omega (arith, (held_is c.args.cell c.args.starts.now c.args.items.now (held_answered c.args.cell c.args.starts.now c.args.items.now c.atoms_in_asked-asked.result c.atoms_in_asked-asked.ensures c.in_default.is)).there)

pub bounds-starts-cell : goal.bounds-starts-cell
bounds-starts-cell c = omega (arith, (held_is c.args.cell c.args.starts.now c.args.items.now (held_answered c.args.cell c.args.starts.now c.args.items.now c.atoms_in_asked-asked.result c.atoms_in_asked-asked.ensures c.in_default.is)).there)

pub overflow_cast-result : goal.overflow_cast-result
overflow_cast-result c = omega (arith, c.type_inv.starts c.args.cell)

pub returns : goal.returns
returns c = says_part c.atoms_in_asked-asked.result c.atoms_in_asked-asked.ensures (start_held c.args.cell c.args.starts.now c.args.items.now (held_answered c.args.cell c.args.starts.now c.args.items.now c.atoms_in_asked-asked.result c.atoms_in_asked-asked.ensures c.in_default.is)) c.atoms_in-part.ensures (atoms_told c.args.cell c.args.starts.now c.args.items.now) c.from-done.ensures
