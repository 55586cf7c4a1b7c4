use lib.ListN.{length-set}
use native.Mathlib.Omega.{arith}
use Rattle.potentials.proofs.rows.put_row.Goals as goal

pub bounds-ways-t-2 : goal.bounds-ways-t-2
bounds-ways-t-2 c = simp length-set (omega (arith, c.requires.0, c.requires.1))

pub bounds-ways-t-3 : goal.bounds-ways-t-3
bounds-ways-t-3 c = simp length-set (omega (arith, c.requires.0, c.requires.1))

pub bounds-ways-t-4 : goal.bounds-ways-t-4
bounds-ways-t-4 c = simp length-set (omega (arith, c.requires.0, c.requires.1))

pub returns : goal.returns
returns c = rw c.norm2.ensures
