use Rattle.neighbor_grid.proofs.Sizes.{place_small}
use native.Mathlib.Omega.{arith}
use Rattle.neighbor_grid.proofs.laying.place_of.Goals as goal

pub overflow_cast-result : goal.overflow_cast-result
overflow_cast-result c = omega (arith, place_small c.args.g c.requires.0 c.fraction.result c.cell_of.ensures c.index.ensures)

pub returns : goal.returns
returns c = rw (← c.fraction.ensures, ← c.cell_of.ensures) c.index.ensures
