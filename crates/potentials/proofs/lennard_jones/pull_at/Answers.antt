use Prim.Native.Nat.{◌*◌}
use Rattle.potentials.specs.Blocks.{lj_energy_on, lj_slope_on}
use lib.ListN.{length-set}
use native.Mathlib.Omega.{arith}
use Rattle.potentials.proofs.lennard_jones.pull_at.Goals as goal

pub bounds-pulls-m-2 : goal.bounds-pulls-m-2
bounds-pulls-m-2 c = omega (arith, length-set c.args.pulls.now (2 * c.args.m) c.energy.result, c.requires.2, c.requires.0)

pub returns : goal.returns
returns c = unfold lj_energy_on in unfold lj_slope_on in rw (c.energy.ensures, c.slope.ensures)
