use Prim.Native.Nat.{◌*◌}
use Rattle.potentials.proofs.Bonded.{long_at, energy_at, slope_at}
use lib.ListN.{length-set}
use native.Mathlib.Omega.{arith}
use Rattle.potentials.proofs.bonds.pull_at.Goals as goal

pub bounds-pulls-m-2 : goal.bounds-pulls-m-2
bounds-pulls-m-2 c = omega (arith, length-set c.args.pulls.now (2 * c.args.m) c.energy.result, c.requires.4, c.requires.0)

pub returns : goal.returns
returns c = let long = long_at c.args.apart.now c.args.m c.spot_at-d.ensures c.norm2-r2.ensures c.root_from-r.ensures in record { roots_after = rw long; pulls_after = rw (energy_at c.args.apart.now c.args.two.now c.args.m long c.energy.ensures, slope_at c.args.apart.now c.args.two.now c.args.m long c.slope.ensures) }
