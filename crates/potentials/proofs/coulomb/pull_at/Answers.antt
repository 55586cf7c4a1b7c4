use Prim.Native.Nat.{◌*◌}
use Rattle.float.specs.Arith.{◌⊘◌, at}
use Rattle.potentials.specs.Blocks.{coulomb_energy, coulomb_slope}
use lib.ListN.{length-set}
use native.Mathlib.Omega.{arith}
use Rattle.potentials.proofs.coulomb.pull_at.Goals as goal

pub bounds-pulls-m-2 : goal.bounds-pulls-m-2
bounds-pulls-m-2 c = omega (arith, length-set c.args.pulls.now (2 * c.args.m) (at c.args.two.now (2 * c.args.m) ⊘ c.root_from-r.result), c.requires.3, c.requires.0)

pub returns : goal.returns
returns c = unfold coulomb_energy in unfold coulomb_slope in rw c.root_from-r.ensures
