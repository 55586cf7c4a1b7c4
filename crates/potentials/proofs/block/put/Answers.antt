use Prim.Native.Nat.{◌+◌, ◌*◌}
use lib.ListN.{set, length-set}
use native.Mathlib.Omega.{arith}
use Rattle.potentials.proofs.block.put.Goals as goal

pub bounds-atoms-c-2 : goal.bounds-atoms-c-2
bounds-atoms-c-2 c = omega (arith, length-set c.args.atoms.now (2 * c.args.c) c.args.i, c.requires.1.atoms256, c.requires.0)

pub bounds-apart-c-2 : goal.bounds-apart-c-2
bounds-apart-c-2 c = omega (arith, length-set c.args.apart.now (3 * c.args.c) c.args.d.x, c.requires.1.apart384, c.requires.0)

pub bounds-apart-c-3 : goal.bounds-apart-c-3
bounds-apart-c-3 c = omega (arith, length-set c.args.apart.now (3 * c.args.c) c.args.d.x, length-set (set c.args.apart.now (3 * c.args.c) c.args.d.x) (3 * c.args.c + 1) c.args.d.y, c.requires.1.apart384, c.requires.0)

pub bounds-two-c-2 : goal.bounds-two-c-2
bounds-two-c-2 c = omega (arith, length-set c.args.two.now (2 * c.args.c) c.args.u, c.requires.1.two256, c.requires.0)
