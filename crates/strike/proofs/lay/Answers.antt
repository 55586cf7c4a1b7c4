use Prim.Native.Nat.{◌*◌}
use Rattle.strike.proofs.Passed.{three_laid}
use lib.Seq.{lt-length-set}
use native.Mathlib.Omega.{arith}
use Rattle.strike.proofs.lay.Goals as goal

pub bounds-xs-at-2 : goal.bounds-xs-at-2
bounds-xs-at-2 c = lt-length-set c.args.xs.now (3 * c.args.k) c.args.v.x (omega (arith, c.requires))

pub returns : goal.returns
returns c = three_laid c.args.xs.now (3 * c.args.k) c.args.v.x c.args.v.y c.args.v.z
