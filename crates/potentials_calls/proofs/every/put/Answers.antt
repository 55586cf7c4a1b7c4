use Rattle.potentials_calls.proofs.AllPairs.{put_partner, put_atom}
use lib.ListN.{length-set}
use mathlib.Core.Path.{refl}
use native.Mathlib.Omega.{arith}
use Rattle.potentials_calls.proofs.every.put.Goals as goal

pub bounds-table-c-2 : goal.bounds-table-c-2
bounds-table-c-2 c = simp length-set (omega (arith, c.requires.4, c.requires.3))

pub returns-then-j-n : goal.returns-then-j-n
returns-then-j-n c = put_partner c.args.n c.args.i c.args.j c.requires.0 c.requires.1 c.args.c c.if-j-n.true refl

pub returns : goal.returns
returns c = put_atom c.args.n c.args.i c.args.j c.requires.0 c.requires.1 c.args.c c.if-j-n.false refl
