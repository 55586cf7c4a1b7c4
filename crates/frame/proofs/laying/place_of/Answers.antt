use Rattle.frame.proofs.Plans.{place_small, place_is}
use native.Mathlib.Omega.{arith}
use Rattle.frame.proofs.laying.place_of.Goals as goal

pub overflow_cast-result : goal.overflow_cast-result
overflow_cast-result c = omega (arith, place_is c.args.f c.args.a c.requires.gridded.is c.cell_of.ensures c.index.ensures, place_small c.args.f c.args.a c.args.g c.requires.gridded c.requires.inside)

pub returns : goal.returns
returns c = place_is c.args.f c.args.a c.requires.gridded.is c.cell_of.ensures c.index.ensures
