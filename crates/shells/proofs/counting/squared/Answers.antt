use Rattle.shells.proofs.Distances.{never_refused, squared_is}
use Rattle.shells.proofs.counting.squared.Goals as goal

pub returns-in_default : goal.returns-in_default
returns-in_default c = never_refused c.args.f c.args.xs.now c.requires.0 c.args.i c.args.j c.requires.1 c.requires.2 (rw (c.spot.ensures, c.spot-2.ensures) at c.squared_distance-d.ensures) c.in_default.is

pub returns : goal.returns
returns c = squared_is c.args.f c.args.xs.now c.requires.0 c.args.i c.args.j c.requires.1 c.requires.2 (rw (c.spot.ensures, c.spot-2.ensures) at c.squared_distance-d.ensures) c.in-Ok.is
