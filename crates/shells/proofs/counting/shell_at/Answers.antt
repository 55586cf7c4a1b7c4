use Rattle.shells.proofs.Distances.{shell_row}
use Rattle.shells.proofs.counting.shell_at.Goals as goal

pub squared-requires : goal.squared-requires
squared-requires c = (c.requires.0.ranged, (c.requires.0.there _ c.requires.1).0, (c.requires.0.there _ c.requires.1).1)

pub returns : goal.returns
returns c = (shell_row c.args.f c.args.xs.now c.args.width c.args.shells c.args.pairs.now c.args.k c.requires.1 c.shell_of.ensures.0 c.squared.ensures, c.shell_of.ensures.1)
