use Rattle.sheet.proofs.TurnsTwo.{one_species}
use Rattle.sheet.proofs.two.copy_species.Goals as goal

pub loop-i-preserved : goal.loop-i-preserved
loop-i-preserved c = one_species c.args.from.now c.args.to.now c.loop-i.to c.loop-i.i c.loop-i.invariant
