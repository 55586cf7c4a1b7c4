use Rattle.answer.specs.Seen.{seen}
use mathlib.Core.Path.{ap}
use Rattle.clumps_console.proofs.print.Goals as goal

pub put_front-requires : goal.put_front-requires
put_front-requires c = (c.solve_clumps.ensures.fits c.in-Ok.bytes (ap seen c.in-Ok.is)).room
