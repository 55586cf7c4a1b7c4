use Rattle.std.proofs.Common.{mod-lt, ◌*◌}
use Rattle.float.proofs.Remainder.{rest_step}
use Rattle.float.proofs.rest.rest_of.Goals as goal

pub loop-n-preserved : goal.loop-n-preserved
loop-n-preserved c = (mod-lt (2 * c.loop-n.r) c.requires.0, rest_step _ _ _ _ c.loop-n.invariant.1)
