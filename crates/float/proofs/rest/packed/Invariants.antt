use Rattle.std.proofs.Common.{◌≡◌, ◌*◌, ◌^◌, ◌<◌, ◌≤◌}
use Rattle.float.proofs.rest.packed.Given as goal

abbrev pub invariant-loop-p : goal.invariant-loop-p
invariant-loop-p l = (l.p ≤ l.power) × (l.m < 2 ^ 53) × (l.m * 2 ^ l.p ≡ l.digits * 2 ^ l.power)

abbrev pub decreases-loop-p : goal.decreases-loop-p
decreases-loop-p l = l.p
