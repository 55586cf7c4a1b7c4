use Prim.Native.Nat.{◌≤◌, ◌-◌}
use Rattle.lists.specs.Loops.{halved}
use Rattle.potentials_pair.specs.Species.{place_in}
use lib.Dec.{ltb}
use lib.ListN.{length, get_or}
use mathlib.Core.Path.{◌≡◌}
use Rattle.potentials_pair.proofs.species.place_in.Given as goal

abbrev pub invariant-loop-from : goal.invariant-loop-from
invariant-loop-from l = (l.from ≤ l.to) × (l.to ≤ length l.ids) × (halved (λ k. ltb (get_or l.ids k 0) l.z) (l.to - l.from) l.from l.to ≡ place_in l.ids l.z)

abbrev pub decreases-loop-from : goal.decreases-loop-from
decreases-loop-from l = l.to - l.from
