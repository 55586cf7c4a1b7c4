use Prim.Native.Nat.{◌≤◌}
use Rattle.fire.specs.Steer.{blend_at}
use Rattle.lists.specs.Loops.{part_at}
use lib.ListN.{length}
use mathlib.Core.Path.{◌≡◌}
use Rattle.fire.proofs.steer.mix_all.Given as goal

abbrev pub invariant-loop-k : goal.invariant-loop-k
invariant-loop-k l = (l.k ≤ length l.initial.vs) × (length l.vs ≡ length l.initial.vs) × (l.vs ≡ part_at (blend_at l.keep l.one l.push l.fs) l.k l.initial.vs)
