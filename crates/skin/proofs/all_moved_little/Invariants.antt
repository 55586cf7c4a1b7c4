use Prim.Native.Nat.{◌/◌}
use Rattle.frame.proofs.Ranges.{Passing}
use Rattle.frame.specs.Distance.{spot_of}
use Rattle.skin.specs.Skin.{moved_little}
use lib.ListN.{length}
use Rattle.skin.proofs.all_moved_little.Given as goal

abbrev pub invariant-loop-i : goal.invariant-loop-i
invariant-loop-i l = Passing (λ k. moved_little l.f l.skin (spot_of l.old k) (spot_of l.new k)) (length l.old / 3) l.i
