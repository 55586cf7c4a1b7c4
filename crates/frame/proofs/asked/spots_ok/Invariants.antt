use Prim.Native.Nat.{◌/◌}
use Rattle.frame.proofs.Ranges.{Passing}
use Rattle.frame.specs.Distance.{spot_of, spot_ok}
use lib.ListN.{length}
use Rattle.frame.proofs.asked.spots_ok.Given as goal

abbrev pub invariant-loop-i : goal.invariant-loop-i
invariant-loop-i l = Passing (λ k. spot_ok l.f (spot_of l.xs k)) (length l.xs / 3) l.i
