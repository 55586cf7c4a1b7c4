use Prim.Native.Nat.{◌+◌, ◌/◌}
use Rattle.bins.proofs.Runs.{run_inside, run_inside_end, ready_inside, below_rest}
use lib.ListN.{length}
use mathlib.Core.List.{[]}
use Rattle.frame.proofs.listing.consider_home.Goals as goal

pub consider_part-now-requires : goal.consider_part-now-requires
consider_part-now-requires c = record { framed = c.requires.framed; i_in_bounds = (c.requires.below.0 _ c.loop-k-test.true, below_rest (length c.args.xs.now / 3) c.args.home.now (c.loop-k.k + 1) c.requires.below.0, ready_inside _ [] _ c.loop-k-test.true c.loop-k.invariant.ready) }

pub loop-k-preserved : goal.loop-k-preserved
loop-k-preserved c = run_inside _ [] _ c.loop-k-test.true _ c.loop-k.invariant c.consider_part-now.ensures

pub returns : goal.returns
returns c = run_inside_end _ [] _ c.loop-k-test.false c.loop-k.invariant
