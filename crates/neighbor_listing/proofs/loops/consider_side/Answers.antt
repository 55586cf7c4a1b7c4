use Prim.Native.Nat.{◌/◌}
use Rattle.bins.proofs.Runs.{below_rest}
use Rattle.neighbor_listing.proofs.Flagging.{rest_ready, kept_listed}
use Rattle.neighbor_listing.specs.Steps.{scene_by}
use lib.ListN.{length}
use Rattle.neighbor_listing.proofs.loops.consider_side.Goals as goal

pub try_skewed-o-requires : goal.try_skewed-o-requires
try_skewed-o-requires c = (c.requires.0, c.requires.1, c.requires.2, c.requires.3, c.requires.4, c.requires.5, c.requires.6, c.requires.7, c.requires.8)

pub returns-then-o : goal.returns-then-o
returns-then-o c = c.try_skewed-o.ensures.lists c.if-o.true

pub consider_part-requires : goal.consider_part-requires
consider_part-requires c = (c.requires.0, below_rest (length c.args.xs.now / 3) c.args.part.now c.args.from c.requires.1, rest_ready c.args.i c.args.part.now c.args.from c.requires.7)

pub returns-then-s : goal.returns-then-s
returns-then-s c = kept_listed c.args.i c.args.part.now c.args.from (scene_by c.args.s c.args.xs.now c.args.tops.now c.args.table.now) c.args.t (c.try_skewed-o.ensures.kept c.if-o.false) c.consider_part.ensures

pub try_side-o-requires : goal.try_side-o-requires
try_side-o-requires c = c.requires

pub returns-then-o-2 : goal.returns-then-o-2
returns-then-o-2 c = c.try_side-o.ensures.lists c.if-o-2.true

pub consider_part-requires-2 : goal.consider_part-requires-2
consider_part-requires-2 c = (c.requires.0, below_rest (length c.args.xs.now / 3) c.args.part.now c.args.from c.requires.1, rest_ready c.args.i c.args.part.now c.args.from c.requires.7)

pub returns : goal.returns
returns c = kept_listed c.args.i c.args.part.now c.args.from (scene_by c.args.s c.args.xs.now c.args.tops.now c.args.table.now) c.args.t (c.try_side-o.ensures.kept c.if-o-2.false) c.consider_part-2.ensures
