use Rattle.lists.specs.Lists.{with_each}
use Rattle.neighbor_listing.proofs.Flagging.{kept_memory}
use Rattle.neighbor_listing.specs.Steps.{scene_by}
use native.Mathlib.Omega.{arith}
use Rattle.neighbor_listing.proofs.loops.consider_whole.Goals as goal

pub try_skewed-o-requires : goal.try_skewed-o-requires
try_skewed-o-requires c = (c.requires.0, c.requires.1, omega arith, c.requires.2, c.requires.3, c.requires.4, c.requires.5, c.requires.6, c.requires.7)

pub returns-then-o : goal.returns-then-o
returns-then-o c = c.try_skewed-o.ensures.lists c.if-o.true

pub returns-then-s : goal.returns-then-s
returns-then-s c = kept_memory (scene_by c.args.s c.args.xs.now c.args.tops.now c.args.table.now) c.args.t (with_each c.args.i c.args.part.now) (c.try_skewed-o.ensures.kept c.if-o.false) c.consider_part.ensures

pub try_side-o-requires : goal.try_side-o-requires
try_side-o-requires c = (c.requires.0, c.requires.1, omega arith, c.requires.2, c.requires.3, c.requires.4, c.requires.5, c.requires.6, c.requires.7, c.requires.8)

pub returns-then-o-2 : goal.returns-then-o-2
returns-then-o-2 c = c.try_side-o.ensures.lists c.if-o-2.true

pub returns : goal.returns
returns c = kept_memory (scene_by c.args.s c.args.xs.now c.args.tops.now c.args.table.now) c.args.t (with_each c.args.i c.args.part.now) (c.try_side-o.ensures.kept c.if-o-2.false) c.consider_part-2.ensures
