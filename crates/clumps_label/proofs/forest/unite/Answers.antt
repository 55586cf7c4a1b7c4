use Rattle.clumps_label.proofs.Trees.{moved_united}
use lib.ListN.{length-set}
use mathlib.Core.Path.{◌∙◌}
use native.Mathlib.Omega.{arith}
use Rattle.clumps_label.proofs.forest.unite.Goals as goal

pub shape_of-p-then-x-y : goal.shape_of-p-then-x-y
shape_of-p-then-x-y c = length-set c.root-y.new.p c.wide.result c.root-x.result ∙ c.root-y.auto.p ∙ c.root-x.auto.p

pub returns-then-x-y : goal.returns-then-x-y
returns-then-x-y c = moved_united c.args.p.now c.root-x.new.p c.root-y.new.p c.args.a c.args.b c.root-x.result c.root-y.result c.root-x.result c.wide.result c.requires.left c.requires.right c.root-x.ensures c.root-y.ensures (omega (arith, c.if-x-y.true)) (omega (arith, c.if-x-y.true, c.wide.ensures))

pub shape_of-p : goal.shape_of-p
shape_of-p c = length-set c.root-y.new.p c.wide-2.result c.root-y.result ∙ c.root-y.auto.p ∙ c.root-x.auto.p

pub returns : goal.returns
returns c = moved_united c.args.p.now c.root-x.new.p c.root-y.new.p c.args.a c.args.b c.root-x.result c.root-y.result c.root-y.result c.wide-2.result c.requires.left c.requires.right c.root-x.ensures c.root-y.ensures (omega (arith, c.if-x-y.false)) (omega (arith, c.if-x-y.false, c.wide-2.ensures))
