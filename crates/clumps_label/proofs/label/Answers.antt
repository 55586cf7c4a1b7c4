use Rattle.clumps_label.proofs.Labels.{off, as_many, too_many, not_there, labels_are, all_passed}
use Rattle.clumps_label.proofs.Trees.{planted}
use Rattle.lists.proofs.Exactness.{length_up_to}
use Rattle.lists.proofs.Rows.{length_rows}
use Rattle.lists.specs.Lists.{rows, up_to}
use lib.ListN.{length}
use mathlib.Core.Path.{◌≡◌, sym, ap, ◌∙◌}
use native.Mathlib.Omega.{arith}
use Rattle.clumps_label.proofs.label.Goals as goal

pub returns-then-lengths_off : goal.returns-then-lengths_off
returns-then-lengths_off c = off c.args.count c.args.pairs.now c.args.labels.now (sym c.lengths_off.ensures ∙ c.if-lengths_off.true)

pub returns-then-n-gt16384 : goal.returns-then-n-gt16384
returns-then-n-gt16384 c = too_many c.args.count c.args.pairs.now c.args.labels.now (sym c.lengths_off.ensures ∙ c.if-lengths_off.false) c.if-n-gt16384.true

pub returns-then-row-pairs : goal.returns-then-row-pairs
returns-then-row-pairs c = not_there c.args.count c.args.pairs.now c.args.labels.now (sym c.lengths_off.ensures ∙ c.if-lengths_off.false) c.if-n-gt16384.false c.first_absent-row.result c.first_absent-row.ensures (omega (arith, c.if-row-pairs.true, length_rows c.args.pairs.now))

pub plant-requires : goal.plant-requires
plant-requires c = omega (arith, as_many c.args.count c.args.pairs.now c.args.labels.now (sym c.lengths_off.ensures ∙ c.if-lengths_off.false))

pub link_all-requires : goal.link_all-requires
link_all-requires c = let m = as_many c.args.count c.args.pairs.now c.args.labels.now (sym c.lengths_off.ensures ∙ c.if-lengths_off.false) in let e = c.plant.ensures ∙ ap up_to m in let n : length c.plant.new.p ≡ c.args.count = ap length e ∙ length_up_to c.args.count in (rw e (planted c.args.count).0, rw n (omega (arith, c.if-row-pairs.false, c.first_absent-row.ensures, length_rows c.args.pairs.now)))

pub returns : goal.returns
returns c = let m = as_many c.args.count c.args.pairs.now c.args.labels.now (sym c.lengths_off.ensures ∙ c.if-lengths_off.false) in let a = all_passed c.args.count (rows c.args.pairs.now) c.plant.new.p c.link_all.new.p c.settle.result c.settle.new.p (c.plant.ensures ∙ ap up_to m) c.link_all.ensures c.settle.ensures in rw (a.0, a.1) (labels_are c.args.count c.args.pairs.now c.args.labels.now (sym c.lengths_off.ensures ∙ c.if-lengths_off.false) c.if-n-gt16384.false (omega (arith, c.if-row-pairs.false, c.first_absent-row.ensures, length_rows c.args.pairs.now)))
