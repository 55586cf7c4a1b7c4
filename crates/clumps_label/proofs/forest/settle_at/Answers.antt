use lib.Dec.{eqb}
use lib.ListN.{get_or, set}
use mathlib.Core.Bool.{cond}
use mathlib.Core.Path.{ap, ◌∙◌}
use native.Mathlib.Omega.{arith}
use Rattle.clumps_label.proofs.forest.settle_at.Goals as goal

pub offset_bounds-p-up : goal.offset_bounds-p-up
offset_bounds-p-up c = omega (arith, c.wide-up.ensures, c.requires.left, c.requires.falls.down c.args.i)

pub bounds-p-up : goal.bounds-p-up
bounds-p-up c = omega (arith, c.wide-up.ensures, c.requires.left, c.requires.falls.down c.args.i)

pub returns : goal.returns
returns c = record { stored = ap (λ k. set c.args.p.now c.args.i (get_or c.args.p.now k 0)) c.wide-up.ensures; counted = c.one.ensures ∙ ap (λ k. cond (eqb k c.args.i) 1 0) c.wide-up.ensures }
