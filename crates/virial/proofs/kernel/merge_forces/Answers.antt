use Rattle.virial.proofs.Forces.{merged_none, merged_more, merged_past}
use lib.ListN.{length-set}
use mathlib.Core.Path.{refl, sym, ◌∙◌}
use native.Mathlib.Numerals.{add-one}
use native.Mathlib.Omega.{arith}
use Rattle.virial.proofs.kernel.merge_forces.Goals as goal

pub loop-k-init : goal.loop-k-init
loop-k-init c = (c.shorter-n.ensures, refl, merged_none _)

pub loop-k-preserved : goal.loop-k-preserved
loop-k-preserved c = (c.loop-k.invariant.0, simp length-set c.loop-k.invariant.1, rw (c.loop-k.invariant.2, add-one) (sym (merged_more c.args.forces.now c.args.added.now c.loop-k.k (omega arith) (omega arith))))

pub returns : goal.returns
returns c = c.loop-k.invariant.2 ∙ merged_past _ _ c.loop-k.k (omega arith)
