use Rattle.lists.proofs.Loops.{fold_up_to_none, fold_up_to_turn}
use Rattle.virial.specs.Virial.{kinetic_of}
use mathlib.Core.Path.{◌∙◌, sym}
use Rattle.virial.proofs.tensors.kinetic.Goals as goal

pub loop-i-init : goal.loop-i-init
unfolding kinetic_of
loop-i-init c = (c.shorter-n.ensures, c.zero_tensor-p.ensures ∙ sym (fold_up_to_none _ _))

pub loop-i-preserved : goal.loop-i-preserved
unfolding kinetic_of
loop-i-preserved c = (c.loop-i.invariant.0, fold_up_to_turn _ c.loop-i.i _ c.loop-i.invariant.1 (rw (c.with_atom-t.ensures, c.velocity-v.ensures)))
