use Rattle.neighbor_listing.proofs.Numbered.{numbering_begin, numbering_turn, numbering_end}
use native.Mathlib.Omega.{arith}
use Rattle.neighbor_listing.proofs.running.number.Goals as goal

pub loop-k-init : goal.loop-k-init
loop-k-init c = numbering_begin _

pub loop-k-preserved : goal.loop-k-preserved
loop-k-preserved c = numbering_turn _ _ _ c.loop-k.invariant (omega arith)

pub returns : goal.returns
returns c = numbering_end _ _ _ c.loop-k.invariant (omega arith)
