use lib.Seq.{set_out}
use mathlib.Core.Path.{sym}
use Rattle.neighbor_listing.proofs.tops.raise.Goals as goal

pub returns-then-low-tops : goal.returns-then-low-tops
returns-then-low-tops c = rw c.higher.ensures

pub returns-else-low-tops : goal.returns-else-low-tops
returns-else-low-tops c = sym (set_out _ _ _ c.if-low-tops.false)
