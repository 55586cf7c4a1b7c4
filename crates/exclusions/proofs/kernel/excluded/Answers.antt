use Prim.Native.Nat.{ℕ, ◌/◌}
use Rattle.exclusions.specs.Table.{looked_up, row_at, same_pair}
use lib.Dec.{ltb}
use lib.ListN.{length}
use mathlib.Core.Bool.{◌&&◌}
use mathlib.Core.Path.{◌∙◌, ap}
use Rattle.exclusions.proofs.kernel.excluded.Goals as goal

pub returns : goal.returns
unfolding looked_up
returns c = c.is_at.ensures ∙ ap (λ (k : ℕ). ltb k (length c.args.table.now / 2) && same_pair (row_at c.args.table.now k) (c.args.low, c.args.high)) c.place_of.ensures.value
