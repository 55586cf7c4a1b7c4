use Prim.Native.Nat.{◌+◌, ◌*◌}
use Rattle.lists.specs.Lists.{each}
use Rattle.sheet_printed.proofs.Parts.{one_pair}
use Rattle.sheet_printed.specs.Printed.{pair_line, pair_lines}
use lib.ListN.{get_or}
use mathlib.Core.Path.{refl}
use native.Mathlib.Omega.{arith}
use Rattle.sheet_printed.proofs.put_pairs.Goals as goal

pub loop-i-init : goal.loop-i-init
unfolding pair_lines each
loop-i-init c = refl

pub loop-i-preserved : goal.loop-i-preserved
unfolding pair_line
loop-i-preserved c = one_pair c.args.pairs.now c.args.out.now c.loop-i.out c.put_two.new.out 21 c.loop-i.i (get_or c.args.pairs.now (2 * c.loop-i.i) 0) (get_or c.args.pairs.now (2 * c.loop-i.i + 1) 0) (omega arith) refl refl c.loop-i.invariant c.put_two.ensures
