use Prim.Native.Nat.{◌+◌}
use Rattle.bins.proofs.Parts.{not_held, held_rest}
use native.Mathlib.Omega.{arith}
use Rattle.bins.proofs.is_held.Goals as goal

pub returns-then-starts-lt2 : goal.returns-then-starts-lt2
returns-then-starts-lt2 c = not_held c.args.cell c.args.starts.now c.args.items.now (omega arith)

pub returns-then-starts-cell : goal.returns-then-starts-cell
returns-then-starts-cell c = not_held c.args.cell c.args.starts.now c.args.items.now (omega arith)

pub overflow_cast-result : goal.overflow_cast-result
overflow_cast-result c = omega (arith, c.type_inv.starts (c.args.cell + 1))

pub returns : goal.returns
returns c = held_rest c.args.cell c.args.starts.now c.args.items.now (omega arith)
