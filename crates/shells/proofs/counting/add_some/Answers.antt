use Rattle.lists.proofs.Rows.{length_rows}
use Rattle.shells.proofs.Totals.{up_start, up_end, up_turn, up_full}
use Prim.Native.Nat.{◌/◌}
use lib.ListN.{length}
use mathlib.Core.Path.{◌≡◌}
use native.Mathlib.Omega.{arith}
use Rattle.shells.proofs.counting.add_some.Goals as goal

pub loop-k-init : goal.loop-k-init
loop-k-init c = up_start _ _ _ (λ i. omega (arith, c.type_inv.totals i))

pub returns-then-total : goal.returns-then-total
returns-then-total c = up_full _ _ _ c.loop-k.invariant (rw (length_rows c.args.pairs.now) c.loop-k-test.true) c.shell_at-s.ensures.0 c.shell_at-s.ensures.1 c.if-total.true

pub loop-k-preserved : goal.loop-k-preserved
loop-k-preserved c = up_turn _ _ _ c.loop-k.invariant (rw (length_rows c.args.pairs.now) c.loop-k-test.true) c.shell_at-s.ensures.0 c.shell_at-s.ensures.1 c.if-total.false

pub returns : goal.returns
returns c = let e : c.loop-k.k ≡ length c.args.pairs.now / 2 = omega arith in rw e at (up_end _ _ _ c.loop-k.invariant (rw (length_rows c.args.pairs.now) c.loop-k-test.false))
