use Prim.Native.Nat.{◌+◌}
use Rattle.neighbor_listing.proofs.Sifted.{pair_skipped, pair_listed}
use mathlib.Core.Path.{◌≡◌}
use native.Mathlib.Omega.{arith}
use Rattle.neighbor_listing.proofs.loops.settle.Goals as goal

pub returns-then-is_excluded : goal.returns-then-is_excluded
returns-then-is_excluded c = pair_skipped _ _ _ _ _ c.lower-low.ensures c.higher-high.ensures c.is_excluded.ensures c.if-is_excluded.true

pub returns : goal.returns
returns c = let e : c.one_more.result ≡ c.args.t.count + 1 = omega (arith, c.one_more.ensures, c.requires.count, c.requires.checks) in rw e (pair_listed _ _ _ _ _ c.lower-low.ensures c.higher-high.ensures c.is_excluded.ensures c.if-is_excluded.false _ c.push.ensures)
