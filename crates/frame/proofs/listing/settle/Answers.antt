use Prim.Native.Nat.{◌+◌}
use Rattle.candidates.proofs.Runs.{settle_far, settle_skipped, settle_near}
use borrow.Author.Tests.{not-true, not-false}
use mathlib.Core.Path.{◌≡◌}
use native.Mathlib.Omega.{arith}
use Rattle.std.proofs.Common.{ap, not}
use Rattle.frame.proofs.listing.settle.Goals as goal

pub returns-then-not-near : goal.returns-then-not-near
returns-then-not-near c = settle_far _ _ _ _ (not-true _ (ap not c.if-not-near.true))

pub returns-then-excluded : goal.returns-then-excluded
returns-then-excluded c = settle_skipped _ _ _ _ (not-false _ (ap not c.if-not-near.false)) c.excluded.ensures c.if-excluded.true

pub returns : goal.returns
returns c = let e : c.one_more.result ≡ c.args.t.count + 1 = omega (arith, c.one_more.ensures, c.requires.count, c.requires.checks) in rw e (settle_near _ _ _ _ (not-false _ (ap not c.if-not-near.false)) c.excluded.ensures c.if-excluded.false _ c.push.ensures)
