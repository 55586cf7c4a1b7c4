use Prim.Native.Nat.{◌+◌, ◌-◌, ◌/◌}
use Rattle.sheet_either.proofs.Either.{two_start, two_is, two_end}
use lib.ListN.{length}
use mathlib.Core.Path.{sym, ◌∙◌}
use native.Mathlib.Omega.{arith}
use Rattle.sheet_either.proofs.is_two.Goals as goal

pub loop-at-init : goal.loop-at-init
loop-at-init c = (omega arith, two_start c.args.s.now)

pub loop-at-preserved : goal.loop-at-preserved
loop-at-preserved c = (omega (arith, c.loop-at.invariant.0), sym (two_is c.args.s.now c.loop-at.at c.two_at-two.result _ c.loop-at-test.true c.loop-at.invariant.0 c.two_at-two.ensures c.in-Exclusion.is) ∙ c.loop-at.invariant.1)

pub returns-in-Exclusion : goal.returns-in-Exclusion
returns-in-Exclusion c = sym (two_end (length c.args.s.now - (c.loop-at.at + 11) / 11) c.args.s.now (c.loop-at.at + 11) (omega arith)) ∙ sym (two_is c.args.s.now c.loop-at.at c.two_at-two.result _ c.loop-at-test.true c.loop-at.invariant.0 c.two_at-two.ensures c.in-Exclusion.is) ∙ c.loop-at.invariant.1
